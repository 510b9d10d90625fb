use Rattle.std.proofs.Common.{string_bytes, take}
use Rattle.who_text.specs.Table.{IsRow}
use Rattle.who_text.specs.Who.{AreInOrder}
use Rattle.who_text.proofs.table.rows_of.Given as goal

-- the rows of the entities so far
abbrev pub invariant-loop-entity : goal.invariant-loop-entity
invariant-loop-entity l = AreInOrder (IsRow l.format l.width l.requests) (take l.entity-index l.entities) (string_bytes l.text)
