use Rattle.std.proofs.Common.{string_bytes, take}
use Rattle.who_text.specs.Who.{AreInOrder, IsTold}
use Rattle.who_text.proofs.who.told_pieces.Given as goal

-- what is printed of the entities so far
abbrev pub invariant-loop-entity : goal.invariant-loop-entity
invariant-loop-entity l = AreInOrder (IsTold l.how.format l.how.all l.asked) (take l.entity-index l.entities) (string_bytes l.text)
