use Rattle.std.proofs.Common.{take}
use Rattle.audit_text.specs.Reached.{AreFound}
use Rattle.audit_text.proofs.reached.reached_by.Given as goal

-- those so far
abbrev pub invariant-loop-entity : goal.invariant-loop-entity
invariant-loop-entity l = AreFound l.pools (take l.entity-index l.entities) l.all.items
