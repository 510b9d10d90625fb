use Rattle.rules_core.specs.Near.{AreIndexed}
use Rattle.rules_core.proofs.entities.Entities.of.Given as goal

abbrev pub invariant-loop-place : goal.invariant-loop-place
invariant-loop-place l = AreIndexed l.subjects l.place l.tickets l.places.items l.others.items
