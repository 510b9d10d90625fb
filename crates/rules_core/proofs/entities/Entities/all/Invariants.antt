use Rattle.rules_core.proofs.NearSteps.{AreFirst}
use Rattle.rules_core.proofs.entities.Entities.all.Given as goal

abbrev pub invariant-loop-place : goal.invariant-loop-place
invariant-loop-place l = AreFirst l.places.items l.place
