use Rattle.rules_core.proofs.NarrowSteps.{IsSilent}
use Rattle.rules_core.proofs.SoFar.{SoFar}
use Rattle.rules_core.proofs.always.lacking_anywhere.Given as goal

abbrev pub invariant-loop-entry : goal.invariant-loop-entry
invariant-loop-entry l = SoFar (IsSilent l.entity.grants) l.region l.entry-index
