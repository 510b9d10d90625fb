use Rattle.rules_core.proofs.NarrowSteps.{LacksNothing}
use Rattle.rules_core.proofs.SoFar.{SoFar}
use Rattle.rules_core.proofs.always.lacking_in_some.Given as goal

abbrev pub invariant-loop-pool : goal.invariant-loop-pool
invariant-loop-pool l = SoFar (LacksNothing l.region.grants l.entity.grants) l.pools l.pool-index
