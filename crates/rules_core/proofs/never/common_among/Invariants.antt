use Rattle.std.proofs.Common.{option_copied}
use Rattle.rules_core.proofs.NeverSteps.{Nowhere}
use Rattle.rules_core.proofs.SoFar.{SoFar}
use Rattle.rules_core.proofs.never.common_among.Given as goal

abbrev pub invariant-loop-touch : goal.invariant-loop-touch
invariant-loop-touch l = SoFar (Nowhere (option_copied l.pools) l.region.grants l.entity.grants) l.touches l.touch-index
