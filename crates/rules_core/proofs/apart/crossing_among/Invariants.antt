use Rattle.std.proofs.Common.{option_copied}
use Rattle.rules_core.proofs.CrossingSteps.{ApartFrom}
use Rattle.rules_core.proofs.SoFar.{SoFar}
use Rattle.rules_core.proofs.apart.crossing_among.Given as goal

abbrev pub invariant-loop-address : goal.invariant-loop-address
invariant-loop-address l = SoFar (ApartFrom (option_copied l.pools) l.one.grants l.other.grants l.samples) l.samples l.address-index
