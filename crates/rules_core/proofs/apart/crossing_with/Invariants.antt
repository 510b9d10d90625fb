use Rattle.std.proofs.Common.{None, option_copied}
use Rattle.rights_core.specs.Rights.{grants_at}
use Rattle.rules_core.specs.Breaking.{IsCrossedBy}
use Rattle.rules_core.proofs.SoFar.{SoFar}
use Rattle.rules_core.proofs.apart.crossing_with.Given as goal

abbrev pub invariant-loop-address : goal.invariant-loop-address
invariant-loop-address l = SoFar (λ b. IsCrossedBy (option_copied l.pools) l.here.grants (grants_at l.other.grants b) None) l.samples l.address-index
