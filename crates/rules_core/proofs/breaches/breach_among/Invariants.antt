use Rattle.std.proofs.Common.{option_copied}
use Rattle.rules_core.proofs.Addressing.{NoneAt}
use Rattle.rules_core.proofs.SoFar.{SoFar}
use Rattle.rules_core.proofs.breaches.breach_among.Given as goal

abbrev pub invariant-loop-address : goal.invariant-loop-address
invariant-loop-address l = SoFar (NoneAt l.demand (option_copied l.pools) l.region.grants l.entity.grants) l.samples l.address-index
