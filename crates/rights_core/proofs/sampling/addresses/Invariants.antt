use Rattle.std.proofs.Common.{take, map, All}
use Rattle.rights_core.specs.Given.{HasNetworks}
use Rattle.rights_core.proofs.sampling.addresses.Given as goal

abbrev pub invariant-loop-rights : goal.invariant-loop-rights
invariant-loop-rights l = All (λ rights. HasNetworks l.networks.items rights.now.grants) (take l.rights-index l.all)
