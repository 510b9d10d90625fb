use Rattle.std.proofs.Common.{take, All}
use Rattle.std.specs.List.{Contains}
use Rattle.network_core.specs.declared.network.Network.{Network}
use Rattle.rights_core.specs.Given.{HasNetwork}
use Rattle.rights_core.proofs.rights.Rights.push_networks.Given as goal

abbrev pub invariant-loop-network : goal.invariant-loop-network
invariant-loop-network l = record {
  has : All (HasNetwork l.list.items) (take l.network-index l.networks);
  keeps : (n : Network) → Contains l.fn.list.items n → Contains l.list.items n;
}
