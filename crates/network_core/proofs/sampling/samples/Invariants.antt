use Rattle.std.proofs.Common.{◌≤◌, ◌+◌, ◌*◌, take, vec_len, All}
use Rattle.std.specs.List.{Contains}
use Rattle.network_core.specs.declared.address.Address.TheVariants.{V4, V6}
use Rattle.network_core.specs.Address.{IsAddress}
use Rattle.network_core.specs.Edges.{HasEdges}
use Rattle.network_core.proofs.sampling.samples.Given as goal

abbrev pub invariant-loop-network : goal.invariant-loop-network
invariant-loop-network l = record {
  addresses : All IsAddress l.samples.items;
  four : Contains l.samples.items (V4 0);
  six : Contains l.samples.items (V6 0);
  edges : All (HasEdges l.samples.items) (take l.network-index l.networks);
  few : vec_len l.samples ≤ 2 + 2 * l.network-index;
}
