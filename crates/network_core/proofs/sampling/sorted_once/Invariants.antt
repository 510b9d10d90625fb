use Rattle.std.proofs.Common.{◌≤◌, take, vec_len, All}
use Rattle.std.specs.List.{Contains}
use Rattle.network_core.specs.Address.{IsAddress}
use Rattle.network_core.proofs.sampling.sorted_once.Given as goal

abbrev pub invariant-loop-sample : goal.invariant-loop-sample
invariant-loop-sample l = record {
  has : All (Contains l.kept.items) (take l.sample-index l.sorted);
  addresses : All IsAddress l.sorted → All IsAddress l.kept.items;
  few : vec_len l.kept ≤ l.sample-index;
}
