use Rattle.std.proofs.Common.{◌≡◌, ℕ, ◌<◌, fold, length, slice_index}
use Rattle.std.specs.Fmt.{decimal}
use Rattle.place_core.specs.Placement.{fnv_step}
use Rattle.place_core.proofs.hashing.rank_values.Given as goal

abbrev pub invariant-loop-daemon : goal.invariant-loop-daemon
invariant-loop-daemon l = record {
  long : length l.values ≡ 16;
  values : (d : ℕ) → d < l.daemon → slice_index l.values d ≡ fold fnv_step l.front (decimal d);
}
