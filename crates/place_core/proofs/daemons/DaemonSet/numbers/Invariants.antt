use Rattle.std.proofs.Common.{◌≡◌, ◌≤◌, take, length, false, filter, slice_index_or}
use Rattle.std.specs.List.{range_with_len}
use Rattle.place_core.proofs.daemons.DaemonSet.numbers.Given as goal

abbrev pub invariant-loop-daemon : goal.invariant-loop-daemon
invariant-loop-daemon l = record {
  few : l.count ≤ l.daemon;
  long : length l.numbers ≡ 16;
  list : take l.count l.numbers ≡ filter (λ d. slice_index_or l.self-inside.flags d false) (range_with_len 0 l.daemon);
}
