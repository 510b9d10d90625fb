use Rattle.std.proofs.Common.{◌≡◌, ◌-◌, ◌++◌, length, take, replicate}
use Rattle.place_core.proofs.acting_sets.ActingSet.from_slice.Given as goal

abbrev pub invariant-loop-place : goal.invariant-loop-place
invariant-loop-place l = record {
  long : length l.padded ≡ 5;
  filled : l.padded ≡ take l.place l.members ++ replicate (5 - l.place) 0;
}
