use Rattle.std.proofs.Common.{◌≡◌, length, vec_len}
use Rattle.cluster.specs.Begun.{HasChangedNothing, AreIdle}
use Rattle.cluster.proofs.starting.all_passes.Given as goal

abbrev pub invariant-loop-own : goal.invariant-loop-own
invariant-loop-own l = record {
  monitor : HasChangedNothing l.cluster l.monitor;
  count : vec_len l.passes ≡ length l.yielded;
  passes : AreIdle l.cluster l.passes.items;
}
