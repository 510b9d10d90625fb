use Rattle.std.proofs.Common.{◌≡◌, ◌≤◌, map, vec_len}
use Rattle.std.specs.Vec.{vec_capacity}
use Rattle.cluster.specs.Workers.{pass_of}
use Rattle.cluster.proofs.workers.enlist.Given as goal

abbrev pub invariant-loop-pass : goal.invariant-loop-pass
invariant-loop-pass l = record {
  made : map pass_of l.workers.items ≡ l.yielded;
  room : vec_len l.fn.passes ≤ vec_capacity l.workers;
}
