use Rattle.std.proofs.Common.{◌≡◌, ◌≤◌, map, vec_len}
use Rattle.std.specs.Vec.{vec_capacity}
use Rattle.cluster.specs.Workers.{first_fault, pass_of, fault_of}
use Rattle.cluster.proofs.workers.dismiss.Given as goal

abbrev pub invariant-loop-worker : goal.invariant-loop-worker
invariant-loop-worker l = record {
  made : l.passes.items ≡ map pass_of l.yielded;
  told : l.first ≡ first_fault (map fault_of l.yielded);
  room : vec_len l.fn.workers ≤ vec_capacity l.passes;
}
