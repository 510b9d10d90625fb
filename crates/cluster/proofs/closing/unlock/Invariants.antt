use Rattle.std.proofs.Common.{◌≡◌, ◌≤◌, map, vec_len}
use Rattle.std.specs.Vec.{vec_capacity}
use Rattle.cluster_locks.specs.Groups.{group_in}
use Rattle.cluster.proofs.closing.unlock.Given as goal

abbrev pub invariant-loop-placed : goal.invariant-loop-placed
invariant-loop-placed l = record {
  groups : l.groups.items ≡ map group_in l.yielded;
  room : vec_len l.fn.locked ≤ vec_capacity l.groups;
}
