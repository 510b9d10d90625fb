use Rattle.std.proofs.Common.{◌≡◌, map}
use Rattle.cluster_locks.specs.Groups.{group_in}
use Rattle.cluster.proofs.starting.to_lock.Given as goal

abbrev pub invariant-loop-group : goal.invariant-loop-group
invariant-loop-group l = map group_in l.locked.items ≡ l.yielded
