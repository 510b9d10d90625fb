use Rattle.std.proofs.Common.{◌≡◌, ◌++◌, map}
use Rattle.cluster_locks.specs.Beginning.{addition_of}
use Rattle.cluster_locks.proofs.beginning.with_users.Given as goal

abbrev pub invariant-loop-user : goal.invariant-loop-user
invariant-loop-user l = l.events.items ≡ l.initial.events.items ++ map addition_of l.yielded
