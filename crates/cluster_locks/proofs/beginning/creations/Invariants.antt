use Rattle.std.proofs.Common.{◌≡◌, map}
use Rattle.cluster_locks.specs.Beginning.{creation_of}
use Rattle.cluster_locks.proofs.beginning.creations.Given as goal

abbrev pub invariant-loop-pool : goal.invariant-loop-pool
invariant-loop-pool l = l.events.items ≡ map creation_of l.yielded
