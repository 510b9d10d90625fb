use Rattle.std.proofs.Common.{◌≡◌, take}
use Rattle.map_core.proofs.pool.copy_pools.Given as goal

abbrev pub invariant-loop-pool : goal.invariant-loop-pool
invariant-loop-pool l = l.all.items ≡ take l.pool-index l.pools
