use Rattle.share_core.proofs.InPools.{NoneSoFar}
use Rattle.share_core.proofs.pools.example_in.Given as goal

-- what is found in the rest of the pools is what is found in all
abbrev pub invariant-loop-pool : goal.invariant-loop-pool
invariant-loop-pool l = NoneSoFar l.pools l.one l.other l.ones.grants l.others.grants l.pool-index
