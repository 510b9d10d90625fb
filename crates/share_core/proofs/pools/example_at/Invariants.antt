use Rattle.share_core.proofs.InPools.{NoneBefore}
use Rattle.share_core.proofs.pools.example_at.Given as goal

-- no grant so far reaches any of the others
abbrev pub invariant-loop-mine : goal.invariant-loop-mine
invariant-loop-mine l = NoneBefore l.pool l.one l.other l.ones l.others l.mine-index
