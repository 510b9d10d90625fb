use Rattle.std.proofs.Common.{take}
use Rattle.audit_core.specs.Reached.{AreCells}
use Rattle.audit_core.proofs.reaching.cells.Given as goal

-- the cells of the pools so far
abbrev pub invariant-loop-pool : goal.invariant-loop-pool
invariant-loop-pool l = AreCells l.rights l.tick (take l.pool-index l.pools) l.cells.items
