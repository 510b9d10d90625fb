use Rattle.std.proofs.Common.{arith, sym, ap, subst, map, length, ◌<◌, ◌∙◌}
use Rattle.rights_core.specs.Rights.{ticket_at}
use Rattle.audit_core.proofs.Extents.{next_cell, whole_cells}
use Rattle.audit_core.proofs.reaching.cells.Goals as goal

pub loop-pool-preserved : goal.loop-pool-preserved
loop-pool-preserved c =
    next_cell c.args.rights.now c.args.tick c.args.pools.now c.loop-pool.pool-index c.pool-item.result c.in_ok-samples.samples.items c.as_slice-tickets.result.now
    c.loop-pool.cells.items _ c.cell.result (omega arith) c.pool-item.is c.loop-pool.invariant c.in_ok-samples.ensures.samples (subst (λ n. 0 < n) (sym (ap length (sym c.as_slice.ensures.value) ∙ c.as_slice.ensures.len)) c.in_ok-samples.ensures.some)
    (c.as_slice-tickets.ensures.value ∙ (c.in_ok-tickets.ensures ∙ ap (λ l. map (ticket_at c.args.rights.now) l) c.as_slice.ensures.value)) c.cell.ensures c.in_ok-push.ensures.items

pub returns : goal.returns
returns c = whole_cells c.args.rights.now c.args.tick c.args.pools.now c.loop-pool.pool-index c.loop-pool.cells.items c.loop-pool-test.false c.loop-pool.invariant
