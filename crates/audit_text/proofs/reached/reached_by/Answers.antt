use Rattle.std.proofs.Common.{arith}
use Rattle.audit_text.proofs.Found.{next_found, whole_found}
use Rattle.audit_text.proofs.reached.reached_by.Goals as goal

pub loop-entity-preserved : goal.loop-entity-preserved
loop-entity-preserved c =
    next_found c.args.pools.now c.args.entities.now c.loop-entity.entity-index c.entity-item.result c.loop-entity.all.items _ c.in_ok-found.found (omega arith) c.entity-item.is c.loop-entity.invariant c.in_ok-found.ensures
    c.in_ok-push_found.ensures

pub returns : goal.returns
returns c = whole_found c.args.pools.now c.args.entities.now c.loop-entity.entity-index c.loop-entity.all.items c.loop-entity-test.false c.loop-entity.invariant
