use Rattle.std.proofs.Common.{◌≡◌, true, false, is_some, arith}
use Rattle.rules_core.proofs.NarrowSteps.{LacksNothing, lacks_in_found, lacks_in_not, nothing_among}
use Rattle.rules_core.proofs.SoFar.{all_so_far, one_more}
use Rattle.rules_core.proofs.always.lacking_in_some.Goals as goal

pub returns-then-is_some : goal.returns-then-is_some
returns-then-is_some c =
    let some : is_some c.in_ok-found.found ≡ true = cc in
    lacks_in_found c.args.pools.now c.loop-pool.pool-index c.pool-item.result c.args.region.now.grants c.args.entity.now.grants c.in_ok-found.found (omega arith) c.pool-item.is some c.in_ok-found.ensures

pub loop-pool-preserved : goal.loop-pool-preserved
loop-pool-preserved c =
    let none : is_some c.in_ok-found.found ≡ false = cc in
    one_more (LacksNothing c.args.region.now.grants c.args.entity.now.grants) c.args.pools.now c.loop-pool.pool-index c.pool-item.result (omega arith) c.pool-item.is
    (lacks_in_not c.pool-item.result c.args.region.now.grants c.args.entity.now.grants c.in_ok-found.found none c.in_ok-found.ensures) c.loop-pool.invariant

pub returns : goal.returns
returns c =
    nothing_among c.args.pools.now c.args.region.now.grants c.args.entity.now.grants
    (all_so_far (LacksNothing c.args.region.now.grants c.args.entity.now.grants) c.args.pools.now c.loop-pool.pool-index (omega arith) c.loop-pool.invariant)
