use Rattle.std.proofs.Common.{option_copied, arith}
use Rattle.rules_core.proofs.NeverSteps.{Nowhere, met_none, met_some, plain_at, shown_among}
use Rattle.rules_core.proofs.SoFar.{all_so_far, none_yet, one_more}
use Rattle.rules_core.proofs.never.common_among.Goals as goal

pub loop-touch-init : goal.loop-touch-init
loop-touch-init c = none_yet (Nowhere (option_copied c.args.pools) c.args.region.now.grants c.args.entity.now.grants) c.args.touches.now

pub loop-touch-preserved : goal.loop-touch-preserved
loop-touch-preserved c =
    one_more (Nowhere (option_copied c.args.pools) c.args.region.now.grants c.args.entity.now.grants) c.args.touches.now c.loop-touch.touch-index c.touch-item.result (omega arith) c.touch-item.is
    (met_none (option_copied c.args.pools) c.args.region.now.grants c.args.entity.now.grants c.touch-item.result c.touch-item.result c.in_ok-target.field-0 c.in_default.is c.in_ok-target.ensures)
    c.loop-touch.invariant

pub touch_shown-requires-clause-plain : goal.touch_shown-requires-clause-plain
touch_shown-requires-clause-plain c = plain_at c.args.touches.now c.loop-touch.touch-index c.touch-item.result (omega arith) c.touch-item.is c.requires

pub touch_shown-requires-clause-allowed : goal.touch_shown-requires-clause-allowed
touch_shown-requires-clause-allowed c =
    (met_some (option_copied c.args.pools) c.args.region.now.grants c.args.entity.now.grants c.touch-item.result c.touch-item.result c.in_ok-target.field-0 c.in-Some.target c.in-Some.is c.in_ok-target.ensures).0.2

pub returns-in-Some : goal.returns-in-Some
returns-in-Some c =
    let met = met_some (option_copied c.args.pools) c.args.region.now.grants c.args.entity.now.grants c.touch-item.result c.touch-item.result c.in_ok-target.field-0 c.in-Some.target c.in-Some.is c.in_ok-target.ensures in
    shown_among (option_copied c.args.pools) c.args.region.now.grants c.args.entity.now.grants c.args.touches.now c.touch-item.result c.in-Some.target _
    (plain_at c.args.touches.now c.loop-touch.touch-index c.touch-item.result (omega arith) c.touch-item.is c.requires) met.0 met.1 c.in_ok-shown.ensures

pub returns : goal.returns
returns c = all_so_far (Nowhere (option_copied c.args.pools) c.args.region.now.grants c.args.entity.now.grants) c.args.touches.now c.loop-touch.touch-index (omega arith) c.loop-touch.invariant
