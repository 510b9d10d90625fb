use Rattle.std.proofs.Common.{option_copied}
use Rattle.rules_core.proofs.CrossingSteps.{no_first, no_second, pair_meets, pair_shown, request_none, request_some}
use Rattle.rules_core.proofs.apart.pair_by.Goals as goal

pub returns-in_default-2 : goal.returns-in_default-2
returns-in_default-2 c =
    no_first (option_copied c.args.pools) c.args.ones.now.grants c.args.others.now.grants c.args.one_writes c.args.other_writes c.in-Some.target
    (pair_meets (option_copied c.args.pools) c.args.ones.now.grants c.args.others.now.grants c.args.one_writes c.args.other_writes c.any_touch-one.result c.any_touch-other.result c.in_ok-target.field-0 c.in-Some.target
    c.any_touch-one.ensures c.any_touch-other.ensures c.in-Some.is c.in_ok-target.ensures).0
    (request_none c.args.ones.now.grants c.grants.result.now c.in-Some.target c.args.one_writes c.in_ok-one.field-0 c.grants.ensures.grants c.in_default-2.is c.in_ok-one.ensures)

pub returns-in_default-3 : goal.returns-in_default-3
returns-in_default-3 c =
    no_second (option_copied c.args.pools) c.args.ones.now.grants c.args.others.now.grants c.args.one_writes c.args.other_writes c.in-Some.target
    (pair_meets (option_copied c.args.pools) c.args.ones.now.grants c.args.others.now.grants c.args.one_writes c.args.other_writes c.any_touch-one.result c.any_touch-other.result c.in_ok-target.field-0 c.in-Some.target
    c.any_touch-one.ensures c.any_touch-other.ensures c.in-Some.is c.in_ok-target.ensures).0
    (request_none c.args.others.now.grants c.grants-2.result.now c.in-Some.target c.args.other_writes c.in_ok-other.field-0 c.grants-2.ensures.grants c.in_default-3.is c.in_ok-other.ensures)

pub returns : goal.returns
returns c =
    let met = pair_meets (option_copied c.args.pools) c.args.ones.now.grants c.args.others.now.grants c.args.one_writes c.args.other_writes c.any_touch-one.result c.any_touch-other.result c.in_ok-target.field-0 c.in-Some.target
    c.any_touch-one.ensures c.any_touch-other.ensures c.in-Some.is c.in_ok-target.ensures in
    pair_shown (option_copied c.args.pools) c.args.ones.now.grants c.args.others.now.grants c.args.one_writes c.args.other_writes c.in-Some.target c.in-Some-2.one c.in-Some-3.other met.0 met.1
    (request_some c.args.ones.now.grants c.grants.result.now c.in-Some.target c.args.one_writes c.in_ok-one.field-0 c.in-Some-2.one c.grants.ensures.grants c.in-Some-2.is c.in_ok-one.ensures)
    (request_some c.args.others.now.grants c.grants-2.result.now c.in-Some.target c.args.other_writes c.in_ok-other.field-0 c.in-Some-3.other c.grants-2.ensures.grants c.in-Some-3.is c.in_ok-other.ensures)
