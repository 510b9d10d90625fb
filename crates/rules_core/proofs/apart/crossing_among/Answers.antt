use Rattle.std.proofs.Common.{◌≡◌, false, is_some, option_copied, arith, rules}
use Rattle.rules_core.proofs.CrossingSteps.{ApartFrom, apart_anywhere, apart_from}
use Rattle.rules_core.proofs.SoFar.{all_so_far, one_more}
use Rattle.rules_core.proofs.apart.crossing_among.Goals as goal

pub loop-address-preserved : goal.loop-address-preserved
loop-address-preserved c =
    let none : is_some c.in_ok-found.found ≡ false = cc in
    one_more (ApartFrom (option_copied c.args.pools) c.args.one.now.grants c.args.other.now.grants c.args.samples.now) c.args.samples.now c.loop-address.address-index _ (omega arith) (search rules)
    (apart_from (option_copied c.args.pools) c.args.one.now c.args.other.now c.in_ok-here.here c.args.samples.now _ c.in_ok-found.found c.in_ok-here.ensures none c.in_ok-found.ensures) c.loop-address.invariant

pub returns : goal.returns
returns c =
    apart_anywhere (option_copied c.args.pools) c.args.one.now c.args.other.now c.args.samples.now c.requires
    (all_so_far (ApartFrom (option_copied c.args.pools) c.args.one.now.grants c.args.other.now.grants c.args.samples.now) c.args.samples.now c.loop-address.address-index (omega arith) c.loop-address.invariant)
