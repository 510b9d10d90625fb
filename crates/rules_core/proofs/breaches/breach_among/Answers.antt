use Rattle.std.proofs.Common.{◌≡◌, false, is_some, option_copied, arith, rules}
use Rattle.rules_core.proofs.Addressing.{NoneAt, none_anywhere, none_there}
use Rattle.rules_core.proofs.SoFar.{all_so_far, one_more}
use Rattle.rules_core.proofs.breaches.breach_among.Goals as goal

pub loop-address-preserved : goal.loop-address-preserved
loop-address-preserved c =
    let none : is_some c.in_ok-found.found ≡ false = cc in
    one_more (NoneAt c.args.demand (option_copied c.args.pools) c.args.region.now.grants c.args.entity.now.grants) c.args.samples.now c.loop-address.address-index _ (omega arith) (search rules)
    (none_there c.args.demand (option_copied c.args.pools) c.args.region.now c.args.entity.now c.in_ok-here.here c.in_ok-there.there _ c.in_ok-found.found c.in_ok-here.ensures c.in_ok-there.ensures none c.in_ok-found.ensures)
    c.loop-address.invariant

pub returns : goal.returns
returns c =
    none_anywhere c.args.demand (option_copied c.args.pools) c.args.region.now c.args.entity.now c.args.samples.now c.requires
    (all_so_far (NoneAt c.args.demand (option_copied c.args.pools) c.args.region.now.grants c.args.entity.now.grants) c.args.samples.now c.loop-address.address-index (omega arith) c.loop-address.invariant)
