use Rattle.std.proofs.Common.{◌≡◌, false, is_some, option_copied}
use Rattle.rules_core.proofs.CrossingSteps.{crossed_last}
use Rattle.rules_core.proofs.apart.crossed_by.Goals as goal

pub returns : goal.returns
returns c =
    let both : is_some c.in_ok-both.both ≡ false = cc in
    let writes : is_some c.in_ok-writes.writes ≡ false = cc in
    crossed_last (option_copied c.args.pools) c.args.ones.now.grants c.args.others.now.grants c.in_ok-both.both c.in_ok-writes.writes c.in_ok-reads.reads both writes c.in_ok-both.ensures c.in_ok-writes.ensures c.in_ok-reads.ensures
