use Rattle.std.proofs.Common.{sym, ap, ◌∙◌}
use Rattle.std.specs.Option.{option_copied}
use Rattle.map_core.specs.PoolLimits.{IsPool}
use Rattle.map_core.specs.Map.{is_named, pool_in}
use Rattle.map_core.proofs.IntervalLists.{All-find, if_some_along}
use Rattle.map_core.proofs.acting_sets.size_in.Goals as goal

pub returns-in-Some-clause-small : goal.returns-in-Some-clause-small
unfolding pool_in
returns-in-Some-clause-small c =
    let found = ap option_copied (sym c.in-Some.is) ∙ c.find_pool.ensures in
    (if_some_along _ _ IsPool found (All-find IsPool (is_named c.args.name.now) c.args.pools.now c.requires)).few_daemons
