use Rattle.std.proofs.Common.{sym, ◌∙◌, ap, set, position}
use Rattle.map_core.specs.Map.{is_named, tagged}
use Rattle.map_core.proofs.FirstPlaces.{change_first_at, change_first_none}
use Rattle.map_core.proofs.edits.change_named.Goals as goal

pub returns-in-None-clause-ok : goal.returns-in-None-clause-ok
returns-in-None-clause-ok c = sym (change_first_none (is_named c.args.name.now) (tagged c.args.command.now) c.args.pools.now.items (ap (position (is_named c.args.name.now)) (sym c.deref.ensures.value) ∙ sym c.pool_place.ensures ∙ c.in-None.is))

pub returns-in_ok-change_pool-in-Some-clause-ok : goal.returns-in_ok-change_pool-in-Some-clause-ok
returns-in_ok-change_pool-in-Some-clause-ok c =
    ap (set c.args.pools.now.items c.in-Some.place) c.in_ok-change_pool-in-Some.ensures.ok
    ∙ change_first_at (is_named c.args.name.now) (tagged c.args.command.now) c.args.pools.now.items c.in-Some.place c.index_mut-pool.result.now (ap (position (is_named c.args.name.now)) (sym c.deref.ensures.value) ∙ sym c.pool_place.ensures ∙ c.in-Some.is) c.index_mut-pool.ensures.value
