use Rattle.std.proofs.Common.{sym, ◌∙◌}
use Rattle.map_core.proofs.Current.{limits_now, set_is, set_is_none}
use Rattle.map_core.proofs.Daemons.{set_shown}
use Rattle.map_core.specs.Inside.{history_of}
use Rattle.map_core.proofs.map.ClusterMap.acting_set.Goals as goal

pub size_in-requires : goal.size_in-requires
size_in-requires c = limits_now c.self.inside.daemons c.self.inside.commands.items c.self.inside.pools.items _ c.self.invariant.accepted c.self.invariant.pools c.as_slice.ensures.value

pub returns-in-None-clause-members : goal.returns-in-None-clause-members
returns-in-None-clause-members c =
    sym (set_is_none c.args.self.now c.self.inside.daemons c.self.inside.commands.items c.self.inside.pools.items c.as_slice.result.now c.self.inside.up c.args.pool.now c.args.group
    c.self.view_is c.self.invariant.pools c.self.invariant.up c.as_slice.ensures.value (sym c.size_in.ensures.value ∙ c.in-None.is))

pub returns-in-Some-clause-members : goal.returns-in-Some-clause-members
returns-in-Some-clause-members c =
    sym (set_is c.args.self.now c.self.inside.daemons c.self.inside.commands.items c.self.inside.pools.items c.as_slice.result.now c.self.inside.up c.args.pool.now c.args.group c.in-Some.size c.set_of_size.result
    c.self.view_is c.self.invariant.pools c.self.invariant.up c.as_slice.ensures.value (sym c.size_in.ensures.value ∙ c.in-Some.is) c.set_of_size.ensures)

pub returns-in-Some-clause-ranked : goal.returns-in-Some-clause-ranked
returns-in-Some-clause-ranked c = set_shown (history_of c.self.inside) c.args.self.now c.args.pool.now c.args.group c.set_of_size.result c.self.invariant.accepted c.self.view_is (sym (returns-in-Some-clause-members c))
