use Rattle.std.proofs.Common.{sym, ◌∙◌, ap}
use Rattle.place_core.specs.Placement.{acting_of, numbers_of}
use Rattle.map_core.proofs.Current.{limits_now, set_is, group_has_size}
use Rattle.map_core.specs.Intervals.{size_in}
use Rattle.map_core.specs.Inside.{history_of}
use Rattle.map_core.proofs.Daemons.{set_shown}
use Rattle.map_core.proofs.map.ClusterMap.acting.Goals as goal

pub size_in-requires : goal.size_in-requires
size_in-requires c = limits_now c.self.inside.daemons c.self.inside.commands.items c.self.inside.pools.items _ c.self.invariant.accepted c.self.invariant.pools c.as_slice-2.ensures.value

pub unreachable-requires : goal.unreachable-requires
unreachable-requires c =
    group_has_size c.as_slice.result.now c.args.pool.now c.args.group (sym c.acting_refusal.ensures ∙ c.in_default.is)
    (ap (λ l. size_in l c.args.pool.now) (c.as_slice.ensures.value ∙ sym c.as_slice-2.ensures.value) ∙ sym c.size_in.ensures.value ∙ c.in-None.is)

pub returns-clause-members : goal.returns-clause-members
returns-clause-members c =
    set_is c.args.self.now c.self.inside.daemons c.self.inside.commands.items c.self.inside.pools.items c.as_slice-2.result.now c.self.inside.up c.args.pool.now c.args.group c.in-Some-size_in.size _
    c.self.view_is c.self.invariant.pools c.self.invariant.up c.as_slice-2.ensures.value (sym c.size_in.ensures.value ∙ c.in-Some-size_in.is)
    (c.in_ok-members-in-Some-size_in.ensures.counted ∙ ap (λ p. acting_of p c.args.group (numbers_of c.self.inside.up) c.in-Some-size_in.size) c.as_str.ensures)

pub returns-clause-ranked : goal.returns-clause-ranked
returns-clause-ranked c = set_shown (history_of c.self.inside) c.args.self.now c.args.pool.now c.args.group _ c.self.invariant.accepted c.self.view_is (returns-clause-members c)
