use Rattle.world_core.specs.Inside.{world_of}
use Rattle.world_core.proofs.GroupsOf.{are_groups}
use Rattle.world_core.proofs.MapEvents.{mapped, mapped_kept}
use Rattle.world_core.proofs.world.World.change_map.Goals as goal

pub apply_map-requires : goal.apply_map-requires
apply_map-requires c = are_groups (world_of c.self.inside.front c.self.inside.groups.items c.self.inside.runs.items) c.self.invariant.sound

pub invariant_of-self : goal.invariant_of-self
invariant_of-self c = mapped_kept c.self.inside.front c.apply_map.new.front c.self.inside.groups.items c.apply_map.new.groups.items c.self.inside.runs.items c.args.command c.apply_map.result c.self.invariant
    (record { front = c.apply_map.ensures.front; groups = c.apply_map.ensures.groups; tells = c.apply_map.ensures.tells; refused = c.apply_map.ensures.refused; unchanged = c.apply_map.ensures.unchanged })

pub returns : goal.returns
returns c = rw (← c.self.view_is) (mapped c.self.inside.front c.apply_map.new.front c.self.inside.groups.items c.apply_map.new.groups.items c.self.inside.runs.items c.args.command c.apply_map.result c.self.invariant.fit
    (record { front = c.apply_map.ensures.front; groups = c.apply_map.ensures.groups; tells = c.apply_map.ensures.tells; refused = c.apply_map.ensures.refused; unchanged = c.apply_map.ensures.unchanged })).applies
