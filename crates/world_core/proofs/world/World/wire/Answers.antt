use Rattle.std.proofs.Common.{rules, ◌≡◌, ◌<◌, Some, None, length}
use Rattle.world_front.specs.ControlPlane.{group_refusal}
use Rattle.world_core.specs.World.{group_at}
use Rattle.world_core.proofs.GroupsOf.{asked_found, asked_place, asked_there}
use Rattle.world_core.proofs.world.World.wire.Goals as goal

pub index-found-requires : goal.index-found-requires
index-found-requires c =
    let low : c.in-Ok.place < length c.self.inside.groups.items =
    (asked_place c.self.inside.front c.self.inside.groups.items c.self.inside.runs.items c.args.group.now c.in-Ok.place c.map.result.now c.self.invariant c.map.ensures c.in-Ok.ensures.place).within in
    search rules

pub returns : goal.returns
returns c =
    let found : group_at c.args.group.now c.self.inside.groups.items ≡ Some c.index-found.result.now =
    asked_found c.self.inside.front c.self.inside.groups.items c.self.inside.runs.items c.args.group.now c.in-Ok.place c.map.result.now c.index-found.result.now c.self.invariant c.map.ensures c.in-Ok.ensures.place c.index-found.ensures in
    let none : group_refusal c.self.inside.front c.args.group.now ≡ None = asked_there c.self.inside.front c.args.group.now c.map.result.now None c.map.ensures c.in-Ok.ensures.refused in
    rw (← c.self.view_is) (record { wire = rw found c.wire.ensures; refused = none })

pub returns-in-Err : goal.returns-in-Err
returns-in-Err c = rw (← c.self.view_is) (record { wire = tt; refused = asked_there c.self.inside.front c.args.group.now c.map.result.now (Some c.in-Err.fault) c.map.ensures c.in-Err.ensures.refused })
