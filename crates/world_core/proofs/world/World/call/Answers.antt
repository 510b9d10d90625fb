use Rattle.world_core.specs.Applying.{event_for, told_call}
use Rattle.world_core.specs.Inside.{world_of}
use Rattle.world_core.proofs.Messages.{called_none, kept_on, lost_exactly, lost_nowhere}
use Rattle.world_core.proofs.GroupsOf.{asked_place, asked_there, call_done}
use Rattle.world_core.proofs.world.World.call.Goals as goal

pub call_at-done-requires : goal.call_at-done-requires
call_at-done-requires c =
    (asked_place c.self.inside.front c.self.inside.groups.items c.self.inside.runs.items c.args.group.now c.in-Ok.place c.map.result.now c.self.invariant c.map.ensures c.in-Ok.ensures.place).within

pub invariant_of-self : goal.invariant_of-self
invariant_of-self c =
    let d = call_done c.self.inside.front c.self.inside.groups.items c.self.inside.runs.items c.args.group.now c.args.what c.in-Ok.place c.map.result.now c.call_at-done.result c.call_at-done.new.groups.items c.call_at-done.new.runs.items
    c.self.invariant c.map.ensures c.in-Ok.ensures.refused c.in-Ok.ensures.place c.call_at-done.ensures.called in
    kept_on c.self.inside.front c.self.inside.front c.self.inside.groups.items c.call_at-done.new.groups.items c.self.inside.runs.items c.call_at-done.new.runs.items (event_for c.args.group.now c.args.what) (told_call c.call_at-done.result) c.self.invariant d.applies d.fit

pub returns : goal.returns
returns c =
    let d = call_done c.self.inside.front c.self.inside.groups.items c.self.inside.runs.items c.args.group.now c.args.what c.in-Ok.place c.map.result.now c.call_at-done.result c.call_at-done.new.groups.items c.call_at-done.new.runs.items
    c.self.invariant c.map.ensures c.in-Ok.ensures.refused c.in-Ok.ensures.place c.call_at-done.ensures.called in
    let w = world_of c.self.inside.front c.self.inside.groups.items c.self.inside.runs.items in
    record {
      applies = rw (c.told.ensures, ← c.self.view_is) d.applies;
      lost = rw (c.told.ensures, ← c.self.view_is) (lost_exactly w c.args.group.now c.args.what c.call_at-done.result d.applies.refused c.call_at-done.ensures.lost);
    }

pub returns-in-Err : goal.returns-in-Err
returns-in-Err c =
    let w = world_of c.self.inside.front c.self.inside.groups.items c.self.inside.runs.items in
    let none = asked_there c.self.inside.front c.args.group.now c.map.result.now _ c.map.ensures c.in-Err.ensures.refused in
    record {
      applies = rw (← c.self.view_is) (called_none w c.args.group.now c.args.what c.in-Err.fault none);
      lost = rw (← c.self.view_is) (lost_nowhere w c.args.group.now c.args.what c.in-Err.fault none);
    }
