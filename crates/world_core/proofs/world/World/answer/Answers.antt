use Rattle.std.proofs.Common.{rules, ◌≡◌, ◌<◌, Some, length}
use Rattle.entry_core.specs.Locality.{group_for}
use Rattle.world_core.specs.World.{group_at}
use Rattle.world_core.proofs.Answering.{submitted_for, answered_by, unrefused, refused}
use Rattle.world_core.proofs.GroupsOf.{asked_found, asked_place}
use Rattle.world_core.proofs.world.World.answer.Goals as goal

pub place_of_request-place-requires : goal.place_of_request-place-requires
place_of_request-place-requires c =
    submitted_for c.self.inside.front c.self.inside.groups.items c.self.inside.runs.items c.args.id c.in-Some.request.now c.map.result.now c.self.invariant c.map.ensures c.in-Some.ensures

pub index-found-requires : goal.index-found-requires
index-found-requires c =
    let low : c.place_of_request-place.result < length c.self.inside.groups.items =
    (asked_place c.self.inside.front c.self.inside.groups.items c.self.inside.runs.items (group_for c.in-Some.request.now) c.place_of_request-place.result c.map.result.now c.self.invariant c.map.ensures c.place_of_request-place.ensures).within in
    search rules

pub returns : goal.returns
returns c =
    let found : group_at (group_for c.in-Some.request.now) c.self.inside.groups.items ≡ Some c.index-found.result.now =
    asked_found c.self.inside.front c.self.inside.groups.items c.self.inside.runs.items (group_for c.in-Some.request.now) c.place_of_request-place.result c.map.result.now c.index-found.result.now c.self.invariant c.map.ensures c.place_of_request-place.ensures c.index-found.ensures in
    rw (← c.self.view_is) (record {
      answer = answered_by c.self.inside.front c.self.inside.groups.items c.self.inside.runs.items c.args.id c.in-Some.request.now c.index-found.result.now _ c.in-Some.ensures found c.answer.ensures;
      refused = unrefused c.self.inside.front c.self.inside.groups.items c.self.inside.runs.items c.args.id c.in-Some.request.now c.in-Some.ensures;
    })

pub returns-in-None-clause-refused : goal.returns-in-None-clause-refused
returns-in-None-clause-refused c = rw (← c.self.view_is) (refused c.self.inside.front c.self.inside.groups.items c.self.inside.runs.items c.args.id c.in-None.ensures)
