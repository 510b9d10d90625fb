use Rattle.std.proofs.Common.{◌∙◌, refl, sym, subst}
use Rattle.world_events.specs.declared.event.Event.TheVariants.{List as ListNames}
use Rattle.world_core.specs.Taking.{TakesAll}
use Rattle.world_core.proofs.Messages.{kept_on}
use Rattle.world_core.proofs.RequestEvents.{AsksFor, list_asks, all_within, refused_asking, refused_taking, asked, asked_nothing, few_now}
use Rattle.world_core.proofs.world.World.list.Goals as goal

pub take_requests-requires : goal.take_requests-requires
take_requests-requires c =
    let a = subst (AsksFor c.self.inside.front (ListNames c.args.ask) c.args.ask) (sym c.as_slice-pieces.ensures) (list_asks c.self.inside.front c.args.ask c.in-Ok.requests c.in-Ok.ensures.sealed) in
    all_within c.self.inside.front c.self.inside.groups.items c.self.inside.runs.items (ListNames c.args.ask) c.args.ask c.as_slice-pieces.result.now c.map-map.result.now c.self.invariant a c.map-map.ensures

pub returns-in-Err : goal.returns-in-Err
returns-in-Err c = rw (← c.self.view_is) (refused_asking c.self.inside.front c.self.inside.groups.items c.self.inside.runs.items (ListNames c.args.ask) c.in-Err.fault refl (λ _. refl) c.in-Err.ensures.refused)

pub returns-in-Err-take_requests : goal.returns-in-Err-take_requests
returns-in-Err-take_requests c =
    let a = subst (AsksFor c.self.inside.front (ListNames c.args.ask) c.args.ask) (sym c.as_slice-pieces.ensures) (list_asks c.self.inside.front c.args.ask c.in-Ok.requests c.in-Ok.ensures.sealed) in
    rw (← c.self.view_is, c.in-Err-take_requests.ensures.unchanged)
    (refused_taking c.self.inside.front c.self.inside.groups.items c.self.inside.runs.items (ListNames c.args.ask) c.args.ask c.as_slice-pieces.result.now c.map-map.result.now c.in-Err-take_requests.fault c.self.invariant a c.map-map.ensures c.in-Err-take_requests.ensures.refused)

pub record_pieces-requires-clause-few : goal.record_pieces-requires-clause-few
record_pieces-requires-clause-few c = few_now c.self.inside.front c.self.inside.groups.items c.self.inside.runs.items c.self.invariant

pub invariant_of-self-in-Ok-record_pieces : goal.invariant_of-self-in-Ok-record_pieces
invariant_of-self-in-Ok-record_pieces c =
    let a = subst (AsksFor c.self.inside.front (ListNames c.args.ask) c.args.ask) (sym c.as_slice-pieces.ensures) (list_asks c.self.inside.front c.args.ask c.in-Ok.requests c.in-Ok.ensures.sealed) in
    let d = asked c.self.inside.front c.record_pieces.new.self c.self.inside.groups.items c.take_requests.new.groups.items c.self.inside.runs.items (ListNames c.args.ask) c.args.ask c.as_slice-pieces.result.now c.map-map.result.now c.in-Ok-record_pieces.told
    c.self.invariant a c.map-map.ensures c.in-Ok-take_requests.ensures.room c.in-Ok-take_requests.ensures.taken (c.in-Ok-record_pieces.ensures.steps) (c.in-Ok-record_pieces.ensures.tells) in
    kept_on c.self.inside.front c.record_pieces.new.self c.self.inside.groups.items c.take_requests.new.groups.items c.self.inside.runs.items c.self.inside.runs.items (ListNames c.args.ask) _ c.self.invariant d.applies d.fit

pub returns-in-Ok-record_pieces : goal.returns-in-Ok-record_pieces
returns-in-Ok-record_pieces c =
    let a = subst (AsksFor c.self.inside.front (ListNames c.args.ask) c.args.ask) (sym c.as_slice-pieces.ensures) (list_asks c.self.inside.front c.args.ask c.in-Ok.requests c.in-Ok.ensures.sealed) in
    let d = asked c.self.inside.front c.record_pieces.new.self c.self.inside.groups.items c.take_requests.new.groups.items c.self.inside.runs.items (ListNames c.args.ask) c.args.ask c.as_slice-pieces.result.now c.map-map.result.now c.in-Ok-record_pieces.told
    c.self.invariant a c.map-map.ensures c.in-Ok-take_requests.ensures.room c.in-Ok-take_requests.ensures.taken (c.in-Ok-record_pieces.ensures.steps) (c.in-Ok-record_pieces.ensures.tells) in
    rw (← c.self.view_is) d.applies

pub returns : goal.returns
returns c =
    let places = c.as_slice.ensures.value ∙ c.in-Ok-take_requests.ensures.places in
    let back = c.take_back_all.ensures c.self.inside.groups.items c.as_slice-pieces.result.now (subst (λ p. TakesAll c.self.inside.groups.items p c.as_slice-pieces.result.now c.take_requests.new.groups.items) (sym places) c.in-Ok-take_requests.ensures.taken) in
    rw (← c.self.view_is) (asked_nothing c.self.inside.front c.record_pieces.new.self c.self.inside.groups.items c.take_back_all.new.groups.items c.self.inside.runs.items (ListNames c.args.ask) (λ _. refl) c.in-Err-record_pieces.ensures.unchanged back)
