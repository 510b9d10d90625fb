use Rattle.std.proofs.Common.{◌∙◌, refl, sym, subst}
use Rattle.world_events.specs.declared.event.Event.TheVariants.{Submit}
use Rattle.world_core.specs.Taking.{TakesAll}
use Rattle.world_core.proofs.Messages.{kept_on}
use Rattle.world_core.proofs.RequestEvents.{AsksFor, vector_asks, all_within, refused_asking, refused_taking, asked, asked_nothing, few_now}
use Rattle.world_core.proofs.world.World.submit.Goals as goal

pub take_requests-requires : goal.take_requests-requires
take_requests-requires c =
    let a = subst (AsksFor c.self.inside.front (Submit c.args.ask c.args.object c.args.ops) c.args.ask) (sym c.from_ref-one.ensures.value) (vector_asks c.self.inside.front c.args.ask c.args.object c.args.ops c.in-Ok.request c.in-Ok.ensures.sealed) in
    all_within c.self.inside.front c.self.inside.groups.items c.self.inside.runs.items (Submit c.args.ask c.args.object c.args.ops) c.args.ask c.from_ref-one.result.now c.map-map.result.now c.self.invariant a c.map-map.ensures

pub returns-in-Err : goal.returns-in-Err
returns-in-Err c = rw (← c.self.view_is) (refused_asking c.self.inside.front c.self.inside.groups.items c.self.inside.runs.items (Submit c.args.ask c.args.object c.args.ops) c.in-Err.fault refl (λ _. refl) c.in-Err.ensures.refused)

pub returns-in-Err-take_requests : goal.returns-in-Err-take_requests
returns-in-Err-take_requests c =
    let a = subst (AsksFor c.self.inside.front (Submit c.args.ask c.args.object c.args.ops) c.args.ask) (sym c.from_ref-one.ensures.value) (vector_asks c.self.inside.front c.args.ask c.args.object c.args.ops c.in-Ok.request c.in-Ok.ensures.sealed) in
    rw (← c.self.view_is, c.in-Err-take_requests.ensures.unchanged)
    (refused_taking c.self.inside.front c.self.inside.groups.items c.self.inside.runs.items (Submit c.args.ask c.args.object c.args.ops) c.args.ask c.from_ref-one.result.now c.map-map.result.now c.in-Err-take_requests.fault c.self.invariant a c.map-map.ensures c.in-Err-take_requests.ensures.refused)

pub record_vector-requires-clause-few : goal.record_vector-requires-clause-few
record_vector-requires-clause-few c = few_now c.self.inside.front c.self.inside.groups.items c.self.inside.runs.items c.self.invariant

pub invariant_of-self-in-Ok-record_vector : goal.invariant_of-self-in-Ok-record_vector
invariant_of-self-in-Ok-record_vector c =
    let a = subst (AsksFor c.self.inside.front (Submit c.args.ask c.args.object c.args.ops) c.args.ask) (sym c.from_ref-one.ensures.value) (vector_asks c.self.inside.front c.args.ask c.args.object c.args.ops c.in-Ok.request c.in-Ok.ensures.sealed) in
    let d = asked c.self.inside.front c.record_vector.new.self c.self.inside.groups.items c.take_requests.new.groups.items c.self.inside.runs.items (Submit c.args.ask c.args.object c.args.ops) c.args.ask c.from_ref-one.result.now c.map-map.result.now c.in-Ok-record_vector.told
    c.self.invariant a c.map-map.ensures c.in-Ok-take_requests.ensures.room c.in-Ok-take_requests.ensures.taken (c.in-Ok-record_vector.ensures.steps c.args.object c.args.ops c.in-Ok.ensures.sealed) (c.in-Ok-record_vector.ensures.tells c.args.object c.args.ops c.in-Ok.ensures.sealed) in
    kept_on c.self.inside.front c.record_vector.new.self c.self.inside.groups.items c.take_requests.new.groups.items c.self.inside.runs.items c.self.inside.runs.items (Submit c.args.ask c.args.object c.args.ops) _ c.self.invariant d.applies d.fit

pub returns-in-Ok-record_vector : goal.returns-in-Ok-record_vector
returns-in-Ok-record_vector c =
    let a = subst (AsksFor c.self.inside.front (Submit c.args.ask c.args.object c.args.ops) c.args.ask) (sym c.from_ref-one.ensures.value) (vector_asks c.self.inside.front c.args.ask c.args.object c.args.ops c.in-Ok.request c.in-Ok.ensures.sealed) in
    let d = asked c.self.inside.front c.record_vector.new.self c.self.inside.groups.items c.take_requests.new.groups.items c.self.inside.runs.items (Submit c.args.ask c.args.object c.args.ops) c.args.ask c.from_ref-one.result.now c.map-map.result.now c.in-Ok-record_vector.told
    c.self.invariant a c.map-map.ensures c.in-Ok-take_requests.ensures.room c.in-Ok-take_requests.ensures.taken (c.in-Ok-record_vector.ensures.steps c.args.object c.args.ops c.in-Ok.ensures.sealed) (c.in-Ok-record_vector.ensures.tells c.args.object c.args.ops c.in-Ok.ensures.sealed) in
    rw (← c.self.view_is) d.applies

pub returns : goal.returns
returns c =
    let places = c.as_slice.ensures.value ∙ c.in-Ok-take_requests.ensures.places in
    let back = c.take_back_all.ensures c.self.inside.groups.items c.from_ref-one.result.now (subst (λ p. TakesAll c.self.inside.groups.items p c.from_ref-one.result.now c.take_requests.new.groups.items) (sym places) c.in-Ok-take_requests.ensures.taken) in
    rw (← c.self.view_is) (asked_nothing c.self.inside.front c.record_vector.new.self c.self.inside.groups.items c.take_back_all.new.groups.items c.self.inside.runs.items (Submit c.args.ask c.args.object c.args.ops) (λ _. refl) c.in-Err-record_vector.ensures.unchanged back)
