-- An event of a world takes at most one message of a group's wire, and sends others behind those that stay.
use Prim.Native.Nat.{zero, suc}
use Rattle.std.proofs.Common.{◌≡◌, ◌∙◌, ℕ, List, [], ◌∷◌, ◌++◌, Bool, true, false, cond, if◌then◌else◌, Option, Some, None, map, refl, sym, ap, subst}
use Rattle.std.specs.List.{filter, flat_map}
use Rattle.std.proofs.lemmas.List.{append_assoc}
use Rattle.store_core.specs.declared.sealed.GroupId.{GroupId}
use Rattle.store_core.specs.Request.{Sealed}
use Rattle.entry_core.specs.Locality.{group_for}
use Rattle.place_core.specs.Placement.{numbers_of}
use Rattle.map_core.specs.State.{MapState}
use Rattle.map_core.specs.Map.{map_of, after}
use Rattle.map_core.specs.declared.command.MapCommand.{MapCommand}
use Rattle.map_core.specs.declared.command.MapCommand.TheVariants.{PoolCreate, AppEnable, AppSet, AppRm, OsdUp, OsdDown, OsdRestart}
use Rattle.group_model.specs.Types.{Sent}
use Rattle.group_model_whole.specs.Each.{Each}
use Rattle.group_model.specs.Group.{Group, group_step, run}
use Rattle.group_model.specs.Group as group
use Rattle.group_story.specs.Wire.{kept, place_of, TellsStep}
use Rattle.group_story.proofs.Steps.{Sends, nothing, sends}
use Rattle.world_events.specs.declared.event.Event.{Event}
use Rattle.world_events.specs.declared.event.Event.TheVariants.{Auth, Map, Open, Renew, Close, Submit, List as ListNames, Deliver, Lose, Repeat, Kick}
use Rattle.world_events.specs.declared.fault.WorldFault.{WorldFault as Fault}
use Rattle.world_front.specs.Groups.{is_same_group}
use Rattle.world_front.specs.ControlPlane.{ControlPlane, group_refusal, sealed_by}
use Rattle.world_core.specs.World.{World, Part, part, group_at, members_of, parts_of, map_parts, moved_parts, restarted_parts, asked_parts, created_by, world_step}
use Rattle.world_front.specs.Groups.{groups_of}
use Rattle.world_core.specs.Holds.{events_in, group_step_alone}
use Rattle.world_core.proofs.Holding.{step_at}
use Rattle.group_story.specs.Story.{wire_where, wire_in, place_in, TellsEvent}
use Rattle.group_story.proofs.Named.{goes_on}

-- ---- events that take nothing

abbrev Quiet : group.Event → Type 0
Quiet e = place_of e ≡ None

events_send : (es : List group.Event) (g : Group) → Each Quiet es → Sends (run es g).wire g.wire
events_send [] g all = nothing g.wire
events_send (e ∷ es) g all =
    let first : Sends (group_step g e).wire (kept g.wire (place_of e)) = sends g e in
    let rest : Sends (run es (group_step g e)).wire (group_step g e).wire = events_send es (group_step g e) all.1 in
    (first.0 ++ rest.0, rest.1 ∙ ap (λ w. w ++ rest.0) (first.1 ∙ ap (λ p. kept g.wire p ++ first.0) all.0) ∙ append_assoc g.wire first.0 rest.0)

quiet_parts : (id : GroupId) (ps : List Part) → Each (λ p. Quiet p.event) ps → Each Quiet (events_in id ps)
quiet_parts id [] all = tt
quiet_parts id (p ∷ ps) all = go (is_same_group id p.id) (quiet_parts id ps all.1)
  where
    go : (b : Bool) → Each Quiet (events_in id ps) → Each Quiet (map (λ q. q.event) (cond b (p ∷ filter (λ q. is_same_group id q.id) ps) (filter (λ q. is_same_group id q.id) ps)))
    go true rest = (all.0, rest)
    go false rest = rest

quiet_map : {X : Type 0} (f : X → Part) → ((x : X) → Quiet (f x).event) → (xs : List X) → Each (λ p. Quiet p.event) (map f xs)
quiet_map f quiet [] = tt
quiet_map f quiet (x ∷ xs) = (quiet x, quiet_map f quiet xs)

-- ---- one group

abbrev Sent_in : GroupId → List Part → Group → Type 0
Sent_in id ps g = Sends (run (events_in id ps) g).wire g.wire

quietly : (id : GroupId) (ps : List Part) (g : Group) → Each (λ p. Quiet p.event) ps → Sent_in id ps g
quietly id ps g all = events_send (events_in id ps) g (quiet_parts id ps all)

asked_send : (id : GroupId) (requests : List Sealed) (g : Group) → Sent_in id (asked_parts requests) g
asked_send id requests g = quietly id (asked_parts requests) g (quiet_map (λ s. part (group_for s) (group.Submit s)) (λ s. refl) requests)

moved_send : (id : GroupId) (state : MapState) (g : Group) → Sent_in id (moved_parts state) g
moved_send id state g =
    quietly id (moved_parts state) g
    (quiet_map (λ x. part x (group.NewInterval (members_of state x) (numbers_of state.up))) (λ x. refl) (flat_map groups_of state.pools))

map_sends : (id : GroupId) (state : MapState) (c : MapCommand) (g : Group) → Sent_in id (map_parts state c) g
map_sends id state (OsdUp d) g = moved_send id (after state (OsdUp d)) g
map_sends id state (OsdDown d) g = moved_send id (after state (OsdDown d)) g
map_sends id state (OsdRestart d) g = quietly id (restarted_parts state d) g (quiet_map (λ x. part x (group.Restart d)) (λ x. refl) (flat_map groups_of state.pools))
map_sends id state (PoolCreate name pg_num size min_size) g = nothing g.wire
map_sends id state (AppEnable pool app) g = nothing g.wire
map_sends id state (AppSet pool app key value) g = nothing g.wire
map_sends id state (AppRm pool app key) g = nothing g.wire

-- an event of one group that may take a message
call_sends : (id at : GroupId) (e : group.Event) (g : Group) (taken : Option ℕ) → place_of e ≡ taken
    → Sends (run (events_in id (part at e ∷ [])) g).wire (kept g.wire (if is_same_group id at then taken else None))
call_sends id at e g taken is = go (is_same_group id at)
  where
    go : (b : Bool) → Sends (run (map (λ q. q.event) (cond b (part at e ∷ []) [])) g).wire (kept g.wire (if b then taken else None))
    go true = subst (λ p. Sends (group_step g e).wire (kept g.wire p)) is (sends g e)
    go false = nothing g.wire

-- one that takes none
plain_sends : (id at : GroupId) (e : group.Event) (g : Group) → Quiet e → Sent_in id (part at e ∷ []) g
plain_sends id at e g quiet = quietly id (part at e ∷ []) g (quiet, tt)

event_sends : (f : ControlPlane) (e : Event) (id : GroupId) (g : Group) → Sends (run (events_in id (parts_of f e)) g).wire (kept g.wire (place_in id e))
event_sends f (Map c) id g = map_sends id (map_of f.history) c g
event_sends f (Submit ask object ops) id g = asked_send id (sealed_by f (Submit ask object ops)) g
event_sends f (ListNames ask) id g = asked_send id (sealed_by f (ListNames ask)) g
event_sends f (Deliver at k) id g = call_sends id at (group.Deliver k) g (Some k) refl
event_sends f (Lose at k) id g = call_sends id at (group.Lose k) g (Some k) refl
event_sends f (Repeat at k) id g = plain_sends id at (group.Repeat k) g refl
event_sends f (Kick at) id g = plain_sends id at group.Kick g refl
event_sends f (Auth command) id g = nothing g.wire
event_sends f (Open entity until) id g = nothing g.wire
event_sends f (Renew session until) id g = nothing g.wire
event_sends f (Close session) id g = nothing g.wire

-- ---- a group of a world

nothing_kept : (taken : Option ℕ) → kept [] taken ≡ []
nothing_kept None = refl
nothing_kept (Some zero) = refl
nothing_kept (Some (suc k)) = refl

-- where no message was there, all that are there now were sent
all_new : (wire : List Sent) (taken : Option ℕ) → Sends wire (kept [] taken)
all_new wire taken = (wire, ap (λ l. l ++ wire) (sym (nothing_kept taken)))

alone_sends : (f : ControlPlane) (e : Event) (id : GroupId) (found : Option Group) → Sends (wire_where None (group_step_alone f id e found)) (kept (wire_where None found) (place_in id e))
alone_sends f e id None = all_new (wire_where None (group_at id (created_by f e))) (place_in id e)
alone_sends f e id (Some g) = event_sends f e id g

pub world_sends : (w : World) (e : Event) (id : GroupId) → Sends (wire_in (world_step w e) id) (kept (wire_in w id) (place_in id e))
world_sends w e id = go (group_refusal w.front id) refl
  where
    there : group_refusal w.front id ≡ None → wire_where None (group_step_alone w.front id e (group_at id w.groups)) ≡ wire_in (world_step w e) id
    there is =
        ap (wire_where None) (sym (step_at id w e))
        ∙ ap (λ r. wire_where r (group_at id (world_step w e).groups)) (sym (goes_on w.front e id is))

    go : (refusal : Option Fault) → group_refusal w.front id ≡ refusal → Sends (wire_in (world_step w e) id) (kept (wire_where refusal (group_at id w.groups)) (place_in id e))
    go (Some fault) is = all_new (wire_in (world_step w e) id) (place_in id e)
    go None is = subst (λ wire. Sends wire (kept (wire_where None (group_at id w.groups)) (place_in id e))) (there is) (alone_sends w.front e id (group_at id w.groups))

-- the report of a step is the report of this event
pub tells_event : (id : GroupId) (old : World) (e : Event) (new : World) (told_taken : Option Sent) (told_sent : List Sent) → new ≡ world_step old e
    → ((sent : List Sent) → wire_in new id ≡ kept (wire_in old id) (place_in id e) ++ sent → TellsStep (wire_in old id) (place_in id e) sent told_taken told_sent)
    → TellsEvent id old e new told_taken told_sent
tells_event id old e new told_taken told_sent step tells =
    let s : Sends (wire_in (world_step old e) id) (kept (wire_in old id) (place_in id e)) = world_sends old e id in
    let is : wire_in new id ≡ kept (wire_in old id) (place_in id e) ++ s.0 = ap (λ w. wire_in w id) step ∙ s.1 in
    record { sent = s.0; after = is; told = tells s.0 is }
