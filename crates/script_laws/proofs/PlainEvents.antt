-- An accepted event of a plain script, on its state and on its world.
use Rattle.std.proofs.Common.{◌≡◌, ◌∙◌, ℕ, ◌+◌, ◌<◌, List, [], ◌∷◌, ◌++◌, false, if◌then◌else◌, Option, Some, None, Result, Ok, Err, option_to_list, map, length, drop, refl, sym, ap, subst, arith, append-nil}
use Rattle.std.specs.List.{filter, find, list_any, flat_map}
use Rattle.std.specs.Option.{option_map, option_map_or, option_or}
use Rattle.std.specs.Str.{bytes_eq}
use Rattle.std.proofs.lemmas.List.Elements.{filter-append}
use Rattle.grant_core.specs.BuiltIn.{built_in}
use Rattle.map_core.specs.State.{MapState}
use Rattle.map_core.specs.Map.{is_named, created, after, map_of, epoch_of}
use Rattle.map_core.specs.Refusal.{refusal}
use Rattle.map_core.specs.PoolLimits.{IsPool}
use Rattle.map_core.specs.Replay.{pool_step}
use Rattle.map_core.specs.declared.pool.Pool.{Pool}
use Rattle.map_core.specs.declared.command.MapCommand.{MapCommand}
use Rattle.map_core.specs.declared.command.MapCommand.TheVariants.{PoolCreate, AppEnable, AppSet, AppRm, OsdUp, OsdDown, OsdRestart}
use Rattle.map_core.proofs.Current.{after_push}
use Rattle.map_core.proofs.OnePool.{pool_after_step}
use Rattle.place_core.specs.Placement.{numbers_of}
use Rattle.store_core.specs.Deciding.{store_of}
use Rattle.entry_core.specs.Locality.{group_for}
use Rattle.entry_core.specs.Log.{is_in}
use Rattle.store_core.specs.Request.{Sealed}
use Rattle.store_core.specs.declared.entry.Entry.{Entry}
use Rattle.store_core.specs.declared.sealed.GroupId.{GroupId}
use Rattle.group_model_whole.specs.Each.{Each}
use Rattle.group_model.specs.Group.{Group, last_set, same_set, has_all_intervals, group_step, run, start}
use Rattle.group_model.specs.Group as group
use Rattle.group_messages.specs.declared.fault.GroupFault.{GroupFault}
use Rattle.group_messages.specs.declared.fault.GroupFault.TheVariants as group_fault
use Rattle.group_model_whole.specs.Calm.{IsCalm, answer_with}
use Rattle.group_model.proofs.CalmGroups.{begins_calm}
use Rattle.world_events.specs.declared.event.Ask.{Ask}
use Rattle.world_events.specs.declared.event.Event.{Event}
use Rattle.world_events.specs.declared.event.Event.TheVariants.{Auth, Map, Open, Renew, Close, Submit, List as ListNames, Deliver, Lose, Repeat, Kick}
use Rattle.world_events.specs.declared.fault.WorldFault.{WorldFault as Fault}
use Rattle.world_events.specs.declared.fault.WorldFault.TheVariants.{Map as OfMap, Group as OfGroup}
use Rattle.world_front.specs.Groups.{is_same_group, is_for}
use Rattle.world_front.specs.ControlPlane.{ControlPlane, front_step, front_refusal, requests_of, requests_in, sealed_by, if_ok}
use Rattle.world_core.specs.World.{World, Part, part, group_at, members_of, moved_parts, asked_parts, parts_of, created_by, decided_in, act, acted, refused_in, parts_refusal, refusal_of, world_step}
use Rattle.world_front.specs.Groups.{groups_of}
use Rattle.world_core.specs.Holds.{events_in, group_step_alone}
use Rattle.world_core.specs.Accepted.{FrontTells}
use Rattle.world_script.specs.Script.{places}
use Rattle.script_laws.specs.Plain.{Plain, least_of, is_open, asks, moves, is_move, is_message}
use Rattle.world_front.proofs.Merge.{bytes_refl}
use Rattle.world_core.proofs.Holding.{step_at}
use Rattle.world_front.proofs.Places.{places_once, places_none, AtMostOne}
use Rattle.world_front.proofs.Pools.{found_in}
use Rattle.world_core.proofs.Sets.{IsMap, members_fit, lies_within}
use Rattle.world_core.specs.Sound.{FrontKept, GroupKept, WorldKept}
use Rattle.world_core.proofs.Limits.{CreatesWell, creates_well, wrapped_none, once, front_kept, pool_limits}
use Rattle.world_front.proofs.Fronts.{Requested, submit_made, list_made}
use Rattle.world_core.proofs.Requests.{heard, heard_map, heard_passes}
use Rattle.world_core.proofs.Intervals.{later, members_are, same_set_refl, restarts_is}
use Rattle.world_core.proofs.Accepted.{IsMade, made_at, none_yet}
use Rattle.world_laws.proofs.AcceptedLaws.{front_tells_requests}
use Rattle.world_laws.proofs.PlaceGroups.{step_places}
use Rattle.script_laws.proofs.PlainGroups.{Steady, IsStill, IsAside, still_decided, due, due_begins}
use Rattle.script_laws.proofs.PlainStates.{Agrees, Simulates, Onward, one_more, world_keeps, Remains, remains, none_moves, of_places, Leaves, SamePlace, Both, took_both, took_none, took_aside, took_request}

-- ---- events that decide nothing

dropped_all : (xs : List Entry) → drop (length xs) xs ≡ []
dropped_all [] = refl
dropped_all (x ∷ xs) = dropped_all xs

nothing_decided : (found : Option Group) (e : group.Event) → IsStill e → decided_in found e ≡ []
nothing_decided None e still = refl
nothing_decided (Some g) e still = ap (λ d. drop (length g.audit) d.audit) (still_decided e g still) ∙ dropped_all g.audit

still_audit : (ps : List Part) (w : World) → Each (λ p. IsStill p.event) ps → (acted w ps).audit ≡ w.audit
still_audit [] w all = refl
still_audit (p ∷ ps) w all = still_audit ps (act w p) all.1 ∙ ap (λ l. w.audit ++ l) (nothing_decided (group_at p.id w.groups) p.event all.0) ∙ append-nil w.audit

asked_still : (rs : List Sealed) → Each (λ p. IsStill p.event) (asked_parts rs)
asked_still [] = tt
asked_still (s ∷ ss) = (tt, asked_still ss)

-- ---- what is left of the relation

pub first_nil : {X : Type 0} (xs ys : List X) → xs ++ ys ≡ [] → xs ≡ []
first_nil [] ys h = refl
first_nil (x ∷ xs) ys h = absurd (cc)

pub second_nil : {X : Type 0} (xs ys : List X) → xs ++ ys ≡ [] → ys ≡ []
second_nil [] ys h = h
second_nil (x ∷ xs) ys h = absurd (cc)

-- the state, with the world's front
abbrev at_front : Plain → World → Plain
at_front p w = record p { front = w.front }

abbrev NextState : World → Event → MapState
NextState w e = map_of (front_step w.front e).history

-- what an accepted event tells
pub record Happened (p : Plain) (w : World) (e : Event) : Type 0 where
  pub free : refusal_of w e ≡ None
  pub sim : Simulates (asks p e) (world_step w e)

after_event : (p : Plain) (w : World) (e : Event) → Agrees p w → refusal_of w e ≡ None → (acted w (parts_of w.front e)).audit ≡ w.audit
    → ((id : GroupId) (g : Group) → group_at id w.groups ≡ Some g → Both (NextState w e) (asks (at_front p w) e) id (run (events_in id (parts_of w.front e)) g))
    → ((id : GroupId) (g : Group) → group_at id w.groups ≡ None → group_at id (created_by w.front e) ≡ Some g → Both (NextState w e) (asks (at_front p w) e) id g)
    → Happened (at_front p w) w e
after_event p w e s none audit old new = record {
  free = none;
  sim = record {
    agrees = record {
      daemons = s.daemons;
      events = s.events ++ e ∷ [];
      accepted = on.accepted;
      is = on.is;
      front = refl;
      objects = s.objects ∙ ap store_of (sym audit);
      answers = s.answers ∙ ap (map answer_with) (sym audit);
      groups = λ id g there. (both id g there).holds;
      known = λ test empty. (let news : List Sealed = sealed_by w.front e in
          let parts : filter test w.front.submissions ++ filter test news ≡ [] = sym (filter-append test w.front.submissions news) ∙ empty in
          let k = s.known test (first_nil (filter test w.front.submissions) (filter test news) parts) in
          let none_new : filter test news ≡ [] = second_nil (filter test w.front.submissions) (filter test news) parts in (
            filter-append test p.pending news ∙ ap (λ l. l ++ filter test news) k.0 ∙ none_new,
            filter-append test p.fresh news ∙ ap (λ l. l ++ filter test news) k.1 ∙ none_new,
          ));
      opened = λ id empty. s.opened id (first_nil (filter (is_same_group id) (places w.front)) (filter (is_same_group id) (map (λ g. g.group) (created_by w.front e)))
          (sym (filter-append (is_same_group id) (places w.front) (map (λ g. g.group) (created_by w.front e))) ∙ ap (filter (is_same_group id)) (sym (step_places w.front e)) ∙ empty));
    };
    owes = λ id g there. (both id g there).owes;
  };
}
  where
    on : Onward s.daemons (s.events ++ e ∷ []) (world_step w e)
    on = one_more s.daemons s.events w e s.accepted s.is none

    both : (id : GroupId) (g : Group) → group_at id (world_step w e).groups ≡ Some g → Both (NextState w e) (asks (at_front p w) e) id g
    both id g there = go (group_at id w.groups) refl (sym (step_at id w e) ∙ there)
      where
        go : (o : Option Group) → group_at id w.groups ≡ o → group_step_alone w.front id e o ≡ Some g → Both (NextState w e) (asks (at_front p w) e) id g
        go None absent is = new id g absent is
        go (Some was) present is =
            let same : run (events_in id (parts_of w.front e)) was ≡ g = cc in
            subst (Both (NextState w e) (asks (at_front p w) e) id) same (old id was present)

-- ---- events that no group hears of

leaves : (p : Plain) (w : World) (e : Event) → Leaves p (asks (at_front p w) e) (sealed_by w.front e)
leaves p w e = record { pending = refl; fresh = refl; opened = refl }

-- the same map, and no requests
unheard : (p : Plain) (w : World) (e : Event) (id : GroupId) (g : Group) → Simulates p w → group_at id w.groups ≡ Some g → SamePlace (map_of w.front.history) (NextState w e) id → sealed_by w.front e ≡ [] → Both (NextState w e) (asks (at_front p w) e) id g
unheard p w e id g s there place none =
    took_both (map_of w.front.history) (NextState w e) p (asks (at_front p w) e) id g g (sealed_by w.front e) [] place (leaves p w e) (ap (filter (is_for id)) none) (s.agrees.groups id g there)
    (took_none (map_of w.front.history) p id g (s.agrees.groups id g there) (s.owes id g there))

or_none : (o : Option Fault) → o ≡ None → option_or o None ≡ None
or_none None h = refl
or_none (Some x) h = absurd (cc)

quiet_event : (p : Plain) (w : World) (e : Event) → Simulates p w → front_refusal w.front e ≡ None → NextState w e ≡ map_of w.front.history → sealed_by w.front e ≡ [] → parts_of w.front e ≡ [] → created_by w.front e ≡ []
    → Happened (at_front p w) w e
quiet_event p w e s allowed same none parts new =
    after_event p w e s.agrees
    (ap (λ ps. option_or (front_refusal w.front e) (option_map OfGroup (parts_refusal w.groups ps))) parts ∙ or_none (front_refusal w.front e) allowed)
    (ap (λ ps. (acted w ps).audit) parts)
    (λ id g there. (let P : List Part → Type 0 = λ ps. Both (NextState w e) (asks (at_front p w) e) id (run (events_in id ps) g) in
    subst P (sym parts) (unheard p w e id g s there (record { members = ap (λ t. members_of t id) same; least = ap (λ t. least_of t id) same }) none)))
    (λ id g absent is. absurd (let clash : None ≡ Some g = ap (group_at id) (sym new) ∙ is in cc))

-- ---- requests

-- what the requests of an event leave of a group
asked_old : (p : Plain) (w : World) (e : Event) (rs : List Sealed) (id : GroupId) (g : Group) → Simulates p w → group_at id w.groups ≡ Some g → NextState w e ≡ map_of w.front.history → sealed_by w.front e ≡ rs → parts_of w.front e ≡ asked_parts rs
    → parts_refusal w.groups (asked_parts rs) ≡ None → AtMostOne (filter (is_for id) rs) → Both (NextState w e) (asks (at_front p w) e) id (run (events_in id (parts_of w.front e)) g)
asked_old p w e rs id g s there same sealed parts free single = subst P (sym parts) (go single.one single.is)
  where
    P : List Part → Type 0
    P ps = Both (NextState w e) (asks (at_front p w) e) id (run (events_in id ps) g)

    state : MapState
    state = map_of w.front.history

    place : SamePlace (map_of w.front.history) (NextState w e) id
    place = record { members = ap (λ t. members_of t id) same; least = ap (λ t. least_of t id) same }

    go : (o : Option Sealed) → filter (is_for id) rs ≡ option_to_list o → Both (NextState w e) (asks (at_front p w) e) id (run (events_in id (asked_parts rs)) g)
    go None is =
        let one : heard id (asked_parts rs) ≡ [] = heard_map id (λ s. part (group_for s) (group.Submit s)) rs [] is in
        let Q : Group → Type 0 = λ v. Both (NextState w e) (asks (at_front p w) e) id v in
        subst Q (sym (ap (λ l. run (map (λ q. q.event) l) g) one))
        (took_both (map_of w.front.history) (NextState w e) p (asks (at_front p w) e) id g g (sealed_by w.front e) [] place (leaves p w e) (ap (filter (is_for id)) sealed ∙ is) (s.agrees.groups id g there)
        (took_none (map_of w.front.history) p id g (s.agrees.groups id g there) (s.owes id g there)))
    go (Some r) is =
        let q : Part = part (group_for r) (group.Submit r) in
        let one : heard id (asked_parts rs) ≡ q ∷ [] = heard_map id (λ s. part (group_for s) (group.Submit s)) rs (r ∷ []) is in
        let open_one : group.refusal_of g (group.Submit r) ≡ None = heard_passes id g w.groups (asked_parts rs) q there free one in
        let Q : Group → Type 0 = λ v. Both (NextState w e) (asks (at_front p w) e) id v in
        subst Q (sym (ap (λ l. run (map (λ q. q.event) l) g) one))
        (took_both (map_of w.front.history) (NextState w e) p (asks (at_front p w) e) id g (group_step g (group.Submit r)) (sealed_by w.front e) (r ∷ []) place (leaves p w e) (ap (filter (is_for id)) sealed ∙ is) (s.agrees.groups id g there)
        (took_request (map_of w.front.history) p id g r (s.agrees.groups id g there) (s.owes id g there) open_one))

single_in : (w : World) (id : GroupId) (ask : Ask) (r : Result (List Sealed) Fault) → ((rs : List Sealed) → r ≡ Ok rs → Requested w.front ask rs) → AtMostOne (filter (is_for id) (if_ok r [] (λ rs. rs)))
single_in w id ask (Err fault) made = record { one = None; is = refl }
single_in w id ask (Ok rs) made = (made rs refl).single id

world_tells : (p : Plain) (w : World) → Agrees p w → FrontTells w
world_tells p w s = subst FrontTells s.is (front_tells_requests built_in s.daemons s.events s.accepted)

second_none : (a : Option Fault) (b : Option GroupFault) → option_or a (option_map OfGroup b) ≡ None → b ≡ None
second_none None None h = refl
second_none None (Some x) h = absurd (cc)
second_none (Some x) b h = absurd (cc)

asking_event : (p : Plain) (w : World) (e : Event) (ask : Ask) → Simulates p w → refusal_of w e ≡ None → NextState w e ≡ map_of w.front.history → parts_of w.front e ≡ asked_parts (sealed_by w.front e) → created_by w.front e ≡ []
    → ((id : GroupId) → AtMostOne (filter (is_for id) (sealed_by w.front e))) → Happened (at_front p w) w e
asking_event p w e ask s free same parts new single =
    let rs : List Sealed = sealed_by w.front e in
    let passes : parts_refusal w.groups (asked_parts rs) ≡ None = ap (parts_refusal w.groups) (sym parts) ∙ second_none (front_refusal w.front e) (parts_refusal w.groups (parts_of w.front e)) free in
    after_event p w e s.agrees free
    (ap (λ ps. (acted w ps).audit) parts ∙ still_audit (asked_parts rs) w (asked_still rs))
    (λ id g there. asked_old p w e rs id g s there same refl parts passes (single id))
    (λ id g absent is. absurd (let clash : None ≡ Some g = ap (group_at id) (sym new) ∙ is in cc))

-- ---- the map

next_map : (f : ControlPlane) (c : MapCommand) → FrontKept f → front_refusal f (Map c) ≡ None → IsMap (after (map_of f.history) c)
next_map f c kept allowed = record { history = later f.history c; accepted = (front_kept f (Map c) kept allowed).accepted; is = after_push f.history.daemons f.history.commands c }

Stays : World → MapCommand → Type 0
Stays w c = Each (λ id. moves (map_of w.front.history) c id ≡ false) (places w.front)

map_remains : (p : Plain) (w : World) (c : MapCommand) (id : GroupId) (g : Group) → Agrees p w → Stays w c → group_at id w.groups ≡ Some g → Remains (map_of w.front.history) c id
unfolding Stays
map_remains p w c id g s stays there =
    let k : WorldKept w = world_keeps p w s in
    let h : GroupKept w.front id g = k.groups id g there in
    remains w.front c id g h (of_places (λ i. moves (map_of w.front.history) c i ≡ false) w.front id g k.front h stays)

map_place : (p : Plain) (w : World) (c : MapCommand) (id : GroupId) (g : Group) → Agrees p w → Stays w c → group_at id w.groups ≡ Some g → SamePlace (map_of w.front.history) (NextState w (Map c)) id
map_place p w c id g s stays there =
    let r : Remains (map_of w.front.history) c id = map_remains p w c id g s stays there in
    let next : NextState w (Map c) ≡ after (map_of w.front.history) c = after_push w.front.history.daemons w.front.history.commands c in
    record { members = ap (λ t. members_of t id) next ∙ r.members; least = ap (λ t. least_of t id) next ∙ r.least }

-- the last set of a group is that of its place
last_is : (p : Plain) (w : World) (id : GroupId) (g : Group) → Agrees p w → group_at id w.groups ≡ Some g → members_of (map_of w.front.history) id ≡ last_set g.sets
last_is p w id g s there = members_are (map_of w.front.history) id (last_set g.sets) ((world_keeps p w s).groups id g there).sets.present

-- a command that no group hears
still_map : (p : Plain) (w : World) (c : MapCommand) → Simulates p w → front_refusal w.front (Map c) ≡ None → Stays w c → parts_of w.front (Map c) ≡ [] → created_by w.front (Map c) ≡ [] → Happened (at_front p w) w (Map c)
unfolding requests_of requests_in
still_map p w c s allowed stays parts new =
    after_event p w (Map c) s.agrees
    (ap (λ ps. option_or (front_refusal w.front (Map c)) (option_map OfGroup (parts_refusal w.groups ps))) parts ∙ or_none (front_refusal w.front (Map c)) allowed)
    (ap (λ ps. (acted w ps).audit) parts)
    (λ id g there. (let P : List Part → Type 0 = λ ps. Both (NextState w (Map c)) (asks (at_front p w) (Map c)) id (run (events_in id ps) g) in
    subst P (sym parts) (unheard p w (Map c) id g s there (map_place p w c id g s.agrees stays there) refl)))
    (λ id g absent is. absurd (let clash : None ≡ Some g = ap (group_at id) (sym new) ∙ is in cc))

-- each place hears one event, that none refuses
place_free : (w : World) (F : GroupId → group.Event) (ids : List GroupId) → Each (λ id. (g : Group) → group_at id w.groups ≡ Some g → group.refusal_of g (F id) ≡ None) ids → parts_refusal w.groups (map (λ id. part id (F id)) ids) ≡ None
place_free w F [] all = refl
place_free w F (id ∷ ids) all = go (group_at id w.groups) refl (place_free w F ids all.1)
  where
    go : (o : Option Group) → group_at id w.groups ≡ o → parts_refusal w.groups (map (λ i. part i (F i)) ids) ≡ None → option_or (refused_in o (F id)) (parts_refusal w.groups (map (λ i. part i (F i)) ids)) ≡ None
    go None is rest = rest
    go (Some g) is rest = ap (λ o. option_or o (parts_refusal w.groups (map (λ i. part i (F i)) ids))) (all.0 g is) ∙ rest

place_still : (F : GroupId → group.Event) (ids : List GroupId) → ((id : GroupId) → IsStill (F id)) → Each (λ p. IsStill p.event) (map (λ id. part id (F id)) ids)
place_still F [] all = tt
place_still F (id ∷ ids) all = (all id, place_still F ids all)

-- a command of which each place hears one event beside its interval
beside : (p : Plain) (w : World) (c : MapCommand) (F : GroupId → group.Event) → Simulates p w → front_refusal w.front (Map c) ≡ None → Stays w c → parts_of w.front (Map c) ≡ map (λ id. part id (F id)) (places w.front) → created_by w.front (Map c) ≡ []
    → ((id : GroupId) → IsStill (F id)) → ((id : GroupId) → IsAside (F id))
    → ((id : GroupId) (g : Group) → group_at id w.groups ≡ Some g → group.refusal_of g (F id) ≡ None)
    → ((id : GroupId) (g : Group) → group_at id w.groups ≡ Some g → IsCalm (members_of (map_of w.front.history) id) (F id)) → Happened (at_front p w) w (Map c)
unfolding requests_of requests_in
beside p w c F s allowed stays parts new still aside free calm =
    after_event p w (Map c) s.agrees
    (ap (λ ps. option_or (front_refusal w.front (Map c)) (option_map OfGroup (parts_refusal w.groups ps))) parts
    ∙ ap (λ o. option_or (front_refusal w.front (Map c)) (option_map OfGroup o)) (place_free w F (places w.front) (each_any (places w.front)))
    ∙ or_none (front_refusal w.front (Map c)) allowed)
    (ap (λ ps. (acted w ps).audit) parts ∙ still_audit (map (λ id. part id (F id)) (places w.front)) w (place_still F (places w.front) still))
    (λ id g there. old id g there)
    (λ id g absent is. absurd (let clash : None ≡ Some g = ap (group_at id) (sym new) ∙ is in cc))
  where
    each_any : (ids : List GroupId) → Each (λ id. (g : Group) → group_at id w.groups ≡ Some g → group.refusal_of g (F id) ≡ None) ids
    each_any [] = tt
    each_any (id ∷ ids) = (λ g there. free id g there, each_any ids)

    old : (id : GroupId) (g : Group) → group_at id w.groups ≡ Some g → Both (NextState w (Map c)) (asks (at_front p w) (Map c)) id (run (events_in id (parts_of w.front (Map c))) g)
    old id g there =
        let k : WorldKept w = world_keeps p w s.agrees in
        let h : GroupKept w.front id g = k.groups id g there in
        let once_there : filter (is_same_group id) (places w.front) ≡ id ∷ [] =
        places_once id (map_of w.front.history).pools h.pool.is.pool (once w.front k.front) (found_in w.front.history id.pool h.groups h.pool) (subst (λ n. id.number < n) (sym h.pool.is.groups) h.number) in
        let one : heard id (map (λ i. part i (F i)) (places w.front)) ≡ part id (F id) ∷ [] = heard_map id (λ i. part i (F i)) (places w.front) (id ∷ []) once_there in
        let all : events_in id (parts_of w.front (Map c)) ≡ F id ∷ [] = ap (events_in id) parts ∙ ap (map (λ q. q.event)) one in
        let Q : List group.Event → Type 0 = λ es. Both (NextState w (Map c)) (asks (at_front p w) (Map c)) id (run es g) in
        subst Q (sym all) (took_both (map_of w.front.history) (NextState w (Map c)) p (asks (at_front p w) (Map c)) id g (group_step g (F id)) (sealed_by w.front (Map c)) [] (map_place p w c id g s.agrees stays there) (leaves p w (Map c)) refl
        (s.agrees.groups id g there) (took_aside (map_of w.front.history) p id g (F id) (s.agrees.groups id g there) (s.owes id g there) (calm id g there) (aside id) (still id)))

-- daemons come and go
up_event : (p : Plain) (w : World) (c : MapCommand) → Simulates p w → front_refusal w.front (Map c) ≡ None → Stays w c → parts_of w.front (Map c) ≡ moved_parts (after (map_of w.front.history) c)
    → flat_map groups_of (after (map_of w.front.history) c).pools ≡ places w.front → created_by w.front (Map c) ≡ [] → Happened (at_front p w) w (Map c)
up_event p w c s allowed stays parts pools new =
    beside p w c F s allowed stays (parts ∙ ap (λ ids. map (λ id. part id (group.NewInterval (members_of (after (map_of w.front.history) c) id) (numbers_of (after (map_of w.front.history) c).up))) ids) pools) new
    (λ id. tt) (λ id. tt)
    (λ id g there. ap (λ b. if b then None else (if has_all_intervals g then Some group_fault.Full else None))
    (ap (λ m. same_set m (last_set g.sets)) ((map_remains p w c id g s.agrees stays there).members ∙ last_is p w id g s.agrees there) ∙ same_set_refl (last_set g.sets)))
    (λ id g there. (let r : Remains (map_of w.front.history) c id = map_remains p w c id g s.agrees stays there in
    record {
      same = r.members;
      live = λ d is. (lies_within (after (map_of w.front.history) c) id (next_map w.front c (world_keeps p w s.agrees).front allowed) d (ap (λ m. is_in m d) r.members ∙ is)).0;
    }))
  where
    F : GroupId → group.Event
    F id = group.NewInterval (members_of (after (map_of w.front.history) c) id) (numbers_of (after (map_of w.front.history) c).up)

restart_event : (p : Plain) (w : World) (d : ℕ) → Simulates p w → front_refusal w.front (Map (OsdRestart d)) ≡ None → Stays w (OsdRestart d) → Happened (at_front p w) w (Map (OsdRestart d))
restart_event p w d s allowed stays =
    beside p w (OsdRestart d) (λ id. group.Restart d) s allowed stays refl refl (λ id. tt) (λ id. tt)
    (λ id g there. ap (λ b. if b then (if has_all_intervals g then Some group_fault.Full else None) else None) (ap (λ m. is_in m d) (sym (last_is p w id g s.agrees there)) ∙ outside id g there))
    (λ id g there. outside id g there)
  where
    outside : (id : GroupId) (g : Group) → group_at id w.groups ≡ Some g → is_in (members_of (map_of w.front.history) id) d ≡ false
    outside id g there = sym (restarts_is d (members_of (map_of w.front.history) id)) ∙ (map_remains p w (OsdRestart d) id g s.agrees stays there).quiet

-- ---- a new pool

new_group : (p : Plain) (w : World) (name : List ℕ) (pg_num size min_size : ℕ) (id : GroupId) (g : Group) → Simulates p w → front_refusal w.front (Map (PoolCreate name pg_num size min_size)) ≡ None
    → IsMade (after (map_of w.front.history) (PoolCreate name pg_num size min_size)) min_size name pg_num id g → Both (NextState w (Map (PoolCreate name pg_num size min_size))) (asks (at_front p w) (Map (PoolCreate name pg_num size min_size))) id g
unfolding requests_of requests_in
new_group p w name pg_num size min_size id g s allowed made =
    let c : MapCommand = PoolCreate name pg_num size min_size in
    let f : ControlPlane = w.front in
    let state : MapState = map_of f.history in
    let state' : MapState = after state c in
    let p' : Plain = asks (at_front p w) (Map c) in
    let next : map_of (later f.history c) ≡ state' = after_push f.history.daemons f.history.commands c in
    let kept : FrontKept f = (world_keeps p w s.agrees).front in
    let then_kept : FrontKept (front_step f (Map c)) = front_kept f (Map c) kept allowed in
    let well : CreatesWell state.pools name = creates_well state (epoch_of f.history) name pg_num size min_size (wrapped_none OfMap (refusal state (epoch_of f.history) c) allowed) in
    let new : Pool = created name pg_num size min_size in
    let absent : find (is_named id.pool) state.pools ≡ None = ap (λ n. find (is_named n) state.pools) made.pool ∙ well.fresh in
    let found : find (is_named id.pool) state'.pools ≡ Some new =
    pool_after_step id.pool state.pools c ∙ ap (λ o. pool_step id.pool o c) absent ∙ ap (λ b. if b then Some new else None) (ap (bytes_eq name) made.pool ∙ bytes_refl name) in
    let found_now : find (is_named id.pool) (map_of (later f.history c)).pools ≡ Some new = ap (λ t. find (is_named id.pool) t.pools) next ∙ found in
    let limits : IsPool new = pool_limits (front_step f (Map c)) id.pool new then_kept found_now in
    let least : least_of state' id ≡ min_size = ap (λ o. option_map_or (λ (q : Pool). q.min_size) o 0) found in
    let is_map : IsMap state' = next_map f c kept allowed in
    let members : List ℕ = members_of state' id in
    let up : List ℕ = numbers_of state'.up in
    let begun : Group = start id min_size state'.daemons members up in
    let steady : Steady min_size members begun = record {
      count = state'.daemons;
      up = up;
      some = limits.some_needed;
      calm = begins_calm id min_size state'.daemons members up;
      set = members_fit state' id is_map;
      exist = λ d is. (lies_within state' id is_map d is).1;
      live = λ d is. (lies_within state' id is_map d is).0;
    } in
    let unknown = s.agrees.known (is_for id) (none_yet f.history id f.submissions absent kept.sealed) in
    let pending : filter (is_for id) p'.pending ≡ [] = ap (filter (is_for id)) (append-nil p.pending) ∙ unknown.0 in
    let fresh : filter (is_for id) p'.fresh ≡ [] = ap (filter (is_for id)) (append-nil p.fresh) ∙ unknown.1 in
    let closed : is_open p' id ≡ false = s.agrees.opened id (places_none id state.pools absent) in
    let S : ℕ → Type 0 = λ n. Steady n members begun in
    let both : Both state' p' id begun = record {
      holds = record { steady = subst S (sym least) steady; requests = pending; answers = refl };
      owes = due_begins id min_size members state'.daemons up steady refl refl
          ∙ ap (λ n. due n members false 0 0) (sym least)
          ∙ ap (λ b. due (least_of state' id) members b 0 0) (sym closed)
          ∙ ap (λ l. due (least_of state' id) members (is_open p' id) (length l) 0) (sym pending)
          ∙ ap (λ l. due (least_of state' id) members (is_open p' id) (length (filter (is_for id) p'.pending)) (length l)) (sym fresh);
    } in
    let P : MapState → Group → Type 0 = λ t v. Both t p' id v in
    subst (λ t. P t g) (sym next) (subst (P state') made.is both)

pool_event : (p : Plain) (w : World) (name : List ℕ) (pg_num size min_size : ℕ) → Simulates p w → front_refusal w.front (Map (PoolCreate name pg_num size min_size)) ≡ None → Stays w (PoolCreate name pg_num size min_size)
    → Happened (at_front p w) w (Map (PoolCreate name pg_num size min_size))
unfolding requests_of requests_in
pool_event p w name pg_num size min_size s allowed stays =
    let c : MapCommand = PoolCreate name pg_num size min_size in
    after_event p w (Map c) s.agrees (or_none (front_refusal w.front (Map c)) allowed) refl
    (λ id g there. unheard p w (Map c) id g s there (map_place p w c id g s.agrees stays there) refl)
    (λ id g absent is. new_group p w name pg_num size min_size id g s allowed (from_zero id g (made_at (after (map_of w.front.history) c) min_size name 0 pg_num id g is)))
  where
    from_zero : (id : GroupId) (g : Group) → IsMade (after (map_of w.front.history) (PoolCreate name pg_num size min_size)) min_size name (0 + pg_num) id g → IsMade (after (map_of w.front.history) (PoolCreate name pg_num size min_size)) min_size name pg_num id g
    from_zero id g m = let less : id.number < 0 + pg_num = m.number in record { pool = m.pool; number = omega arith; is = m.is }

-- ---- all events

map_event : (p : Plain) (w : World) (c : MapCommand) → Simulates p w → front_refusal w.front (Map c) ≡ None → Stays w c → Happened (at_front p w) w (Map c)
map_event p w (PoolCreate name pg_num size min_size) s allowed stays = pool_event p w name pg_num size min_size s allowed stays
map_event p w (AppEnable pool app) s allowed stays = still_map p w (AppEnable pool app) s allowed stays refl refl
map_event p w (AppSet pool app key value) s allowed stays = still_map p w (AppSet pool app key value) s allowed stays refl refl
map_event p w (AppRm pool app key) s allowed stays = still_map p w (AppRm pool app key) s allowed stays refl refl
map_event p w (OsdUp d) s allowed stays = up_event p w (OsdUp d) s allowed stays refl refl refl
map_event p w (OsdDown d) s allowed stays = up_event p w (OsdDown d) s allowed stays refl refl refl
map_event p w (OsdRestart d) s allowed stays = restart_event p w d s allowed stays

stays_from : (w : World) (c : MapCommand) → list_any (moves (map_of w.front.history) c) (places w.front) ≡ false → Stays w c
unfolding Stays
stays_from w c h = none_moves (map_of w.front.history) c (places w.front) h

happened_at : (p : Plain) (w : World) (e : Event) → Simulates p w → front_refusal w.front e ≡ None → is_message e ≡ false → is_move w.front e ≡ false → Happened (at_front p w) w e
unfolding requests_of requests_in
happened_at p w (Map c) s allowed quiet still = map_event p w c s allowed (stays_from w c still)
happened_at p w (Auth command) s allowed quiet still = quiet_event p w (Auth command) s allowed refl refl refl refl
happened_at p w (Open entity until) s allowed quiet still = quiet_event p w (Open entity until) s allowed refl refl refl refl
happened_at p w (Renew n until) s allowed quiet still = quiet_event p w (Renew n until) s allowed refl refl refl refl
happened_at p w (Close n) s allowed quiet still = quiet_event p w (Close n) s allowed refl refl refl refl
happened_at p w (Submit ask object ops) s allowed quiet still =
    asking_event p w (Submit ask object ops) ask s ((world_tells p w s.agrees).submit ask object ops ∙ allowed) refl refl refl
    (λ id. single_in w id ask (requests_of w.front (Submit ask object ops)) (λ rs is. submit_made w.front ask object ops rs is))
happened_at p w (ListNames ask) s allowed quiet still =
    asking_event p w (ListNames ask) ask s ((world_tells p w s.agrees).list ask ∙ allowed) refl refl refl
    (λ id. single_in w id ask (requests_of w.front (ListNames ask)) (λ rs is. list_made w.front ask rs is))
happened_at p w (Deliver id k) s allowed quiet still = absurd (cc)
happened_at p w (Lose id k) s allowed quiet still = absurd (cc)
happened_at p w (Repeat id k) s allowed quiet still = absurd (cc)
happened_at p w (Kick id) s allowed quiet still = absurd (cc)

pub happened : (p : Plain) (w : World) (e : Event) → Simulates p w → front_refusal p.front e ≡ None → is_message e ≡ false → is_move p.front e ≡ false → Happened p w e
happened p w e s allowed quiet still =
    let P : ControlPlane → Type 0 = λ f. Happened (record p { front = f }) w e in
    subst P (sym s.agrees.front) (happened_at p w e s (ap (λ f. front_refusal f e) (sym s.agrees.front) ∙ allowed) quiet (ap (λ f. is_move f e) (sym s.agrees.front) ∙ still))
