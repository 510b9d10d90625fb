-- How a plain script's state stands to a world.
use Rattle.std.proofs.Common.{◌≡◌, ◌∙◌, ℕ, ◌+◌, ◌<◌, ◌||◌, List, [], ◌∷◌, ◌++◌, Bool, true, false, not, if◌then◌else◌, Option, Some, None, is_some, map, length, refl, sym, ap, subst, arith, append-nil, append_assoc, length-append}
use Rattle.std.specs.List.{filter, find, list_any}
use Rattle.std.specs.Option.{option_map_or}
use Rattle.std.specs.Str.{bytes_eq}
use Rattle.std.proofs.lemmas.List.Elements.{filter-append}
use Rattle.std.proofs.lemmas.List.Sums.{fold-append}
use Rattle.grant_core.specs.BuiltIn.{built_in}
use Rattle.map_core.specs.State.{MapState}
use Rattle.map_core.specs.Map.{is_named, after, map_of}
use Rattle.map_core.specs.Intervals.{set_of, begun, restarts}
use Rattle.map_core.specs.declared.pool.Pool.{Pool}
use Rattle.map_core.specs.declared.command.MapCommand.{MapCommand}
use Rattle.map_core.specs.Laws.{HasPool}
use Rattle.map_core.proofs.Current.{after_push}
use Rattle.map_core.proofs.Kept.{pools_stay}
use Rattle.map_core.proofs.Daemons.{set_sized}
use Rattle.place_core.specs.Placement.{acting_of, numbers_of}
use Rattle.store_core.specs.Deciding.{store_of}
use Rattle.store_core.specs.Request.{Sealed}
use Rattle.store_core.specs.declared.sealed.GroupId.{GroupId}
use Rattle.group_model_whole.specs.Each.{Each}
use Rattle.group_model.specs.Group.{Group, group_step, last_set}
use Rattle.group_model.specs.Group as group
use Rattle.group_model.specs.Budget.{settle_count}
use Rattle.group_model_whole.specs.Calm.{IsCalm, answer_with}
use Rattle.group_model.proofs.SameGroups.{same_step, takes_last}
use Rattle.world_events.specs.declared.event.Event.{Event}
use Rattle.world_front.specs.Groups.{is_same_group, is_for}
use Rattle.world_front.specs.ControlPlane.{ControlPlane}
use Rattle.world_core.specs.World.{World, group_at, members_of, world_step, world_after, refusal_of, accepts, is_accepted}
use Rattle.world_core.specs.Holds.{AreAccepted}
use Rattle.world_script.specs.Script.{places}
use Rattle.script_laws.specs.Plain.{Plain, least_of, is_open, moves}
use Rattle.world_front.proofs.Bytes.{bytes_same}
use Rattle.world_front.specs.Stands.{InMap}
use Rattle.world_front.proofs.Pools.{found_in}
use Rattle.world_front.proofs.Places.{places_once, each_filter}
use Rattle.world_core.specs.Sound.{FrontKept, GroupKept, WorldKept}
use Rattle.world_core.proofs.Limits.{once, each_not}
use Rattle.world_core.proofs.Intervals.{later, set_later, members_are}
use Rattle.world_laws.proofs.AcceptedLaws.{accepted_kept}
use Rattle.world_laws.proofs.KickRecovery.{accepted_join}
use Rattle.script_laws.proofs.PlainGroups.{Steady, Decided, decided, due, IsStill, IsAside, steady_step, still_decided, aside_requests, due_stays, due_submits}

-- ---- the relation

-- a group holds in its audit and answers what was decided, and waits for what is pending
pub record GroupAgrees (state : MapState) (p : Plain) (id : GroupId) (g : Group) : Type 0 where
  pub steady : Steady (least_of state id) (members_of state id) g
  pub requests : map (λ e. e.sealed) g.audit ++ filter (is_for id) p.pending ≡ g.requests
  pub answers : g.answers ≡ map answer_with g.audit

-- its deliveries that are due
abbrev pub Owes : MapState → Plain → GroupId → Group → Type 0
Owes state p id g = settle_count g ≡ due (least_of state id) (members_of state id) (is_open p id) (length (filter (is_for id) p.pending)) (length (filter (is_for id) p.fresh))

-- the world is one of accepted events, with these objects and answers
pub record Agrees (p : Plain) (w : World) : Type 0 where
  pub daemons : ℕ
  pub events : List Event
  pub accepted : AreAccepted built_in daemons events
  pub is : world_after built_in daemons events ≡ w
  pub front : p.front ≡ w.front
  pub objects : p.objects ≡ store_of w.audit
  pub answers : p.answers ≡ map answer_with w.audit
  pub groups : (id : GroupId) (g : Group) → group_at id w.groups ≡ Some g → GroupAgrees (map_of w.front.history) p id g
  -- only what was submitted waits, and only places of the map were settled
  pub known : (test : Sealed → Bool) → filter test w.front.submissions ≡ [] → (filter test p.pending ≡ []) × (filter test p.fresh ≡ [])
  pub opened : (id : GroupId) → filter (is_same_group id) (places w.front) ≡ [] → is_open p id ≡ false

pub record Simulates (p : Plain) (w : World) : Type 0 where
  pub agrees : Agrees p w
  pub owes : (id : GroupId) (g : Group) → group_at id w.groups ≡ Some g → Owes (map_of w.front.history) p id g

pub world_keeps : (p : Plain) (w : World) → Agrees p w → WorldKept w
world_keeps p w s = subst WorldKept s.is (accepted_kept built_in s.daemons s.events s.accepted)

-- one more accepted event
pub record Onward (table_daemons : ℕ) (events : List Event) (w : World) : Type 0 where
  pub accepted : AreAccepted built_in table_daemons events
  pub is : world_after built_in table_daemons events ≡ w

pub one_more : (daemons : ℕ) (events : List Event) (w : World) (e : Event) → AreAccepted built_in daemons events → world_after built_in daemons events ≡ w → refusal_of w e ≡ None → Onward daemons (events ++ e ∷ []) (world_step w e)
one_more daemons events w e accepted is none =
    let first = world_after built_in daemons [] in
    let P : World → Type 0 = λ v. is_accepted v e ≡ true in
    record {
      accepted = accepted_join events (e ∷ []) first accepted (subst P (sym is) (ap (accepts e) none), tt);
      is = fold-append world_step first events (e ∷ []) ∙ ap (λ v. world_step v e) is;
    }

-- ---- a place of the map that a command leaves in its interval

none_begun : (o : Option (List ℕ)) → is_some o ≡ false → o ≡ None
none_begun None h = refl
none_begun (Some x) h = absurd (cc)

-- no place begins an interval
pub none_moves : (state : MapState) (c : MapCommand) (ids : List GroupId) → list_any (moves state c) ids ≡ false → Each (λ id. moves state c id ≡ false) ids
none_moves state c ids h = each_not (moves state c) ids h

pub record Remains (state : MapState) (c : MapCommand) (id : GroupId) : Type 0 where
  pub members : members_of (after state c) id ≡ members_of state id
  pub least : least_of (after state c) id ≡ least_of state id
  pub quiet : restarts c (members_of state id) ≡ false

first_false : (a b : Bool) → (a || b) ≡ false → a ≡ false
first_false true b h = absurd (cc)
first_false false b h = refl

second_false : (a b : Bool) → (a || b) ≡ false → b ≡ false
second_false true b h = absurd (cc)
second_false false b h = h

not_false : (b : Bool) → not b ≡ false → b ≡ true
not_false true h = refl
not_false false h = absurd (cc)

unless_none : (b : Bool) (x : List ℕ) → (if b then Some x else None) ≡ None → b ≡ false
unless_none true x h = absurd (cc)
unless_none false x h = refl

least_found : (state : MapState) (id : GroupId) (p : Pool) → find (is_named id.pool) state.pools ≡ Some p → least_of state id ≡ p.min_size
least_found state id p h = ap (λ o. option_map_or (λ (q : Pool). q.min_size) o 0) h

pub remains : (f : ControlPlane) (c : MapCommand) (id : GroupId) (g : Group) → GroupKept f id g → moves (map_of f.history) c id ≡ false → Remains (map_of f.history) c id
remains f c id g k still =
    let state : MapState = map_of f.history in
    let next : map_of (later f.history c) ≡ after state c = after_push f.history.daemons f.history.commands c in
    let old : List ℕ = last_set g.sets in
    let present : set_of state id.pool id.number ≡ Some old = k.sets.present in
    let was : members_of state id ≡ old = members_are state id old present in
    let sized = set_sized state id.pool id.number old present in
    let new : List ℕ = acting_of id.pool id.number (numbers_of (after state c).up) sized.0 in
    let now : set_of (after state c) id.pool id.number ≡ Some new = set_later state c id sized.0 sized.1 in
    let none : begun c (Some old) (Some new) ≡ None =
    ap (begun c (Some old)) (sym now) ∙ ap (λ o. begun c o (set_of (after state c) id.pool id.number)) (sym present)
    ∙ none_begun (begun c (set_of state id.pool id.number) (set_of (after state c) id.pool id.number)) still in
    let neither : (restarts c old || not (bytes_eq old new)) ≡ false = unless_none (restarts c old || not (bytes_eq old new)) new none in
    let same : old ≡ new = bytes_same old new (not_false (bytes_eq old new) (second_false (restarts c old) (not (bytes_eq old new)) neither)) in
    let there : HasPool (later f.history c) id.pool k.groups k.pool.size k.pool.min_size = pools_stay f.history (c ∷ []) id.pool k.groups k.pool.size k.pool.min_size k.pool.is in
    let in_map : InMap (later f.history c) id.pool k.groups = record { size = k.pool.size; min_size = k.pool.min_size; is = there } in
    record {
      members = members_are (after state c) id new now ∙ sym same ∙ sym was;
      least = ap (λ s. least_of s id) (sym next) ∙ least_found (map_of (later f.history c)) id there.pool (found_in (later f.history c) id.pool k.groups in_map) ∙ there.needed
          ∙ sym k.pool.is.needed ∙ sym (least_found state id k.pool.is.pool (found_in f.history id.pool k.groups k.pool));
      quiet = ap (restarts c) was ∙ first_false (restarts c old) (not (bytes_eq old new)) neither;
    }

-- the place of a group is one of the map's
pub of_places : (P : GroupId → Type 0) (f : ControlPlane) (id : GroupId) (g : Group) → FrontKept f → GroupKept f id g → Each P (places f) → P id
of_places P f id g kept k all =
    let one : filter (is_same_group id) (places f) ≡ id ∷ [] =
    places_once id (map_of f.history).pools k.pool.is.pool (once f kept) (found_in f.history id.pool k.groups k.pool) (subst (λ n. id.number < n) (sym k.pool.is.groups) k.number) in
    (subst (Each P) one (each_filter P (is_same_group id) (places f) all)).0

-- ---- a group after an event

-- what an event leaves of a state
pub record Leaves (p p' : Plain) (news : List Sealed) : Type 0 where
  pub pending : p'.pending ≡ p.pending ++ news
  pub fresh : p'.fresh ≡ p.fresh ++ news
  pub opened : p'.opened ≡ p.opened

pub record SamePlace (state state' : MapState) (id : GroupId) : Type 0 where
  pub members : members_of state' id ≡ members_of state id
  pub least : least_of state' id ≡ least_of state id

-- a group that takes these requests
pub record Took (state : MapState) (p : Plain) (id : GroupId) (g g' : Group) (l : List Sealed) : Type 0 where
  pub steady : Steady (least_of state id) (members_of state id) g'
  pub same : decided g' ≡ decided g
  pub requests : g'.requests ≡ g.requests ++ l
  pub owes : settle_count g' ≡ due (least_of state id) (members_of state id) (is_open p id) (length (filter (is_for id) p.pending) + length l) (length (filter (is_for id) p.fresh) + length l)

longer : (test : Sealed → Bool) (xs xs' news l : List Sealed) → xs' ≡ xs ++ news → filter test news ≡ l → filter test xs' ≡ filter test xs ++ l
longer test xs xs' news l is own = ap (filter test) is ∙ filter-append test xs news ∙ ap (λ m. filter test xs ++ m) own

pub record Both (state : MapState) (p : Plain) (id : GroupId) (g : Group) : Type 0 where
  pub holds : GroupAgrees state p id g
  pub owes : Owes state p id g

pub took_both : (state state' : MapState) (p p' : Plain) (id : GroupId) (g g' : Group) (news l : List Sealed) → SamePlace state state' id → Leaves p p' news → filter (is_for id) news ≡ l → GroupAgrees state p id g → Took state p id g g' l → Both state' p' id g'
took_both state state' p p' id g g' news l place leaves own h t =
    let least : least_of state id ≡ least_of state' id = sym place.least in
    let members : members_of state id ≡ members_of state' id = sym place.members in
    let P : ℕ → List ℕ → Type 0 = λ n m. Steady n m g' in
    let pending : filter (is_for id) p'.pending ≡ filter (is_for id) p.pending ++ l = longer (is_for id) p.pending p'.pending news l leaves.pending own in
    let fresh : filter (is_for id) p'.fresh ≡ filter (is_for id) p.fresh ++ l = longer (is_for id) p.fresh p'.fresh news l leaves.fresh own in
    let sealed : List Sealed = map (λ e. e.sealed) g.audit in
    record {
      holds = record {
        steady = subst (λ m. P (least_of state' id) m) members (subst (λ n. P n (members_of state id)) least t.steady);
        requests = ap (λ (d : Decided). map (λ e. e.sealed) d.audit ++ filter (is_for id) p'.pending) t.same ∙ ap (λ m. sealed ++ m) pending ∙ sym (append_assoc sealed (filter (is_for id) p.pending) l)
            ∙ ap (λ m. m ++ l) h.requests ∙ sym t.requests;
        answers = ap (λ (d : Decided). d.answers) t.same ∙ h.answers ∙ ap (λ (d : Decided). map answer_with d.audit) (sym t.same);
      };
      owes = t.owes
          ∙ ap (λ n. due n (members_of state id) (is_open p id) (length (filter (is_for id) p.pending) + length l) (length (filter (is_for id) p.fresh) + length l)) least
          ∙ ap (λ m. due (least_of state' id) m (is_open p id) (length (filter (is_for id) p.pending) + length l) (length (filter (is_for id) p.fresh) + length l)) members
          ∙ ap (λ o. due (least_of state' id) (members_of state' id) (list_any (is_same_group id) o) (length (filter (is_for id) p.pending) + length l) (length (filter (is_for id) p.fresh) + length l)) (sym leaves.opened)
          ∙ ap (λ n. due (least_of state' id) (members_of state' id) (is_open p' id) n (length (filter (is_for id) p.fresh) + length l)) (sym (length-append (filter (is_for id) p.pending) l) ∙ ap length (sym pending))
          ∙ ap (λ n. due (least_of state' id) (members_of state' id) (is_open p' id) (length (filter (is_for id) p'.pending)) n) (sym (length-append (filter (is_for id) p.fresh) l) ∙ ap length (sym fresh));
    }

-- it hears nothing
pub took_none : (state : MapState) (p : Plain) (id : GroupId) (g : Group) → GroupAgrees state p id g → Owes state p id g → Took state p id g g []
took_none state p id g h owes = record {
  steady = h.steady;
  same = refl;
  requests = sym (append-nil g.requests);
  owes = owes ∙ grown (is_open p id) (length (filter (is_for id) p.pending)) (length (filter (is_for id) p.fresh));
}
  where
    grown : (o : Bool) (a b : ℕ) → due (least_of state id) (members_of state id) o a b ≡ due (least_of state id) (members_of state id) o (a + 0) (b + 0)
    grown o a b =
        let x : a ≡ a + 0 = omega arith in
        let y : b ≡ b + 0 = omega arith in
        ap (λ n. due (least_of state id) (members_of state id) o n b) x ∙ ap (due (least_of state id) (members_of state id) o (a + 0)) y

-- it hears of the map
pub took_aside : (state : MapState) (p : Plain) (id : GroupId) (g : Group) (e : group.Event) → GroupAgrees state p id g → Owes state p id g → IsCalm (members_of state id) e → IsAside e → IsStill e → Took state p id g (group_step g e) []
took_aside state p id g e h owes calm aside still =
    let t : Took state p id g g [] = took_none state p id g h owes in
    record {
      steady = steady_step (least_of state id) (members_of state id) g e h.steady calm;
      same = still_decided e g still;
      requests = aside_requests e g aside ∙ sym (append-nil g.requests);
      owes = due_stays (least_of state id) (members_of state id) g e h.steady calm aside ∙ t.owes;
    }

-- it takes a request
pub took_request : (state : MapState) (p : Plain) (id : GroupId) (g : Group) (s : Sealed) → GroupAgrees state p id g → Owes state p id g → group.refusal_of g (group.Submit s) ≡ None → Took state p id g (group_step g (group.Submit s)) (s ∷ [])
took_request state p id g s h owes free = record {
  steady = steady_step (least_of state id) (members_of state id) g (group.Submit s) h.steady tt;
  same = still_decided (group.Submit s) g tt;
  requests = (same_step g (group.Submit s)).requests ∙ takes_last g s free;
  owes = due_submits (least_of state id) (members_of state id) g s (is_open p id) (length (filter (is_for id) p.pending)) (length (filter (is_for id) p.fresh)) h.steady free owes;
}
