-- What one accepted event does to the requests, the sets and the up daemons of a group.
use Rattle.std.proofs.Common.{◌≡◌, ◌∙◌, ℕ, ◌==◌, List, [], ◌∷◌, ◌++◌, Bool, true, false, cond, if◌then◌else◌, Option, Some, None, option_to_list, map, refl, sym, ap, subst, append-nil}
use Rattle.std.specs.Prelude.{slice_get}
use Rattle.std.specs.List.{filter, flat_map}
use Rattle.place_core.specs.Placement.{numbers_of}
use Rattle.map_core.specs.State.{MapState}
use Rattle.entry_core.specs.Log.{is_in}
use Rattle.store_core.specs.Request.{Sealed}
use Rattle.store_core.specs.declared.sealed.GroupId.{GroupId}
use Rattle.peer_core.specs.Steps.{restarted}
use Rattle.group_model.specs.Types.{Daemon, Body, Interval, Query, Info, Install, Installed, Append, Appended, Request, Reply, NotHere, Party, Osd, Client, Sent}
use Rattle.group_model_whole.specs.Each.{Each}
use Rattle.group_model.specs.Group.{Group, last_set, is_answered, answered, copy_hears, arrives, without, deliver, lose, again, is_submitted, has_all_requests, has_all_intervals, take_request, begin, with_up, same_set, group_step, run}
use Rattle.group_model.specs.Group as group
use Rattle.group_messages.specs.declared.fault.GroupFault.TheVariants as group_fault
use Rattle.entry_core.specs.Locality.{group_for}
use Rattle.world_front.specs.Groups.{is_same_group, groups_of, is_for}
use Rattle.world_core.specs.World.{Part, part, group_at, members_of, moved_parts, restarted_parts, asked_parts, refused_in, part_refusal, parts_refusal}
use Rattle.world_core.specs.Holds.{events_in}
use Rattle.world_front.proofs.Merge.{same_group}
use Rattle.world_front.proofs.Places.{filter_map_is, each_filter, all_pass, AtMostOne}
use Rattle.world_core.proofs.Limits.{or_first, or_second}

-- what only submissions, intervals and daemons change
pub record Facts : Type 0 where
  pub requests : List Sealed
  pub sets : List (List ℕ)
  pub up : List ℕ

abbrev pub facts : Group → Facts
facts g = record { requests = g.requests; sets = g.sets; up = g.up }

abbrev Is : Facts → Group → Type 0
Is x g = facts g ≡ x

is_if : (x : Facts) (b : Bool) (g h : Group) → Is x g → Is x h → Is x (if b then g else h)
is_if x true g h p q = p
is_if x false g h p q = q

-- ---- messages

is_answered_body : (x : Facts) (g : Group) (b : Body) → Is x g → Is x (answered g b)
is_answered_body x g (Reply r reply) is = is_if x (is_answered g.answers r) g (record g { answers = g.answers ++ record { id = r; reply = reply } ∷ [] }) is is
is_answered_body x g (Interval sets) is = is
is_answered_body x g (Query i len end) is = is
is_answered_body x g (Info i base from part) is = is
is_answered_body x g (Install i from part) is = is
is_answered_body x g (Installed i) is = is
is_answered_body x g (Append i place s) is = is
is_answered_body x g (Appended i place) is = is
is_answered_body x g (Request s) is = is
is_answered_body x g (NotHere r) is = is

is_hears : (x : Facts) (g : Group) (m : Sent) (d : ℕ) (found : Option Daemon) → Is x g → Is x (copy_hears g m d found)
is_hears x g m d None is = is
is_hears x g m d (Some c) is = is

is_arrives : (x : Facts) (g : Group) (m : Sent) (to : Party) → Is x g → Is x (arrives g m to)
is_arrives x g m Client is = is_answered_body x g m.body is
is_arrives x g m (Osd d) is = is_if x (is_in g.up d) (copy_hears g m d (slice_get g.copies d)) g (is_hears x g m d (slice_get g.copies d) is) is

is_delivered : (x : Facts) (g : Group) (k : ℕ) (found : Option Sent) → Is x g → Is x (deliver g k found)
is_delivered x g k None is = is
is_delivered x g k (Some m) is = is_arrives x (without g k) m m.to is

is_lost : (x : Facts) (g : Group) (k : ℕ) (found : Option Sent) → Is x g → Is x (lose g k found)
is_lost x g k None is = is
is_lost x g k (Some m) is = is

is_again : (x : Facts) (g : Group) (found : Option Sent) → Is x g → Is x (again g found)
is_again x g None is = is
is_again x g (Some m) is = is

abbrev pub IsMessage : group.Event → Type 0
IsMessage (group.Submit s) = ⊥
IsMessage (group.Deliver k) = Unit {0}
IsMessage (group.Lose k) = Unit {0}
IsMessage (group.Repeat k) = Unit {0}
IsMessage (group.NewInterval acting up) = ⊥
IsMessage (group.Restart d) = ⊥
IsMessage group.Kick = Unit {0}

pub message_facts : (e : group.Event) (g : Group) → IsMessage e → facts (group_step g e) ≡ facts g
message_facts (group.Submit s) g h = absurd h
message_facts (group.Deliver k) g h = is_delivered (facts g) g k (slice_get g.wire k) refl
message_facts (group.Lose k) g h = is_lost (facts g) g k (slice_get g.wire k) refl
message_facts (group.Repeat k) g h = is_again (facts g) g (slice_get g.wire k) refl
message_facts (group.NewInterval acting up) g h = absurd h
message_facts (group.Restart d) g h = absurd h
message_facts group.Kick g h = refl

-- ---- requests, intervals, restarts that the group does not refuse

pub submit_facts : (g : Group) (s : Sealed) → group.refusal_of g (group.Submit s) ≡ None → facts (group_step g (group.Submit s)) ≡ record (facts g) { requests = g.requests ++ s ∷ [] }
submit_facts g s none = go (is_submitted g.requests s.id) (has_all_requests g) none
  where
    go : (b c : Bool) → (if b then Some group_fault.Doubled else (if c then Some group_fault.Full else None)) ≡ None
        → facts (if b then g else (if c then g else take_request g s)) ≡ record (facts g) { requests = g.requests ++ s ∷ [] }
    go true c h = absurd (cc)
    go false true h = absurd (cc)
    go false false h = refl

-- the sets after a move, if it is one
abbrev pub moved_sets : List (List ℕ) → List ℕ → List (List ℕ)
moved_sets sets acting = if same_set acting (last_set sets) then sets else sets ++ acting ∷ []

abbrev pub restarted_sets : List (List ℕ) → ℕ → List (List ℕ)
restarted_sets sets d = if is_in (last_set sets) d then sets ++ last_set sets ∷ [] else sets

pub interval_facts : (g : Group) (acting up : List ℕ) → group.refusal_of g (group.NewInterval acting up) ≡ None
    → facts (group_step g (group.NewInterval acting up)) ≡ record (facts g) { sets = moved_sets g.sets acting; up = up }
interval_facts g acting up none = go (same_set acting (last_set g.sets)) (has_all_intervals g) none
  where
    go : (b c : Bool) → (if b then None else (if c then Some group_fault.Full else None)) ≡ None
        → facts (if b then with_up g up else (if c then g else begin (with_up g up) acting)) ≡ record (facts g) { sets = if b then g.sets else g.sets ++ acting ∷ []; up = up }
    go true c h = refl
    go false true h = absurd (cc)
    go false false h = refl

pub restart_facts : (g : Group) (d : ℕ) → group.refusal_of g (group.Restart d) ≡ None → facts (group_step g (group.Restart d)) ≡ record (facts g) { sets = restarted_sets g.sets d }
restart_facts g d none = go (is_in (last_set g.sets) d) (has_all_intervals g) none
  where
    go : (b c : Bool) → (if b then (if c then Some group_fault.Full else None) else None) ≡ None
        → facts (if b then (if c then g else begin (record g { copies = map (λ c. if c.number == d then restarted c else c) g.copies }) (last_set g.sets)) else record g { copies = map (λ c. if c.number == d then restarted c else c) g.copies })
        ≡ record (facts g) { sets = if b then g.sets ++ last_set g.sets ∷ [] else g.sets }
    go false c k = refl
    go true true k = absurd (cc)
    go true false k = refl

-- ---- what a group hears of an event

all_pass_parts : (groups : List Group) (ps : List Part) → parts_refusal groups ps ≡ None → Each (λ p. part_refusal groups p ≡ None) ps
all_pass_parts groups [] none = tt
all_pass_parts groups (p ∷ ps) none = (or_first (part_refusal groups p) (parts_refusal groups ps) none, all_pass_parts groups ps (or_second (part_refusal groups p) (parts_refusal groups ps) none))

abbrev pub heard : GroupId → List Part → List Part
heard id ps = filter (λ p. is_same_group id p.id) ps

-- the one part that the group hears, it does not refuse
pub heard_passes : (id : GroupId) (g : Group) (groups : List Group) (ps : List Part) (q : Part) → group_at id groups ≡ Some g → parts_refusal groups ps ≡ None → heard id ps ≡ q ∷ [] → group.refusal_of g q.event ≡ None
heard_passes id g groups ps q there none one =
    let P : List Part → Type 0 = λ l. Each (λ p. part_refusal groups p ≡ None) l in
    let Q : List Part → Type 0 = λ l. Each (λ p. is_same_group id p.id ≡ true) l in
    let passes : part_refusal groups q ≡ None = (subst P one (each_filter (λ p. part_refusal groups p ≡ None) (λ p. is_same_group id p.id) ps (all_pass_parts groups ps none))).0 in
    let same : id ≡ q.id = same_group id q.id (subst Q one (all_pass (λ p. is_same_group id p.id) ps)).0 in
    sym (ap (λ o. refused_in o q.event) there) ∙ ap (λ i. refused_in (group_at i groups) q.event) same ∙ passes

pub heard_map : {X : Type 0} (id : GroupId) (F : X → Part) (xs l : List X) → filter (λ x. is_same_group id (F x).id) xs ≡ l → heard id (map F xs) ≡ map F l
heard_map id F xs l e = filter_map_is (λ p. is_same_group id p.id) F xs ∙ ap (map F) e

none_heard : (id : GroupId) (ps : List Part) (g : Group) → heard id ps ≡ [] → facts (run (events_in id ps) g) ≡ facts g
none_heard id ps g e = ap (λ l. facts (run (map (λ p. p.event) l) g)) e

pub one_heard : (id : GroupId) (ps : List Part) (g : Group) (q : Part) → heard id ps ≡ q ∷ [] → facts (run (events_in id ps) g) ≡ facts (group_step g q.event)
one_heard id ps g q e = ap (λ l. facts (run (map (λ p. p.event) l) g)) e

-- a message of one group
pub told_one : (id other : GroupId) (e : group.Event) (g : Group) → IsMessage e → facts (run (events_in id (part other e ∷ [])) g) ≡ facts g
told_one id other e g h = go (is_same_group id other)
  where
    go : (b : Bool) → facts (run (map (λ p. p.event) (cond b (part other e ∷ []) [])) g) ≡ facts g
    go true = message_facts e g h
    go false = refl

-- the requests of one event
pub asked_facts : (id : GroupId) (g : Group) (groups : List Group) (rs : List Sealed) → group_at id groups ≡ Some g → parts_refusal groups (asked_parts rs) ≡ None → AtMostOne (filter (is_for id) rs)
    → facts (run (events_in id (asked_parts rs)) g) ≡ record (facts g) { requests = g.requests ++ filter (is_for id) rs }
asked_facts id g groups rs there none single = go single.one single.is
  where
    go : (o : Option Sealed) → filter (is_for id) rs ≡ option_to_list o → facts (run (events_in id (asked_parts rs)) g) ≡ record (facts g) { requests = g.requests ++ filter (is_for id) rs }
    go None e =
        none_heard id (asked_parts rs) g (heard_map id (λ s. part (group_for s) (group.Submit s)) rs [] e)
        ∙ ap (λ l. record (facts g) { requests = l }) (sym (append-nil g.requests) ∙ ap (λ l. g.requests ++ l) (sym e))
    go (Some s) e =
        let one : heard id (asked_parts rs) ≡ part (group_for s) (group.Submit s) ∷ [] = heard_map id (λ s. part (group_for s) (group.Submit s)) rs (s ∷ []) e in
        one_heard id (asked_parts rs) g (part (group_for s) (group.Submit s)) one
        ∙ submit_facts g s (heard_passes id g groups (asked_parts rs) (part (group_for s) (group.Submit s)) there none one)
        ∙ ap (λ l. record (facts g) { requests = g.requests ++ l }) (sym e)

-- a move, where the place is in the map once
pub moved_facts : (id : GroupId) (g : Group) (groups : List Group) (state : MapState) → group_at id groups ≡ Some g → parts_refusal groups (moved_parts state) ≡ None → filter (is_same_group id) (flat_map groups_of state.pools) ≡ id ∷ []
    → facts (run (events_in id (moved_parts state)) g) ≡ record (facts g) { sets = moved_sets g.sets (members_of state id); up = numbers_of state.up }
moved_facts id g groups state there none once =
    let q : Part = part id (group.NewInterval (members_of state id) (numbers_of state.up)) in
    let one : heard id (moved_parts state) ≡ q ∷ [] = heard_map id (λ i. part i (group.NewInterval (members_of state i) (numbers_of state.up))) (flat_map groups_of state.pools) (id ∷ []) once in
    one_heard id (moved_parts state) g q one
    ∙ interval_facts g (members_of state id) (numbers_of state.up) (heard_passes id g groups (moved_parts state) q there none one)

pub restarted_facts : (id : GroupId) (g : Group) (groups : List Group) (state : MapState) (d : ℕ) → group_at id groups ≡ Some g → parts_refusal groups (restarted_parts state d) ≡ None → filter (is_same_group id) (flat_map groups_of state.pools) ≡ id ∷ []
    → facts (run (events_in id (restarted_parts state d)) g) ≡ record (facts g) { sets = restarted_sets g.sets d }
restarted_facts id g groups state d there none once =
    let q : Part = part id (group.Restart d) in
    let one : heard id (restarted_parts state d) ≡ q ∷ [] = heard_map id (λ i. part i (group.Restart d)) (flat_map groups_of state.pools) (id ∷ []) once in
    one_heard id (restarted_parts state d) g q one
    ∙ restart_facts g d (heard_passes id g groups (restarted_parts state d) q there none one)
