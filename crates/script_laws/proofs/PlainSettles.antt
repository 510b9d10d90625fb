-- A settling of a plain script, on its state and on its world.
use Rattle.std.proofs.Common.{◌≡◌, ◌∙◌, ℕ, ◌+◌, ◌*◌, ◌<◌, ◌||◌, List, [], ◌∷◌, ◌++◌, Bool, true, false, not, cond, if◌then◌else◌, Option, Some, None, map, length, fold, replicate, refl, sym, ap, subst, arith, append-nil, append_assoc}
use Rattle.std.specs.Prelude.{nat_le}
use Rattle.std.specs.List.{filter, list_any}
use Rattle.std.proofs.lemmas.List.Elements.{filter-append}
use Rattle.std.proofs.lemmas.List.Sums.{fold-append}
use Rattle.grant_core.specs.BuiltIn.{built_in}
use Rattle.map_core.specs.State.{MapState}
use Rattle.map_core.specs.Map.{map_of}
use Rattle.store_core.specs.Deciding.{store_of}
use Rattle.entry_core.specs.Log.{Legal, LegalFrom}
use Rattle.store_core.specs.Request.{Sealed}
use Rattle.store_core.specs.declared.entry.Entry.{Entry}
use Rattle.store_core.specs.declared.sealed.GroupId.{GroupId}
use Rattle.group_model_whole.specs.Each.{Each}
use Rattle.group_model.specs.Group.{Group, run}
use Rattle.group_model.specs.Group as group
use Rattle.group_model.specs.Budget.{budget, settled_group, settle_count}
use Rattle.group_model_whole.specs.Quiet.{request_cost}
use Rattle.group_model_whole.specs.Calm.{answer_with, unserved_cost}
use Rattle.group_model_whole.proofs.Audits.{legal_rest}
use Rattle.group_model.proofs.SameGroups.{same_settle}
use Rattle.world_events.specs.declared.event.Event.{Event}
use Rattle.world_events.specs.declared.event.Event.TheVariants.{Deliver}
use Rattle.world_front.specs.Groups.{is_same_group, is_for}
use Rattle.world_front.specs.ControlPlane.{ControlPlane, group_refusal}
use Rattle.world_core.specs.World.{World, group_at, members_of, world_step, world_after}
use Rattle.world_core.specs.Holds.{AcceptedFrom, AreAccepted}
use Rattle.world_laws.specs.Places.{HasPlaces, IsFoundByPlace}
use Rattle.world_laws.specs.Recovery.{deliveries_of}
use Rattle.world_script.specs.Script.{places, budget_in, emptied_within, emptied, on_each, settle_events, unrefused}
use Rattle.script_laws.specs.Plain.{Plain, least_of, is_enough, is_open, decides, serves, serving_cost, waiting_cost, cost, Settled, settles, settles_all, rested}
use Rattle.world_front.proofs.Merge.{same_group, group_refl}
use Rattle.world_front.proofs.Places.{true_not_false, places_once, group_turned}
use Rattle.world_front.proofs.Pools.{found_in}
use Rattle.world_core.proofs.Limits.{once}
use Rattle.world_laws.proofs.AcceptedLaws.{accepted_has_numbers}
use Rattle.world_core.proofs.Worlds.{world_stands, world_legal}
use Rattle.world_laws.proofs.PlaceGroups.{none_filtered, every_place_has_its_group, groups_are_found_by_place}
use Rattle.world_core.specs.Sound.{GroupKept, WorldKept}
use Rattle.world_core.proofs.Requests.{IsMessage}
use Rattle.world_laws.proofs.KickRecovery.{shown, Ran, ran, all_accepted, accepted_join, deliveries_heard, deliveries_shown, deliveries_pass, delivered_all}
use Rattle.script_laws.proofs.PlainGroups.{steady_settles, due, Rests, rests}
use Rattle.script_laws.proofs.PlainStates.{GroupAgrees, Owes, Agrees, Simulates, world_keeps}
use Rattle.script_laws.proofs.PlainEvents.{first_nil, second_nil}
use Rattle.script_laws.proofs.PlainDeliveries.{emptied_is, unrefused_is, unrefused_join, Gains, gains, decides_all}

-- ---- lists

rest_same : {X : Type 0} (xs a b : List X) → xs ++ a ≡ xs ++ b → a ≡ b
rest_same [] a b h = h
rest_same (x ∷ xs) a b h = rest_same xs a b (let tails : xs ++ a ≡ xs ++ b = cc in tails)

map_join : {X Y : Type 0} (f : X → Y) (xs ys : List X) → map f (xs ++ ys) ≡ map f xs ++ map f ys
map_join f [] ys = refl
map_join f (x ∷ xs) ys = ap (λ l. f x ∷ l) (map_join f xs ys)

-- without those of one group
none_left : (test : Sealed → Bool) (ss : List Sealed) → filter test (filter (λ s. not (test s)) ss) ≡ []
none_left test [] = refl
none_left test (s ∷ ss) = go (test s) refl (none_left test ss)
  where
    go : (b : Bool) → test s ≡ b → filter test (filter (λ r. not (test r)) ss) ≡ [] → filter test (cond (not b) (s ∷ filter (λ r. not (test r)) ss) (filter (λ r. not (test r)) ss)) ≡ []
    go true e rest = rest
    go false e rest = ap (λ c. cond c (s ∷ filter test (filter (λ r. not (test r)) ss)) (filter test (filter (λ r. not (test r)) ss))) e ∙ rest

others_left : (test other : Sealed → Bool) → ((s : Sealed) → test s ≡ true → other s ≡ false) → (ss : List Sealed) → filter test (filter (λ s. not (other s)) ss) ≡ filter test ss
others_left test other apart [] = refl
others_left test other apart (s ∷ ss) = go (test s) refl (other s) refl (others_left test other apart ss)
  where
    go : (b : Bool) → test s ≡ b → (c : Bool) → other s ≡ c → filter test (filter (λ r. not (other r)) ss) ≡ filter test ss
        → filter test (cond (not c) (s ∷ filter (λ r. not (other r)) ss) (filter (λ r. not (other r)) ss)) ≡ cond b (s ∷ filter test ss) (filter test ss)
    go true is true there rest = absurd (true_not_false (sym there ∙ apart s is))
    go true is false there rest = ap (λ t. cond t (s ∷ filter test (filter (λ r. not (other r)) ss)) (filter test (filter (λ r. not (other r)) ss))) is ∙ ap (λ l. s ∷ l) rest
    go false is true there rest = rest
    go false is false there rest = ap (λ t. cond t (s ∷ filter test (filter (λ r. not (other r)) ss)) (filter test (filter (λ r. not (other r)) ss))) is ∙ rest

fewer_none : (test other : Sealed → Bool) (ss : List Sealed) → filter test ss ≡ [] → filter test (filter other ss) ≡ []
fewer_none test other [] h = refl
fewer_none test other (s ∷ ss) h = go (test s) refl (other s) h (λ k. fewer_none test other ss k)
  where
    go : (b : Bool) → test s ≡ b → (c : Bool) → cond b (s ∷ filter test ss) (filter test ss) ≡ [] → (filter test ss ≡ [] → filter test (filter other ss) ≡ []) → filter test (cond c (s ∷ filter other ss) (filter other ss)) ≡ []
    go true e c none rest = absurd (cc)
    go false e true none rest = ap (λ t. cond t (s ∷ filter test (filter other ss)) (filter test (filter other ss))) e ∙ rest none
    go false e false none rest = rest none

-- requests of one group are of no other
for_one : (id other : GroupId) → is_same_group id other ≡ false → (s : Sealed) → is_for id s ≡ true → is_for other s ≡ false
for_one id other apart s mine = go (is_for other s) refl
  where
    go : (b : Bool) → is_for other s ≡ b → b ≡ false
    go false e = refl
    go true e = absurd (true_not_false (sym (group_refl id) ∙ ap (is_same_group id) (same_group id _ mine ∙ sym (same_group other _ e)) ∙ apart))

-- ---- the settling so far

-- what a settled group owes: nothing, and nothing of it waits where it is large enough
pub record Rested (state : MapState) (p : Plain) (id : GroupId) (g : Group) : Type 0 where
  pub nothing : settle_count g ≡ 0
  pub pending : nat_le (least_of state id) (length (members_of state id)) ≡ true → filter (is_for id) p.pending ≡ []

-- each place that is left stands once, and has its group
abbrev pub AreLeft : World → List GroupId → Type 0
AreLeft w [] = Unit {0}
AreLeft w (id ∷ ids) = (filter (is_same_group id) ids ≡ []) × ((g : Group) × (group_at id w.groups ≡ Some g)) × AreLeft w ids

pub record Settling (p : Plain) (w : World) (rest : List GroupId) : Type 0 where
  pub agrees : Agrees p w
  pub left : AreLeft w rest
  pub owes : (id : GroupId) (g : Group) → group_at id w.groups ≡ Some g → filter (is_same_group id) rest ≡ id ∷ [] → Owes (map_of w.front.history) p id g
  pub done : (id : GroupId) (g : Group) → group_at id w.groups ≡ Some g → filter (is_same_group id) rest ≡ [] → Rested (map_of w.front.history) p id g

-- ---- the world after the deliveries of one group

record Delivered (w : World) (id : GroupId) (g : Group) (es : List Event) : Type 0 where
  there : group_at id (fold world_step w es).groups ≡ Some (settled_group g)
  front : (fold world_step w es).front ≡ w.front
  others : (other : GroupId) → is_same_group other id ≡ false → group_at other (fold world_step w es).groups ≡ group_at other w.groups
  accepted : AcceptedFrom w es
  gained : Gains w (fold world_step w es) g (settled_group g)
  counted : unrefused w es ≡ settle_count g

delivers : (w : World) (id : GroupId) (g : Group) → group_refusal w.front id ≡ None → group_at id w.groups ≡ Some g → Delivered w id g (emptied Deliver id w)
delivers w id g named there =
    let n : ℕ = deliveries_of (budget g) g in
    let es : List group.Event = replicate n (group.Deliver 0) in
    let heard : Each IsMessage es = deliveries_heard n in
    let same : map (shown id) es ≡ replicate n (Deliver id 0) = deliveries_shown id n in
    let events : emptied Deliver id w ≡ replicate n (Deliver id 0) = ap (λ o. emptied_within Deliver id (budget_in o) w) there ∙ emptied_is (budget g) id w g there in
    let r : Ran w id g es = ran es w id g heard there in
    let settled : run es g ≡ settled_group g = delivered_all (budget g) g in
    let P : List Event → Type 0 = λ l. Delivered w id g l in
    let G : Group → Type 0 = λ v. Gains w (fold world_step w (map (shown id) es)) g v in
    let U : unrefused w (map (shown id) es) ≡ settle_count g = ap (unrefused w) same ∙ unrefused_is (budget g) id w g named there in
    subst P (same ∙ sym events) (record {
      there = r.there ∙ ap Some settled;
      front = r.front;
      others = r.others;
      accepted = all_accepted es w id g heard named there (deliveries_pass id (budget g) g);
      gained = subst G settled (gains es w id g heard there);
      counted = U;
    })

-- more accepted events
agrees_legal : (p : Plain) (w w' : World) (es : List Event) (s : Agrees p w) → fold world_step w es ≡ w' → AcceptedFrom w es → (AreAccepted built_in s.daemons (s.events ++ es)) × (world_after built_in s.daemons (s.events ++ es) ≡ w') × Legal w'.audit
agrees_legal p w w' es s is accepted =
    let first : World = world_after built_in s.daemons [] in
    let P : World → Type 0 = λ v. AcceptedFrom v es in
    let all : AreAccepted built_in s.daemons (s.events ++ es) = accepted_join s.events es first s.accepted (subst P (sym s.is) accepted) in
    let same : world_after built_in s.daemons (s.events ++ es) ≡ w' = fold-append world_step first s.events es ∙ ap (λ v. fold world_step v es) s.is ∙ is in
    (all, same, subst (λ v. Legal v.audit) same (world_legal (world_after built_in s.daemons (s.events ++ es)) (world_stands built_in s.daemons (s.events ++ es) (accepted_has_numbers built_in s.daemons (s.events ++ es) all))))

-- ---- one place

-- what the state is after the deliveries of a group
record Next (p p' : Plain) (w w' : World) (x : GroupId) (g : Group) : Type 0 where
  front : p'.front ≡ p.front
  objects : p'.objects ≡ store_of w'.audit
  answers : p'.answers ≡ map answer_with w'.audit
  own : GroupAgrees (map_of w.front.history) p' x (settled_group g)
  pending : nat_le (least_of (map_of w.front.history) x) (length (members_of (map_of w.front.history) x)) ≡ true → filter (is_for x) p'.pending ≡ []
  others : (id : GroupId) → is_same_group id x ≡ false → filter (is_for id) p'.pending ≡ filter (is_for id) p.pending
  fewer : (test : Sealed → Bool) → filter test p.pending ≡ [] → filter test p'.pending ≡ []
  fresh : p'.fresh ≡ p.fresh
  opened : p'.opened ≡ p.opened

left_on : (w w' : World) (x : GroupId) (ids : List GroupId) → ((other : GroupId) → is_same_group other x ≡ false → group_at other w'.groups ≡ group_at other w.groups) → filter (is_same_group x) ids ≡ [] → AreLeft w ids → AreLeft w' ids
left_on w w' x [] others none left = tt
left_on w w' x (id ∷ ids) others none left = go (is_same_group x id) refl none (λ k. left_on w w' x ids others k left.2)
  where
    go : (b : Bool) → is_same_group x id ≡ b → cond b (id ∷ filter (is_same_group x) ids) (filter (is_same_group x) ids) ≡ [] → (filter (is_same_group x) ids ≡ [] → AreLeft w' ids)
        → (filter (is_same_group id) ids ≡ []) × ((g : Group) × (group_at id w'.groups ≡ Some g)) × AreLeft w' ids
    go true e k rest = absurd (cc)
    go false e k rest = (left.0, (left.1.0, others id (group_turned id x ∙ e) ∙ left.1.1), rest k)

-- the group of the place, and every other
by_place : (P : GroupId → Group → Type 0) (w w' : World) (x : GroupId) (g : Group) → group_at x w'.groups ≡ Some g → ((other : GroupId) → is_same_group other x ≡ false → group_at other w'.groups ≡ group_at other w.groups)
    → P x g → ((id : GroupId) (h : Group) → is_same_group id x ≡ false → group_at id w.groups ≡ Some h → P id h) → (id : GroupId) (h : Group) → group_at id w'.groups ≡ Some h → P id h
by_place P w w' x g there others own other id h is = go (is_same_group id x) refl
  where
    go : (b : Bool) → is_same_group id x ≡ b → P id h
    go true e =
        let same : id ≡ x = same_group id x e in
        let both : Some g ≡ Some h = sym there ∙ ap (λ i. group_at i w'.groups) (sym same) ∙ is in
        let one : g ≡ h = cc in
        subst (λ i. P i h) (sym same) (subst (P x) one own)
    go false e = other id h e (sym (others id e) ∙ is)

pub holds_other : (state : MapState) (p p' : Plain) (id : GroupId) (g : Group) → filter (is_for id) p'.pending ≡ filter (is_for id) p.pending → GroupAgrees state p id g → GroupAgrees state p' id g
holds_other state p p' id g same h = record { steady = h.steady; requests = ap (λ l. map (λ e. e.sealed) g.audit ++ l) same ∙ h.requests; answers = h.answers }

owes_other : (state : MapState) (p p' : Plain) (id : GroupId) (g : Group) → filter (is_for id) p'.pending ≡ filter (is_for id) p.pending → p'.fresh ≡ p.fresh → p'.opened ≡ p.opened → Owes state p id g → Owes state p' id g
owes_other state p p' id g pending fresh opened h =
    h
    ∙ ap (λ o. due (least_of state id) (members_of state id) (list_any (is_same_group id) o) (length (filter (is_for id) p.pending)) (length (filter (is_for id) p.fresh))) (sym opened)
    ∙ ap (λ l. due (least_of state id) (members_of state id) (is_open p' id) (length l) (length (filter (is_for id) p.fresh))) (sym pending)
    ∙ ap (λ l. due (least_of state id) (members_of state id) (is_open p' id) (length (filter (is_for id) p'.pending)) (length (filter (is_for id) l))) (sym fresh)

settling_next : (p p' : Plain) (w : World) (x : GroupId) (xs : List GroupId) (g : Group) (es : List Event) → Settling p w (x ∷ xs) → Delivered w x g es → Rests (least_of (map_of w.front.history) x) (members_of (map_of w.front.history) x) g
    → Next p p' w (fold world_step w es) x g → Settling p' (fold world_step w es) xs
settling_next p p' w x xs g es s d r n =
    let w' : World = fold world_step w es in
    let l = agrees_legal p w w' es s.agrees refl d.accepted in
    let H : ControlPlane → GroupId → Group → Type 0 = λ f id h. GroupAgrees (map_of f.history) p' id h in
    let O : ControlPlane → GroupId → Group → Type 0 = λ f id h. filter (is_same_group id) xs ≡ id ∷ [] → Owes (map_of f.history) p' id h in
    let R : ControlPlane → GroupId → Group → Type 0 = λ f id h. filter (is_same_group id) xs ≡ [] → Rested (map_of f.history) p' id h in
    record {
      agrees = record {
        daemons = s.agrees.daemons;
        events = s.agrees.events ++ es;
        accepted = l.0;
        is = l.1;
        front = n.front ∙ s.agrees.front ∙ sym d.front;
        objects = n.objects;
        answers = n.answers;
        groups = λ id h is. subst (λ f. H f id h) (sym d.front) (by_place (H w.front) w w' x (settled_group g) d.there d.others n.own
            (λ i k apart there. holds_other (map_of w.front.history) p p' i k (n.others i apart) (s.agrees.groups i k there)) id h is);
        known = λ test empty. (let k = s.agrees.known test (ap (λ f. filter test f.submissions) (sym d.front) ∙ empty) in (n.fewer test k.0, ap (filter test) n.fresh ∙ k.1));
        opened = λ id empty. ap (list_any (is_same_group id)) n.opened ∙ s.agrees.opened id (ap (λ f. filter (is_same_group id) (places f)) (sym d.front) ∙ empty);
      };
      left = left_on w w' x xs d.others s.left.0 s.left.2;
      owes = λ id h is. subst (λ f. O f id h) (sym d.front) (by_place (O w.front) w w' x (settled_group g) d.there d.others
          (λ one. absurd (let clash : x ∷ [] ≡ [] = sym one ∙ s.left.0 in cc))
          (λ i k apart there one. owes_other (map_of w.front.history) p p' i k (n.others i apart) n.fresh n.opened (s.owes i k there (ap (λ b. cond b (x ∷ filter (is_same_group i) xs) (filter (is_same_group i) xs)) apart ∙ one))) id h is);
      done = λ id h is. subst (λ f. R f id h) (sym d.front) (by_place (R w.front) w w' x (settled_group g) d.there d.others
          (λ none. record { nothing = r.nothing; pending = n.pending })
          (λ i k apart there none. (let was : Rested (map_of w.front.history) p i k = s.done i k there (ap (λ b. cond b (x ∷ filter (is_same_group i) xs) (filter (is_same_group i) xs)) apart ∙ none) in
          record { nothing = was.nothing; pending = λ e. n.others i apart ∙ was.pending e })) id h is);
    }

-- a group that is large enough decides what waits
served_next : (p : Plain) (w : World) (x : GroupId) (g : Group) (es : List Event) (s : Agrees p w) → group_at x w.groups ≡ Some g → (d : Delivered w x g es) → Rests (least_of (map_of w.front.history) x) (members_of (map_of w.front.history) x) g
    → nat_le (least_of (map_of w.front.history) x) (length (members_of (map_of w.front.history) x)) ≡ true → Next p (serves x p) w (fold world_step w es) x g
served_next p w x g es s there d r enough =
    let w' : World = fold world_step w es in
    let h : GroupAgrees (map_of w.front.history) p x g = s.groups x g there in
    let new : List Entry = d.gained.new in
    let sealed : Entry → Sealed = λ e. e.sealed in
    let whole : map (λ e. e.sealed) g.audit ++ map (λ e. e.sealed) new ≡ map (λ e. e.sealed) g.audit ++ filter (is_for x) p.pending =
    sym (map_join (λ e. e.sealed) g.audit new) ∙ ap (map (λ e. e.sealed)) (sym d.gained.group) ∙ r.served enough ∙ sym h.requests in
    let these : filter (is_for x) p.pending ≡ map (λ e. e.sealed) new = sym (rest_same (map (λ e. e.sealed) g.audit) (map (λ e. e.sealed) new) (filter (is_for x) p.pending) whole) in
    let q : Plain = record p { pending = filter (λ t. not (is_for x t)) p.pending } in
    let legal : LegalFrom w.audit new = legal_rest [] w.audit new (subst Legal d.gained.world (agrees_legal p w w' es s refl d.accepted).2) in
    let after : Plain = record q { objects = store_of (w.audit ++ new); answers = p.answers ++ map answer_with new } in
    let is : serves x p ≡ after = ap (fold decides q) these ∙ decides_all new w.audit q s.objects legal in
    let P : Plain → Type 0 = λ v. Next p v w w' x g in
    subst P (sym is) (record {
      front = refl;
      objects = ap store_of (sym d.gained.world);
      answers = ap (λ l. l ++ map answer_with new) s.answers ∙ sym (map_join answer_with w.audit new) ∙ ap (map answer_with) (sym d.gained.world);
      own = record {
        steady = steady_settles (least_of (map_of w.front.history) x) (members_of (map_of w.front.history) x) g h.steady;
        requests = ap (λ l. map (λ e. e.sealed) (settled_group g).audit ++ l) (none_left (is_for x) p.pending) ∙ append-nil (map (λ e. e.sealed) (settled_group g).audit) ∙ r.served enough ∙ sym (same_settle g (budget g)).requests;
        answers = r.answers;
      };
      pending = λ e. none_left (is_for x) p.pending;
      others = λ id apart. others_left (is_for id) (is_for x) (for_one id x apart) p.pending;
      fewer = λ test none. fewer_none test (λ t. not (is_for x t)) p.pending none;
      fresh = refl;
      opened = refl;
    })

-- one that is too small decides nothing
waits_next : (p : Plain) (w : World) (x : GroupId) (g : Group) (es : List Event) (s : Agrees p w) → group_at x w.groups ≡ Some g → (d : Delivered w x g es) → Rests (least_of (map_of w.front.history) x) (members_of (map_of w.front.history) x) g
    → nat_le (least_of (map_of w.front.history) x) (length (members_of (map_of w.front.history) x)) ≡ false → Next p p w (fold world_step w es) x g
waits_next p w x g es s there d r few =
    let h : GroupAgrees (map_of w.front.history) p x g = s.groups x g there in
    let new : List Entry = d.gained.new in
    let empty : g.audit ++ new ≡ [] = sym d.gained.group ∙ r.waits few in
    let none : new ≡ [] = second_nil g.audit new empty in
    let same : (settled_group g).audit ≡ g.audit = r.waits few ∙ sym (first_nil g.audit new empty) in
    let audit : (fold world_step w es).audit ≡ w.audit = d.gained.world ∙ ap (λ l. w.audit ++ l) none ∙ append-nil w.audit in
    record {
      front = refl;
      objects = s.objects ∙ ap store_of (sym audit);
      answers = s.answers ∙ ap (map answer_with) (sym audit);
      own = record {
        steady = steady_settles (least_of (map_of w.front.history) x) (members_of (map_of w.front.history) x) g h.steady;
        requests = ap (λ l. map (λ e. e.sealed) l ++ filter (is_for x) p.pending) same ∙ h.requests ∙ sym (same_settle g (budget g)).requests;
        answers = r.answers;
      };
      pending = λ e. absurd (true_not_false (sym e ∙ few));
      others = λ id apart. refl;
      fewer = λ test k. k;
      fresh = refl;
      opened = refl;
    }

record One (p : Plain) (w : World) (x : GroupId) (xs : List GroupId) : Type 0 where
  settling : Settling (if is_enough p.front x then serves x p else p) (fold world_step w (emptied Deliver x w)) xs
  counted : cost p x ≡ unrefused w (emptied Deliver x w)

settle_one : (p : Plain) (w : World) (x : GroupId) (xs : List GroupId) → Settling p w (x ∷ xs) → One p w x xs
settle_one p w x xs s =
    let g : Group = s.left.1.0 in
    let there : group_at x w.groups ≡ Some g = s.left.1.1 in
    let F : World → Type 0 = λ v. IsFoundByPlace v x in
    let found : IsFoundByPlace w x = subst F s.agrees.is (groups_are_found_by_place built_in s.agrees.daemons s.agrees.events x s.agrees.accepted) in
    let d : Delivered w x g (emptied Deliver x w) = delivers w x g (found.unrefused g there) there in
    let r : Rests (least_of (map_of w.front.history) x) (members_of (map_of w.front.history) x) g = rests (least_of (map_of w.front.history) x) (members_of (map_of w.front.history) x) g (s.agrees.groups x g there).steady in
    let same : is_enough p.front x ≡ nat_le (least_of (map_of w.front.history) x) (length (members_of (map_of w.front.history) x)) = ap (λ f. is_enough f x) s.agrees.front in
    let alone : filter (is_same_group x) (x ∷ xs) ≡ x ∷ [] = ap (λ b. cond b (x ∷ filter (is_same_group x) xs) (filter (is_same_group x) xs)) (group_refl x) ∙ ap (λ l. x ∷ l) s.left.0 in
    let P : Bool → Type 0 = λ b. Settling (if b then serves x p else p) (fold world_step w (emptied Deliver x w)) xs in
    record {
      settling = subst P (sym same) (go g there d r (nat_le (least_of (map_of w.front.history) x) (length (members_of (map_of w.front.history) x))) refl);
      counted = ap (λ f. cost (record p { front = f }) x) s.agrees.front ∙ sym (s.owes x g there alone) ∙ sym d.counted;
    }
  where
    go : (g : Group) → group_at x w.groups ≡ Some g → Delivered w x g (emptied Deliver x w) → Rests (least_of (map_of w.front.history) x) (members_of (map_of w.front.history) x) g
        → (b : Bool) → nat_le (least_of (map_of w.front.history) x) (length (members_of (map_of w.front.history) x)) ≡ b → Settling (if b then serves x p else p) (fold world_step w (emptied Deliver x w)) xs
    go g there d r true e = settling_next p (serves x p) w x xs g (emptied Deliver x w) s d r (served_next p w x g (emptied Deliver x w) s.agrees there d r e)
    go g there d r false e = settling_next p p w x xs g (emptied Deliver x w) s d r (waits_next p w x g (emptied Deliver x w) s.agrees there d r e)

-- ---- place after place

abbrev counting : Plain → ℕ → Settled
counting p n = record { plain = p; count = n }

record Loop (p : Plain) (w : World) (n : ℕ) (rest : List GroupId) : Type 0 where
  settling : Settling (fold settles (counting p n) rest).plain (fold world_step w (on_each (emptied Deliver) rest w)) []
  counted : (fold settles (counting p n) rest).count ≡ n + unrefused w (on_each (emptied Deliver) rest w)

settle_loop : (rest : List GroupId) (p : Plain) (w : World) (n : ℕ) → Settling p w rest → Loop p w n rest
settle_loop [] p w n s = record { settling = s; counted = none n }
  where
    none : (n : ℕ) → n ≡ n + 0
    none n = omega arith
settle_loop (x ∷ xs) p w n s =
    let one : One p w x xs = settle_one p w x xs s in
    let es : List Event = emptied Deliver x w in
    let p' : Plain = if is_enough p.front x then serves x p else p in
    let w' : World = fold world_step w es in
    let rest : Loop p' w' (n + cost p x) xs = settle_loop xs p' w' (n + cost p x) one.settling in
    let whole : fold world_step w (es ++ on_each (emptied Deliver) xs w') ≡ fold world_step w' (on_each (emptied Deliver) xs w') = fold-append world_step w es (on_each (emptied Deliver) xs w') in
    let P : World → Type 0 = λ v. Settling (fold settles (counting p' (n + cost p x)) xs).plain v [] in
    record {
      settling = subst P (sym whole) rest.settling;
      counted = rest.counted ∙ ap (λ k. n + k + unrefused w' (on_each (emptied Deliver) xs w')) one.counted
          ∙ sum n (unrefused w es) (unrefused w' (on_each (emptied Deliver) xs w')) ∙ ap (λ k. n + k) (sym (unrefused_join es (on_each (emptied Deliver) xs w') w));
    }
  where
    sum : (a b c : ℕ) → a + b + c ≡ a + (b + c)
    sum a b c = omega arith

-- ---- its beginning

own_in : (ys xs : List GroupId) → Each (λ id. filter (is_same_group id) (ys ++ xs) ≡ [] → ⊥) xs
own_in ys [] = tt
own_in ys (x ∷ xs) =
    let P : List GroupId → Type 0 = λ l. Each (λ id. filter (is_same_group id) l ≡ [] → ⊥) xs in (
      λ none. clash (second_nil (filter (is_same_group x) ys) (filter (is_same_group x) (x ∷ xs)) (sym (filter-append (is_same_group x) ys (x ∷ xs)) ∙ none)),
      subst P (append_assoc ys (x ∷ []) xs) (own_in (ys ++ x ∷ []) xs),
    )
  where
    clash : filter (is_same_group x) (x ∷ xs) ≡ [] → ⊥
    clash none = (let own : x ∷ filter (is_same_group x) xs ≡ [] = sym (ap (λ b. cond b (x ∷ filter (is_same_group x) xs) (filter (is_same_group x) xs)) (group_refl x)) ∙ none in cc)

alone_in : (as' : List GroupId) (x : GroupId) (bs : List GroupId) → as' ++ x ∷ bs ≡ x ∷ [] → bs ≡ []
alone_in [] x bs h = let tails : bs ≡ [] = cc in tails
alone_in (a ∷ as') x bs h = let tails : as' ++ x ∷ bs ≡ [] = cc in let none : x ∷ bs ≡ [] = second_nil as' (x ∷ bs) tails in absurd (cc)

-- a place of the map, with its group
record IsThere (w : World) (id : GroupId) : Type 0 where
  group : Group
  there : group_at id w.groups ≡ Some group
  alone : filter (is_same_group id) (places w.front) ≡ id ∷ []

stands_once : (p : Plain) (w : World) (id : GroupId) (g : Group) → Agrees p w → group_at id w.groups ≡ Some g → filter (is_same_group id) (places w.front) ≡ id ∷ []
stands_once p w id g s there =
    let k : WorldKept w = world_keeps p w s in
    let h : GroupKept w.front id g = k.groups id g there in
    places_once id (map_of w.front.history).pools h.pool.is.pool (once w.front k.front) (found_in w.front.history id.pool h.groups h.pool) (subst (λ n. id.number < n) (sym h.pool.is.groups) h.number)

all_there : (p : Plain) (w : World) (ids : List GroupId) → Agrees p w → HasPlaces w → Each (λ id. filter (is_same_group id) (places w.front) ≡ [] → ⊥) ids → Each (IsThere w) ids
all_there p w [] s has all = tt
all_there p w (id ∷ ids) s has all = (go (group_at id w.groups) refl, all_there p w ids s has all.1)
  where
    go : (o : Option Group) → group_at id w.groups ≡ o → IsThere w id
    go None is = absurd (all.0 (ap (filter (is_same_group id)) (sym has) ∙ none_filtered id w.groups is))
    go (Some g) is = record { group = g; there = is; alone = stands_once p w id g s is }

all_left : (w : World) (ys xs : List GroupId) → ys ++ xs ≡ places w.front → Each (IsThere w) xs → AreLeft w xs
all_left w ys [] whole all = tt
all_left w ys (x ∷ xs) whole all =
    let alone : filter (is_same_group x) ys ++ x ∷ filter (is_same_group x) xs ≡ x ∷ [] =
    ap (λ b. filter (is_same_group x) ys ++ cond b (x ∷ filter (is_same_group x) xs) (filter (is_same_group x) xs)) (sym (group_refl x))
    ∙ sym (filter-append (is_same_group x) ys (x ∷ xs)) ∙ ap (filter (is_same_group x)) whole ∙ all.0.alone in (
      alone_in (filter (is_same_group x) ys) x (filter (is_same_group x) xs) alone,
      (all.0.group, all.0.there),
      all_left w (ys ++ x ∷ []) xs (append_assoc ys (x ∷ []) xs ∙ whole) all.1,
    )

settling_begins : (p : Plain) (w : World) → Simulates p w → Settling p w (places w.front)
settling_begins p w s =
    let H : World → Type 0 = λ v. HasPlaces v in
    let has : HasPlaces w = subst H s.agrees.is (every_place_has_its_group built_in s.agrees.daemons s.agrees.events) in
    record {
      agrees = s.agrees;
      left = all_left w [] (places w.front) refl (all_there p w (places w.front) s.agrees has (own_in [] (places w.front)));
      owes = λ id g there one. s.owes id g there;
      done = λ id g there none. absurd (let clash : id ∷ [] ≡ [] = sym (stands_once p w id g s.agrees there) ∙ none in cc);
    }

-- ---- its end

none_any : {X : Type 0} (test : X → Bool) (xs : List X) → filter test xs ≡ [] → list_any test xs ≡ false
none_any test [] h = refl
none_any test (x ∷ xs) h = go (test x) h (λ k. none_any test xs k)
  where
    go : (b : Bool) → cond b (x ∷ filter test xs) (filter test xs) ≡ [] → (filter test xs ≡ [] → list_any test xs ≡ false) → (b || list_any test xs) ≡ false
    go true k rest = absurd (cc)
    go false k rest = rest k

some_any : {X : Type 0} (test : X → Bool) (xs : List X) (y : X) (ys : List X) → filter test xs ≡ y ∷ ys → list_any test xs ≡ true
some_any test [] y ys h = absurd (cc)
some_any test (x ∷ xs) y ys h = go (test x) h (λ k. some_any test xs y ys k)
  where
    go : (b : Bool) → cond b (x ∷ filter test xs) (filter test xs) ≡ y ∷ ys → (filter test xs ≡ y ∷ ys → list_any test xs ≡ true) → (b || list_any test xs) ≡ true
    go true k rest = refl
    go false k rest = rest k

nothing_due : (least : ℕ) (acting : List ℕ) (waiting : List Sealed) → (nat_le least (length acting) ≡ true → waiting ≡ []) → 0 ≡ due least acting true (length waiting) 0
nothing_due least acting waiting h = go (nat_le least (length acting)) h
  where
    none : (c : ℕ) → 0 ≡ 0 + c * 0
    none c = omega arith

    go : (b : Bool) → (b ≡ true → waiting ≡ []) → 0 ≡ (if b then serving_cost (length acting) true (length waiting) else waiting_cost (length acting) true 0)
    go true k = none (request_cost (length acting)) ∙ ap (λ l. 0 + request_cost (length acting) * length l) (sym (k refl))
    go false k = none (unserved_cost (length acting))

settling_ends : (p : Plain) (w : World) → Settling p w [] → Simulates (rested p) w
settling_ends p w s = record {
  agrees = record {
    daemons = s.agrees.daemons;
    events = s.agrees.events;
    accepted = s.agrees.accepted;
    is = s.agrees.is;
    front = s.agrees.front;
    objects = s.agrees.objects;
    answers = s.agrees.answers;
    groups = λ id g there. holds_other (map_of w.front.history) p (rested p) id g refl (s.agrees.groups id g there);
    known = λ test empty. ((s.agrees.known test empty).0, refl);
    opened = λ id empty. none_any (is_same_group id) (places p.front) (ap (λ f. filter (is_same_group id) (places f)) s.agrees.front ∙ empty);
  };
  owes = λ id g there. (let d : Rested (map_of w.front.history) p id g = s.done id g there refl in
      let open_now : is_open (rested p) id ≡ true = some_any (is_same_group id) (places p.front) id [] (ap (λ f. filter (is_same_group id) (places f)) s.agrees.front ∙ stands_once p w id g s.agrees there) in
      d.nothing ∙ nothing_due (least_of (map_of w.front.history) id) (members_of (map_of w.front.history) id) (filter (is_for id) p.pending) d.pending
      ∙ ap (λ b. due (least_of (map_of w.front.history) id) (members_of (map_of w.front.history) id) b (length (filter (is_for id) p.pending)) 0) (sym open_now));
}

-- a settling leaves related states, and tells how many deliveries reached their addressee
pub record IsSettled (p : Plain) (w : World) : Type 0 where
  pub sim : Simulates (rested (settles_all p).plain) (fold world_step w (settle_events w))
  pub counted : (settles_all p).count ≡ unrefused w (settle_events w)

pub settled : (p : Plain) (w : World) → Simulates p w → IsSettled p w
settled p w s =
    let l : Loop p w 0 (places w.front) = settle_loop (places w.front) p w 0 (settling_begins p w s) in
    let same : places w.front ≡ places p.front = ap places (sym s.agrees.front) in
    let S : List GroupId → Type 0 = λ ids. Simulates (rested (fold settles (counting p 0) ids).plain) (fold world_step w (settle_events w)) in
    record {
      sim = subst S same (settling_ends (fold settles (counting p 0) (places w.front)).plain (fold world_step w (settle_events w)) l.settling);
      counted = ap (λ ids. (fold settles (counting p 0) ids).count) (sym same) ∙ l.counted ∙ none (unrefused w (settle_events w));
    }
  where
    none : (n : ℕ) → 0 + n ≡ n
    none n = omega arith
