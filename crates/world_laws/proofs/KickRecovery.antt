-- A group that is ready recovers in its world by losses, a kick and deliveries.
use Prim.Native.Nat.{zero, suc}
use Rattle.std.proofs.Common.{◌≡◌, ◌∙◌, ℕ, ◌≤◌, ◌==◌, ◌||◌, List, [], ◌∷◌, ◌++◌, Bool, true, false, not, cond, if◌then◌else◌, Option, Some, None, is_some, map, length, fold, replicate, refl, sym, ap, subst, arith, append-nil}
use Rattle.std.specs.Prelude.{slice_get}
use Rattle.std.specs.List.{filter, remove}
use Rattle.std.specs.Option.{option_map, option_or}
use Rattle.std.proofs.lemmas.List.Sums.{fold-append}
use Rattle.entry_core.specs.Locality.{group_for}
use Rattle.entry_core.specs.Log.{is_in}
use Rattle.store_core.specs.Request.{Sealed}
use Rattle.store_core.specs.declared.sealed.GroupId.{GroupId}
use Rattle.group_model.specs.Types.{Sent, Party, Client, Osd}
use Rattle.group_model_whole.specs.Each.{Each}
use Rattle.group_messages.specs.Answers.{Answer}
use Rattle.group_model.specs.Group.{Group, group_step, run, settle, kick, deliver, lose, refusal_to, refusal_at, missing_at, submitted, is_answered, answer_of}
use Rattle.group_model.specs.Group as group
use Rattle.group_messages.specs.declared.fault.GroupFault.TheVariants as group_fault
use Rattle.group_model.specs.Budget.{budget, settled_group}
use Rattle.group_model.specs.Recovering.{lost_all, Recovers}
use Rattle.group_model_whole.specs.Recovering.{IsLoss}
use Rattle.group_model.proofs.Losses.{all_lost, can_lose}
use Rattle.group_model.proofs.Recovery.{ready_from, recovers}
use Rattle.group_model.proofs.SameGroups.{same_settle}
use Rattle.world_events.specs.declared.event.Event.{Event}
use Rattle.world_events.specs.declared.event.Event.TheVariants.{Deliver, Lose, Repeat, Kick}
use Rattle.world_events.specs.declared.fault.WorldFault.TheVariants.{Group as OfGroup}
use Rattle.world_front.specs.Groups.{is_same_group, is_for}
use Rattle.world_front.specs.ControlPlane.{ControlPlane, front_step, front_refusal, group_refusal, requests_of, requests_in}
use Rattle.world_core.specs.World.{World, part, group_at, parts_of, created_by, world_step, world_after, accepts, is_accepted, refused_in, parts_refusal}
use Rattle.world_core.specs.Holds.{events_in, group_step_alone, AcceptedFrom}
use Rattle.world_core.specs.Answers.{answer_in, answer_to, answer_at}
use Rattle.world_laws.specs.Recovery.{wire_in, wire_at, if_sent, deliveries_of, deliveries_left, losses, recovery, LosesAll, AnswersAll, KickRecovers, LossesLoseAll}
use Rattle.world_front.proofs.Merge.{group_refl}
use Rattle.world_front.proofs.Bytes.{number_same}
use Rattle.world_core.proofs.Holding.{step_at}
use Rattle.world_core.proofs.Requests.{IsMessage}
use Rattle.world_laws.proofs.PlaceGroups.{groups_are_found_by_place}
use Rattle.world_laws.proofs.AcceptedLaws.{accepted_kept, groups_are_served}

-- ---- the events of one group, as the world sees them

-- what is no such event has none
abbrev pub shown : GroupId → group.Event → Event
shown id (group.Deliver k) = Deliver id k
shown id (group.Lose k) = Lose id k
shown id (group.Repeat k) = Repeat id k
shown id group.Kick = Kick id
shown id (group.Submit s) = Kick id
shown id (group.NewInterval acting up) = Kick id
shown id (group.Restart d) = Kick id

pub shown_part : (f : ControlPlane) (id : GroupId) (e : group.Event) → IsMessage e → parts_of f (shown id e) ≡ part id e ∷ []
shown_part f id (group.Deliver k) h = refl
shown_part f id (group.Lose k) h = refl
shown_part f id (group.Repeat k) h = refl
shown_part f id group.Kick h = refl
shown_part f id (group.Submit s) h = absurd h
shown_part f id (group.NewInterval acting up) h = absurd h
shown_part f id (group.Restart d) h = absurd h

same_front : (f g : ControlPlane) → g ≡ record f { submissions = f.submissions ++ [] } → g ≡ f
same_front f g h = h ∙ ap (λ l. record f { submissions = l }) (append-nil f.submissions)

pub shown_front : (f : ControlPlane) (id : GroupId) (e : group.Event) → IsMessage e → front_step f (shown id e) ≡ f
unfolding requests_of requests_in
shown_front f id (group.Deliver k) h = same_front f (front_step f (Deliver id k)) refl
shown_front f id (group.Lose k) h = same_front f (front_step f (Lose id k)) refl
shown_front f id (group.Repeat k) h = same_front f (front_step f (Repeat id k)) refl
shown_front f id group.Kick h = same_front f (front_step f (Kick id)) refl
shown_front f id (group.Submit s) h = absurd h
shown_front f id (group.NewInterval acting up) h = absurd h
shown_front f id (group.Restart d) h = absurd h

-- the group takes its part
pub shown_step : (w : World) (id : GroupId) (e : group.Event) (g : Group) → IsMessage e → group_at id w.groups ≡ Some g → group_at id (world_step w (shown id e)).groups ≡ Some (group_step g e)
shown_step w id e g h there =
    step_at id w (shown id e)
    ∙ ap (group_step_alone w.front id (shown id e)) there
    ∙ ap (λ ps. Some (run (events_in id ps) g)) (shown_part w.front id e h)
    ∙ ap (λ b. Some (run (map (λ p. p.event) (cond b (part id e ∷ []) [])) g)) (group_refl id)

shown_new : (f : ControlPlane) (id : GroupId) (e : group.Event) → created_by f (shown id e) ≡ []
shown_new f id (group.Deliver k) = refl
shown_new f id (group.Lose k) = refl
shown_new f id (group.Repeat k) = refl
shown_new f id group.Kick = refl
shown_new f id (group.Submit s) = refl
shown_new f id (group.NewInterval acting up) = refl
shown_new f id (group.Restart d) = refl

-- and no other group hears of it
pub shown_other : (w : World) (id other : GroupId) (e : group.Event) → IsMessage e → is_same_group other id ≡ false → group_at other (world_step w (shown id e)).groups ≡ group_at other w.groups
shown_other w id other e h apart = step_at other w (shown id e) ∙ by (group_at other w.groups)
  where
    by : (o : Option Group) → group_step_alone w.front other (shown id e) o ≡ o
    by None = ap (group_at other) (shown_new w.front id e)
    by (Some g) =
        ap (λ ps. Some (run (events_in other ps) g)) (shown_part w.front id e h)
        ∙ ap (λ b. Some (run (map (λ p. p.event) (cond b (part id e ∷ []) [])) g)) apart

-- ---- which are accepted

-- nothing refuses it, or it drops its message
abbrev pub Passes : GroupId → Group → group.Event → Type 0
Passes id g e = accepts (shown id e) (option_map OfGroup (group.refusal_of g e)) ≡ true

or_none : {X : Type 0} (o : Option X) → option_or o None ≡ o
or_none None = refl
or_none (Some x) = refl

front_says : (f : ControlPlane) (id : GroupId) (e : group.Event) → front_refusal f (shown id e) ≡ group_refusal f id
front_says f id (group.Deliver k) = refl
front_says f id (group.Lose k) = refl
front_says f id (group.Repeat k) = refl
front_says f id group.Kick = refl
front_says f id (group.Submit s) = refl
front_says f id (group.NewInterval acting up) = refl
front_says f id (group.Restart d) = refl

shown_accepted : (w : World) (id : GroupId) (e : group.Event) (g : Group) → IsMessage e → group_refusal w.front id ≡ None → group_at id w.groups ≡ Some g → Passes id g e → is_accepted w (shown id e) ≡ true
shown_accepted w id e g h named there passes =
    ap (λ o. accepts (shown id e) (option_or o (option_map OfGroup (parts_refusal w.groups (parts_of w.front (shown id e)))))) (front_says w.front id e ∙ named)
    ∙ ap (λ ps. accepts (shown id e) (option_map OfGroup (parts_refusal w.groups ps))) (shown_part w.front id e h)
    ∙ ap (λ o. accepts (shown id e) (option_map OfGroup (option_or (refused_in o e) None))) there
    ∙ ap (λ o. accepts (shown id e) (option_map OfGroup o)) (or_none (group.refusal_of g e))
    ∙ passes

-- ---- many of them

abbrev pub AllPass : GroupId → Group → List group.Event → Type 0
AllPass id g [] = Unit {0}
AllPass id g (e ∷ es) = Passes id g e × AllPass id (group_step g e) es

pub record Ran (w : World) (id : GroupId) (g : Group) (es : List group.Event) : Type 0 where
  pub there : group_at id (fold world_step w (map (shown id) es)).groups ≡ Some (run es g)
  pub front : (fold world_step w (map (shown id) es)).front ≡ w.front
  pub others : (other : GroupId) → is_same_group other id ≡ false → group_at other (fold world_step w (map (shown id) es)).groups ≡ group_at other w.groups

pub ran : (es : List group.Event) (w : World) (id : GroupId) (g : Group) → Each IsMessage es → group_at id w.groups ≡ Some g → Ran w id g es
ran [] w id g h there = record { there = there; front = refl; others = λ other apart. refl }
ran (e ∷ es) w id g h there =
    let rest : Ran (world_step w (shown id e)) id (group_step g e) es = ran es (world_step w (shown id e)) id (group_step g e) h.1 (shown_step w id e g h.0 there) in
    record {
      there = rest.there;
      front = rest.front ∙ shown_front w.front id e h.0;
      others = λ other apart. rest.others other apart ∙ shown_other w id other e h.0 apart;
    }

pub all_accepted : (es : List group.Event) (w : World) (id : GroupId) (g : Group) → Each IsMessage es → group_refusal w.front id ≡ None → group_at id w.groups ≡ Some g → AllPass id g es → AcceptedFrom w (map (shown id) es)
all_accepted [] w id g h named there pass = tt
all_accepted (e ∷ es) w id g h named there pass = (
  shown_accepted w id e g h.0 named there pass.0,
  all_accepted es (world_step w (shown id e)) id (group_step g e) h.1 (ap (λ f. group_refusal f id) (shown_front w.front id e h.0) ∙ named) (shown_step w id e g h.0 there) pass.1,
)

pub accepted_join : (xs ys : List Event) (w : World) → AcceptedFrom w xs → AcceptedFrom (fold world_step w xs) ys → AcceptedFrom w (xs ++ ys)
accepted_join [] ys w h k = k
accepted_join (x ∷ xs) ys w h k = (h.0, accepted_join xs ys (world_step w x) h.1 k)

-- ---- losses

losses_shown : (id : GroupId) (places : List ℕ) → map (shown id) (map (λ k. group.Lose k) places) ≡ losses id places
losses_shown id [] = refl
losses_shown id (k ∷ ks) = ap (λ l. Lose id k ∷ l) (losses_shown id ks)

losses_heard : (places : List ℕ) → Each IsMessage (map (λ k. group.Lose k) places)
losses_heard [] = tt
losses_heard (k ∷ ks) = (tt, losses_heard ks)

are_losses : (places : List ℕ) → Each IsLoss (map (λ k. group.Lose k) places)
are_losses [] = tt
are_losses (k ∷ ks) = (tt, are_losses ks)

zeros : (n : ℕ) → map (λ k. group.Lose k) (replicate n 0) ≡ replicate n (group.Lose 0)
zeros zero = refl
zeros (suc n) = ap (λ l. group.Lose 0 ∷ l) (zeros n)

first_passes : (id : GroupId) (ms : List Sent) (g : Group) → g.wire ≡ ms → AllPass id g (replicate (length ms) (group.Lose 0))
first_passes id [] g is = tt
first_passes id (m ∷ ms) g is =
    let found : slice_get g.wire 0 ≡ Some m = ap (λ v. slice_get v 0) is in
    let next : (group_step g (group.Lose 0)).wire ≡ ms = ap (λ v. (lose g 0 v).wire) found ∙ ap (λ v. remove v 0) is in
    (ap (λ o. accepts (Lose id 0) (option_map OfGroup (missing_at 0 o))) found, first_passes id ms (group_step g (group.Lose 0)) next)

all_losses : (w : World) (id : GroupId) (g : Group) → group_refusal w.front id ≡ None → group_at id w.groups ≡ Some g → LosesAll w id (replicate (length g.wire) 0)
all_losses w id g named there =
    let n : ℕ = length g.wire in
    let es : List group.Event = map (λ k. group.Lose k) (replicate n 0) in
    let same : map (shown id) es ≡ losses id (replicate n 0) = losses_shown id (replicate n 0) in
    let r : Ran w id g es = ran es w id g (losses_heard (replicate n 0)) there in
    record {
      accepted = subst (AcceptedFrom w) same (all_accepted es w id g (losses_heard (replicate n 0)) named there (subst (AllPass id g) (sym (zeros n)) (first_passes id g.wire g refl)));
      empty = ap (λ l. wire_at id (fold world_step w l).groups) (sym same) ∙ ap wire_in r.there ∙ ap (λ l. (run l g).wire) (zeros n) ∙ ap (λ (v : Group). v.wire) (can_lose g);
    }

-- ---- deliveries until nothing is left

no_more : (n : ℕ) (g : Group) → slice_get g.wire 0 ≡ None → settle n g ≡ g
no_more zero g h = refl
no_more (suc n) g h = ap (λ o. settle n (deliver g 0 o)) h ∙ no_more n g h

pub delivered_all : (n : ℕ) (g : Group) → run (replicate (deliveries_of n g) (group.Deliver 0)) g ≡ settle n g
delivered_all zero g = refl
delivered_all (suc n) g = go (slice_get g.wire 0) refl (delivered_all n (group_step g (group.Deliver 0)))
  where
    go : (o : Option Sent) → slice_get g.wire 0 ≡ o → run (replicate (deliveries_of n (group_step g (group.Deliver 0))) (group.Deliver 0)) (group_step g (group.Deliver 0)) ≡ settle n (group_step g (group.Deliver 0))
        → run (replicate (if_sent o (suc (deliveries_of n (group_step g (group.Deliver 0))))) (group.Deliver 0)) g ≡ settle (suc n) g
    go None e rest = sym (no_more (suc n) g e)
    go (Some m) e rest = rest

deliveries_few : (n : ℕ) (g : Group) → deliveries_of n g ≤ n
deliveries_few zero g = omega arith
deliveries_few (suc n) g = go (slice_get g.wire 0) (deliveries_few n (group_step g (group.Deliver 0)))
  where
    go : (o : Option Sent) → deliveries_of n (group_step g (group.Deliver 0)) ≤ n → if_sent o (suc (deliveries_of n (group_step g (group.Deliver 0)))) ≤ suc n
    go None few = omega arith
    go (Some m) few = omega arith

pub deliveries_heard : (n : ℕ) → Each IsMessage (replicate n (group.Deliver 0))
deliveries_heard zero = tt
deliveries_heard (suc n) = (tt, deliveries_heard n)

pub deliveries_shown : (id : GroupId) (n : ℕ) → map (shown id) (replicate n (group.Deliver 0)) ≡ replicate n (Deliver id 0)
deliveries_shown id zero = refl
deliveries_shown id (suc n) = ap (λ l. Deliver id 0 ∷ l) (deliveries_shown id n)

pub deliveries_pass : (id : GroupId) (n : ℕ) (g : Group) → AllPass id g (replicate (deliveries_of n g) (group.Deliver 0))
deliveries_pass id zero g = tt
deliveries_pass id (suc n) g = go (slice_get g.wire 0) refl (deliveries_pass id n (group_step g (group.Deliver 0)))
  where
    reaches : (m : Sent) (to : Party) → accepts (Deliver id 0) (option_map OfGroup (refusal_to g to)) ≡ true
    reaches m Client = refl
    reaches m (Osd d) = by (is_in g.up d)
      where
        by : (b : Bool) → accepts (Deliver id 0) (option_map OfGroup (if b then None else Some group_fault.Unreachable)) ≡ true
        by true = refl
        by false = refl

    go : (o : Option Sent) → slice_get g.wire 0 ≡ o → AllPass id (group_step g (group.Deliver 0)) (replicate (deliveries_of n (group_step g (group.Deliver 0))) (group.Deliver 0))
        → AllPass id g (replicate (if_sent o (suc (deliveries_of n (group_step g (group.Deliver 0))))) (group.Deliver 0))
    go None e rest = tt
    go (Some m) e rest = (ap (λ o. accepts (Deliver id 0) (option_map OfGroup (refusal_at g 0 o))) e ∙ reaches m m.to, rest)

-- ---- every request has its answer

answer_there : (answers : List Answer) (id : ℕ) → is_answered answers id ≡ true → is_some (answer_of answers id) ≡ true
answer_there [] id h = absurd (cc)
answer_there (a ∷ rest) id h = go (a.id == id) h (λ k. answer_there rest id k)
  where
    go : (b : Bool) → (b || is_answered rest id) ≡ true → (is_answered rest id ≡ true → is_some (answer_of rest id) ≡ true) → is_some (if b then Some a.reply else answer_of rest id) ≡ true
    go true k more = refl
    go false k more = more k

none_open : (answers : List Answer) (rs : List Sealed) (id : ℕ) (s : Sealed) → filter (λ r. not (is_answered answers r.id)) rs ≡ [] → submitted rs id ≡ Some s → is_answered answers id ≡ true
none_open answers [] id s open_ones is = absurd (cc)
none_open answers (r ∷ rs) id s open_ones is = go (is_answered answers r.id) refl open_ones (λ none k. none_open answers rs id s none k)
  where
    by : (c : Bool) → (r.id == id) ≡ c → (if c then Some r else submitted rs id) ≡ Some s → is_answered answers r.id ≡ true → (submitted rs id ≡ Some s → is_answered answers id ≡ true) → is_answered answers id ≡ true
    by true e k here more = ap (is_answered answers) (sym (number_same r.id id e)) ∙ here
    by false e k here more = more k

    go : (b : Bool) → is_answered answers r.id ≡ b → cond (not b) (r ∷ filter (λ r. not (is_answered answers r.id)) rs) (filter (λ r. not (is_answered answers r.id)) rs) ≡ []
        → (filter (λ r. not (is_answered answers r.id)) rs ≡ [] → submitted rs id ≡ Some s → is_answered answers id ≡ true) → is_answered answers id ≡ true
    go true e none more = by (r.id == id) refl is e (more none)
    go false e none more = absurd (cc)

-- a request for the group is found among those for the group
submitted_for : (test : Sealed → Bool) (rs : List Sealed) (id : ℕ) (s : Sealed) → submitted rs id ≡ Some s → test s ≡ true → submitted (filter test rs) id ≡ Some s
submitted_for test [] id s is passes = absurd (cc)
submitted_for test (r ∷ rs) id s is passes = go (r.id == id) refl is (λ k. submitted_for test rs id s k passes)
  where
    kept : (b : Bool) (l : List Sealed) → (r.id == id) ≡ false → submitted l id ≡ Some s → submitted (cond b (r ∷ l) l) id ≡ Some s
    kept true l e k = ap (λ c. if c then Some r else submitted l id) e ∙ k
    kept false l e k = k

    go : (b : Bool) → (r.id == id) ≡ b → (if b then Some r else submitted rs id) ≡ Some s → (submitted rs id ≡ Some s → submitted (filter test rs) id ≡ Some s) → submitted (cond (test r) (r ∷ filter test rs) (filter test rs)) id ≡ Some s
    go true e k more =
        let same : r ≡ s = cc in
        ap (λ b. submitted (cond b (r ∷ filter test rs) (filter test rs)) id) (ap test same ∙ passes)
        ∙ ap (λ c. if c then Some r else submitted (filter test rs) id) e ∙ k
    go false e k more = kept (test r) (filter test rs) e (more k)

-- ---- the law

record Kicked (w : World) (id : GroupId) (h : Group) (events : List Event) : Type 0 where
  accepted : AcceptedFrom w events
  there : group_at id (fold world_step w events).groups ≡ Some (settled_group h)
  front : (fold world_step w events).front ≡ w.front
  others : (other : GroupId) → is_same_group other id ≡ false → group_at other (fold world_step w events).groups ≡ group_at other w.groups

-- a kick and the deliveries after it
kick_settles : (v : World) (id : GroupId) (l : Group) → group_refusal v.front id ≡ None → group_at id v.groups ≡ Some l → Kicked v id (kick l) (Kick id ∷ replicate (deliveries_left (kick l)) (Deliver id 0))
kick_settles v id l named there =
    let n : ℕ = deliveries_left (kick l) in
    let es : List group.Event = group.Kick ∷ replicate n (group.Deliver 0) in
    let heard : Each IsMessage es = (tt, deliveries_heard n) in
    let same : map (shown id) es ≡ Kick id ∷ replicate n (Deliver id 0) = ap (λ rest. Kick id ∷ rest) (deliveries_shown id n) in
    let r : Ran v id l es = ran es v id l heard there in
    let P : List Event → Type 0 = λ events. Kicked v id (kick l) events in
    subst P same (record {
      accepted = all_accepted es v id l heard named there (refl, deliveries_pass id (budget (kick l)) (kick l));
      there = r.there ∙ ap Some (delivered_all (budget (kick l)) (kick l));
      front = r.front;
      others = r.others;
    })

joined : (w v : World) (id : GroupId) (h : Group) (xs ys : List Event) → fold world_step w xs ≡ v → AcceptedFrom w xs → v.front ≡ w.front → ((other : GroupId) → is_same_group other id ≡ false → group_at other v.groups ≡ group_at other w.groups)
    → Kicked v id h ys → Kicked w id h (xs ++ ys)
joined w v id h xs ys is accepted front others k =
    let whole : fold world_step w (xs ++ ys) ≡ fold world_step v ys = fold-append world_step w xs ys ∙ ap (λ u. fold world_step u ys) is in
    let P : World → Type 0 = λ u. AcceptedFrom u ys in
    record {
      accepted = accepted_join xs ys w accepted (subst P (sym is) k.accepted);
      there = ap (λ u. group_at id u.groups) whole ∙ k.there;
      front = ap (λ u. u.front) whole ∙ k.front ∙ front;
      others = λ other apart. ap (λ u. group_at other u.groups) whole ∙ k.others other apart ∙ others other apart;
    }

recovered : (w : World) (id : GroupId) (g : Group) (places : List ℕ) → group_refusal w.front id ≡ None → group_at id w.groups ≡ Some g → LosesAll w id places
    → Kicked w id (kick (lost_all g)) (recovery id places (deliveries_left (kick (lost_all g))))
recovered w id g places named there lost =
    let es : List group.Event = map (λ k. group.Lose k) places in
    let same : map (shown id) es ≡ losses id places = losses_shown id places in
    let r : Ran w id g es = ran es w id g (losses_heard places) there in
    let v : World = fold world_step w (losses id places) in
    let same_world : fold world_step w (map (shown id) es) ≡ v = ap (fold world_step w) same in
    let now : group_at id v.groups ≡ Some (run es g) = ap (λ u. group_at id u.groups) (sym same_world) ∙ r.there in
    let empty : (run es g).wire ≡ [] = sym (ap wire_in now) ∙ lost.empty in
    let all : run es g ≡ lost_all g = all_lost g es (are_losses places) empty in
    let front : v.front ≡ w.front = ap (λ u. u.front) (sym same_world) ∙ r.front in
    joined w v id (kick (lost_all g)) (losses id places) (Kick id ∷ replicate (deliveries_left (kick (lost_all g))) (Deliver id 0)) refl lost.accepted front
    (λ other apart. ap (λ u. group_at other u.groups) (sym same_world) ∙ r.others other apart)
    (kick_settles v id (lost_all g) (ap (λ f. group_refusal f id) front ∙ named) (now ∙ ap Some all))

answers_all : (w : World) (id : GroupId) (g : Group) (events : List Event) → g.requests ≡ filter (is_for id) w.front.submissions → Recovers g → Kicked w id (kick (lost_all g)) events → AnswersAll w id events
answers_all w id g events requests recovers k = record {
  accepted = k.accepted;
  answered = answered;
  empty = ap wire_in k.there ∙ recovers.served.empty;
  front = k.front;
  others = k.others;
}
  where
    answered : (number : ℕ) (s : Sealed) → submitted w.front.submissions number ≡ Some s → group_for s ≡ id → is_some (answer_at (fold world_step w events) number) ≡ true
    answered number s is for =
        let mine : is_for id s ≡ true = ap (is_same_group id) for ∙ group_refl id in
        let kept : (settled_group (kick (lost_all g))).requests ≡ g.requests = (same_settle (kick (lost_all g)) (budget (kick (lost_all g)))).requests in
        let asked : submitted (settled_group (kick (lost_all g))).requests number ≡ Some s = ap (λ l. submitted l number) (kept ∙ requests) ∙ submitted_for (is_for id) w.front.submissions number s is mine in
        let here : is_some (answer_of (settled_group (kick (lost_all g))).answers number) ≡ true =
        answer_there (settled_group (kick (lost_all g))).answers number (none_open (settled_group (kick (lost_all g))).answers (settled_group (kick (lost_all g))).requests number s recovers.served.answered asked) in
        ap (λ f. is_some (answer_to (fold world_step w events).groups number (submitted f.submissions number))) k.front
        ∙ ap (λ o. is_some (answer_to (fold world_step w events).groups number o)) is
        ∙ ap (λ i. is_some (answer_in (group_at i (fold world_step w events).groups) number)) for
        ∙ ap (λ o. is_some (answer_in o number)) k.there
        ∙ here

pub kick_recovers : KickRecovers
kick_recovers table daemons events id g places accepted there ready lost =
    let w : World = world_after table daemons events in
    let named : group_refusal w.front id ≡ None = (groups_are_found_by_place table daemons events id accepted).unrefused g there in (
      answers_all w id g (recovery id places (deliveries_left (kick (lost_all g)))) ((accepted_kept table daemons events accepted).groups id g there).requests
          (recovers g (groups_are_served table daemons events id g accepted there).within (ready_from g ready)) (recovered w id g places named there lost),
      deliveries_few (budget (kick (lost_all g))) (kick (lost_all g)),
    )

pub losses_lose_all : LossesLoseAll
losses_lose_all table daemons events id g accepted there =
    all_losses (world_after table daemons events) id g ((groups_are_found_by_place table daemons events id accepted).unrefused g there) there
