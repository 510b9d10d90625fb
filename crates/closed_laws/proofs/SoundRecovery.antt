-- A group of a sound world that is ready recovers by losses, a kick and deliveries.
use Prim.Native.Nat.{zero, suc}
use Rattle.std.proofs.Common.{◌≡◌, ◌∙◌, ℕ, ◌≤◌, ◌==◌, ◌||◌, List, [], ◌∷◌, ◌++◌, Bool, true, false, not, cond, if◌then◌else◌, Option, Some, None, is_some, map, length, fold, replicate, refl, sym, ap, subst, arith}
use Rattle.std.specs.Prelude.{slice_get}
use Rattle.std.specs.List.{filter, remove}
use Rattle.std.specs.Option.{option_map}
use Rattle.std.proofs.lemmas.List.Sums.{fold-append}
use Rattle.entry_core.specs.Locality.{group_for}
use Rattle.store_core.specs.Request.{Sealed}
use Rattle.store_core.specs.declared.sealed.GroupId.{GroupId}
use Rattle.group_model.specs.Types.{Sent}
use Rattle.group_model_whole.specs.Each.{Each}
use Rattle.group_messages.specs.Answers.{Answer}
use Rattle.group_model.specs.Group.{Group, group_step, run, settle, kick, deliver, lose, refusal_to, refusal_at, missing_at, submitted, is_answered, answer_of}
use Rattle.group_model.specs.Group as group
use Rattle.group_model.specs.Budget.{budget, settled_group}
use Rattle.group_model.specs.Recovering.{lost_all, Recovers}
use Rattle.group_model_whole.specs.Recovering.{IsLoss}
use Rattle.group_model.proofs.Losses.{all_lost, can_lose}
use Rattle.group_model.proofs.Recovery.{ready_from, recovers}
use Rattle.group_model.proofs.SameGroups.{same_settle}
use Rattle.world_events.specs.declared.event.Event.{Event}
use Rattle.world_events.specs.declared.event.Event.TheVariants.{Deliver, Lose, Kick}
use Rattle.world_events.specs.declared.fault.WorldFault.TheVariants.{Group as OfGroup}
use Rattle.world_front.specs.Groups.{is_same_group, is_for}
use Rattle.world_front.specs.ControlPlane.{group_refusal}
use Rattle.world_core.specs.World.{World, group_at, world_step, accepts}
use Rattle.world_core.specs.Holds.{AcceptedFrom}
use Rattle.world_core.specs.Answers.{answer_in, answer_to, answer_at}
use Rattle.world_laws.specs.Recovery.{wire_in, wire_at, if_sent, deliveries_of, deliveries_left, losses, recovery, LosesAll, AnswersAll}
use Rattle.world_front.proofs.Merge.{group_refl}
use Rattle.world_front.proofs.Bytes.{number_same}
use Rattle.world_core.proofs.Requests.{IsMessage}
use Rattle.world_core.proofs.Accepted.{group_served}
use Rattle.world_laws.proofs.KickRecovery.{shown, AllPass, Ran, ran, all_accepted, accepted_join, delivered_all, deliveries_heard, deliveries_shown, deliveries_pass}
use Rattle.closed_laws.specs.Closed.{KickRecovers, LossesLoseAll}
use Rattle.closed_laws.proofs.SoundPlaces.{found_by_place}

-- ---- losses

losses_shown : (id : GroupId) (places : List ℕ) → map (shown id) (map (λ k. group.Lose k) places) ≡ losses id places
losses_shown id [] = refl
losses_shown id (k ∷ ks) = ap (λ l. Lose id k ∷ l) (losses_shown id ks)

losses_heard : (places : List ℕ) → Each IsMessage (map (λ k. group.Lose k) places)
losses_heard [] = tt
losses_heard (k ∷ ks) = (tt, losses_heard ks)

are_losses : (places : List ℕ) → Each IsLoss (map (λ k. group.Lose k) places)
are_losses [] = tt
are_losses (k ∷ ks) = (tt, are_losses ks)

zeros : (n : ℕ) → map (λ k. group.Lose k) (replicate n 0) ≡ replicate n (group.Lose 0)
zeros zero = refl
zeros (suc n) = ap (λ l. group.Lose 0 ∷ l) (zeros n)

first_passes : (id : GroupId) (ms : List Sent) (g : Group) → g.wire ≡ ms → AllPass id g (replicate (length ms) (group.Lose 0))
first_passes id [] g is = tt
first_passes id (m ∷ ms) g is =
    let found : slice_get g.wire 0 ≡ Some m = ap (λ v. slice_get v 0) is in
    let next : (group_step g (group.Lose 0)).wire ≡ ms = ap (λ v. (lose g 0 v).wire) found ∙ ap (λ v. remove v 0) is in
    (ap (λ o. accepts (Lose id 0) (option_map OfGroup (missing_at 0 o))) found, first_passes id ms (group_step g (group.Lose 0)) next)

all_losses : (w : World) (id : GroupId) (g : Group) → group_refusal w.front id ≡ None → group_at id w.groups ≡ Some g → LosesAll w id (replicate (length g.wire) 0)
all_losses w id g named there =
    let n : ℕ = length g.wire in
    let es : List group.Event = map (λ k. group.Lose k) (replicate n 0) in
    let same : map (shown id) es ≡ losses id (replicate n 0) = losses_shown id (replicate n 0) in
    let r : Ran w id g es = ran es w id g (losses_heard (replicate n 0)) there in
    record {
      accepted = subst (AcceptedFrom w) same (all_accepted es w id g (losses_heard (replicate n 0)) named there (subst (AllPass id g) (sym (zeros n)) (first_passes id g.wire g refl)));
      empty = ap (λ l. wire_at id (fold world_step w l).groups) (sym same) ∙ ap wire_in r.there ∙ ap (λ l. (run l g).wire) (zeros n) ∙ ap (λ (v : Group). v.wire) (can_lose g);
    }

-- ---- deliveries

deliveries_few : (n : ℕ) (g : Group) → deliveries_of n g ≤ n
deliveries_few zero g = omega arith
deliveries_few (suc n) g = go (slice_get g.wire 0) (deliveries_few n (group_step g (group.Deliver 0)))
  where
    go : (o : Option Sent) → deliveries_of n (group_step g (group.Deliver 0)) ≤ n → if_sent o (suc (deliveries_of n (group_step g (group.Deliver 0)))) ≤ suc n
    go None few = omega arith
    go (Some m) few = omega arith

-- ---- every request has its answer

answer_there : (answers : List Answer) (id : ℕ) → is_answered answers id ≡ true → is_some (answer_of answers id) ≡ true
answer_there [] id h = absurd (cc)
answer_there (a ∷ rest) id h = go (a.id == id) h (λ k. answer_there rest id k)
  where
    go : (b : Bool) → (b || is_answered rest id) ≡ true → (is_answered rest id ≡ true → is_some (answer_of rest id) ≡ true) → is_some (if b then Some a.reply else answer_of rest id) ≡ true
    go true k more = refl
    go false k more = more k

none_open : (answers : List Answer) (rs : List Sealed) (id : ℕ) (s : Sealed) → filter (λ r. not (is_answered answers r.id)) rs ≡ [] → submitted rs id ≡ Some s → is_answered answers id ≡ true
none_open answers [] id s open_ones is = absurd (cc)
none_open answers (r ∷ rs) id s open_ones is = go (is_answered answers r.id) refl open_ones (λ none k. none_open answers rs id s none k)
  where
    by : (c : Bool) → (r.id == id) ≡ c → (if c then Some r else submitted rs id) ≡ Some s → is_answered answers r.id ≡ true → (submitted rs id ≡ Some s → is_answered answers id ≡ true) → is_answered answers id ≡ true
    by true e k here more = ap (is_answered answers) (sym (number_same r.id id e)) ∙ here
    by false e k here more = more k

    go : (b : Bool) → is_answered answers r.id ≡ b → cond (not b) (r ∷ filter (λ r. not (is_answered answers r.id)) rs) (filter (λ r. not (is_answered answers r.id)) rs) ≡ []
        → (filter (λ r. not (is_answered answers r.id)) rs ≡ [] → submitted rs id ≡ Some s → is_answered answers id ≡ true) → is_answered answers id ≡ true
    go true e none more = by (r.id == id) refl is e (more none)
    go false e none more = absurd (cc)

-- a request for the group is found among those for the group
submitted_for : (test : Sealed → Bool) (rs : List Sealed) (id : ℕ) (s : Sealed) → submitted rs id ≡ Some s → test s ≡ true → submitted (filter test rs) id ≡ Some s
submitted_for test [] id s is passes = absurd (cc)
submitted_for test (r ∷ rs) id s is passes = go (r.id == id) refl is (λ k. submitted_for test rs id s k passes)
  where
    kept : (b : Bool) (l : List Sealed) → (r.id == id) ≡ false → submitted l id ≡ Some s → submitted (cond b (r ∷ l) l) id ≡ Some s
    kept true l e k = ap (λ c. if c then Some r else submitted l id) e ∙ k
    kept false l e k = k

    go : (b : Bool) → (r.id == id) ≡ b → (if b then Some r else submitted rs id) ≡ Some s → (submitted rs id ≡ Some s → submitted (filter test rs) id ≡ Some s) → submitted (cond (test r) (r ∷ filter test rs) (filter test rs)) id ≡ Some s
    go true e k more =
        let same : r ≡ s = cc in
        ap (λ b. submitted (cond b (r ∷ filter test rs) (filter test rs)) id) (ap test same ∙ passes)
        ∙ ap (λ c. if c then Some r else submitted (filter test rs) id) e ∙ k
    go false e k more = kept (test r) (filter test rs) e (more k)

-- ---- the law

record Kicked (w : World) (id : GroupId) (h : Group) (events : List Event) : Type 0 where
  accepted : AcceptedFrom w events
  there : group_at id (fold world_step w events).groups ≡ Some (settled_group h)
  front : (fold world_step w events).front ≡ w.front
  others : (other : GroupId) → is_same_group other id ≡ false → group_at other (fold world_step w events).groups ≡ group_at other w.groups

-- a kick and the deliveries after it
kick_settles : (v : World) (id : GroupId) (l : Group) → group_refusal v.front id ≡ None → group_at id v.groups ≡ Some l → Kicked v id (kick l) (Kick id ∷ replicate (deliveries_left (kick l)) (Deliver id 0))
kick_settles v id l named there =
    let n : ℕ = deliveries_left (kick l) in
    let es : List group.Event = group.Kick ∷ replicate n (group.Deliver 0) in
    let heard : Each IsMessage es = (tt, deliveries_heard n) in
    let same : map (shown id) es ≡ Kick id ∷ replicate n (Deliver id 0) = ap (λ rest. Kick id ∷ rest) (deliveries_shown id n) in
    let r : Ran v id l es = ran es v id l heard there in
    let P : List Event → Type 0 = λ events. Kicked v id (kick l) events in
    subst P same (record {
      accepted = all_accepted es v id l heard named there (refl, deliveries_pass id (budget (kick l)) (kick l));
      there = r.there ∙ ap Some (delivered_all (budget (kick l)) (kick l));
      front = r.front;
      others = r.others;
    })

joined : (w v : World) (id : GroupId) (h : Group) (xs ys : List Event) → fold world_step w xs ≡ v → AcceptedFrom w xs → v.front ≡ w.front → ((other : GroupId) → is_same_group other id ≡ false → group_at other v.groups ≡ group_at other w.groups)
    → Kicked v id h ys → Kicked w id h (xs ++ ys)
joined w v id h xs ys is accepted front others k =
    let whole : fold world_step w (xs ++ ys) ≡ fold world_step v ys = fold-append world_step w xs ys ∙ ap (λ u. fold world_step u ys) is in
    let P : World → Type 0 = λ u. AcceptedFrom u ys in
    record {
      accepted = accepted_join xs ys w accepted (subst P (sym is) k.accepted);
      there = ap (λ u. group_at id u.groups) whole ∙ k.there;
      front = ap (λ u. u.front) whole ∙ k.front ∙ front;
      others = λ other apart. ap (λ u. group_at other u.groups) whole ∙ k.others other apart ∙ others other apart;
    }

recovered : (w : World) (id : GroupId) (g : Group) (places : List ℕ) → group_refusal w.front id ≡ None → group_at id w.groups ≡ Some g → LosesAll w id places
    → Kicked w id (kick (lost_all g)) (recovery id places (deliveries_left (kick (lost_all g))))
recovered w id g places named there lost =
    let es : List group.Event = map (λ k. group.Lose k) places in
    let same : map (shown id) es ≡ losses id places = losses_shown id places in
    let r : Ran w id g es = ran es w id g (losses_heard places) there in
    let v : World = fold world_step w (losses id places) in
    let same_world : fold world_step w (map (shown id) es) ≡ v = ap (fold world_step w) same in
    let now : group_at id v.groups ≡ Some (run es g) = ap (λ u. group_at id u.groups) (sym same_world) ∙ r.there in
    let empty : (run es g).wire ≡ [] = sym (ap wire_in now) ∙ lost.empty in
    let all : run es g ≡ lost_all g = all_lost g es (are_losses places) empty in
    let front : v.front ≡ w.front = ap (λ u. u.front) (sym same_world) ∙ r.front in
    joined w v id (kick (lost_all g)) (losses id places) (Kick id ∷ replicate (deliveries_left (kick (lost_all g))) (Deliver id 0)) refl lost.accepted front
    (λ other apart. ap (λ u. group_at other u.groups) (sym same_world) ∙ r.others other apart)
    (kick_settles v id (lost_all g) (ap (λ f. group_refusal f id) front ∙ named) (now ∙ ap Some all))

answers_all : (w : World) (id : GroupId) (g : Group) (events : List Event) → g.requests ≡ filter (is_for id) w.front.submissions → Recovers g → Kicked w id (kick (lost_all g)) events → AnswersAll w id events
answers_all w id g events requests recovers k = record {
  accepted = k.accepted;
  answered = answered;
  empty = ap wire_in k.there ∙ recovers.served.empty;
  front = k.front;
  others = k.others;
}
  where
    answered : (number : ℕ) (s : Sealed) → submitted w.front.submissions number ≡ Some s → group_for s ≡ id → is_some (answer_at (fold world_step w events) number) ≡ true
    answered number s is for =
        let mine : is_for id s ≡ true = ap (is_same_group id) for ∙ group_refl id in
        let kept : (settled_group (kick (lost_all g))).requests ≡ g.requests = (same_settle (kick (lost_all g)) (budget (kick (lost_all g)))).requests in
        let asked : submitted (settled_group (kick (lost_all g))).requests number ≡ Some s = ap (λ l. submitted l number) (kept ∙ requests) ∙ submitted_for (is_for id) w.front.submissions number s is mine in
        let here : is_some (answer_of (settled_group (kick (lost_all g))).answers number) ≡ true =
        answer_there (settled_group (kick (lost_all g))).answers number (none_open (settled_group (kick (lost_all g))).answers (settled_group (kick (lost_all g))).requests number s recovers.served.answered asked) in
        ap (λ f. is_some (answer_to (fold world_step w events).groups number (submitted f.submissions number))) k.front
        ∙ ap (λ o. is_some (answer_to (fold world_step w events).groups number o)) is
        ∙ ap (λ i. is_some (answer_in (group_at i (fold world_step w events).groups) number)) for
        ∙ ap (λ o. is_some (answer_in o number)) k.there
        ∙ here

pub kick_recovers : KickRecovers
kick_recovers w id g places sound there ready lost =
    let named : group_refusal w.front id ≡ None = (found_by_place w id sound).unrefused g there in (
      answers_all w id g (recovery id places (deliveries_left (kick (lost_all g)))) (sound.kept.groups id g there).requests
          (recovers g (group_served w id g sound.kept there).within (ready_from g ready)) (recovered w id g places named there lost),
      deliveries_few (budget (kick (lost_all g))) (kick (lost_all g)),
    )

pub losses_lose_all : LossesLoseAll
losses_lose_all w id g sound there = all_losses w id g ((found_by_place w id sound).unrefused g there) there
