-- Recovery by kick, from every state that events reach whose acting sets lie within the daemons that are up.
use Rattle.std.proofs.Common.{ℕ, zero, suc, ◌≡◌, ◌≤◌, ◌<◌, Bool, true, false, not, List, [], ◌∷◌, length, take, max, replicate, refl, ◌∙◌, ap, subst, arith, inl, inr, ◌⊎◌, if◌then◌else◌}
use Rattle.std.specs.Prelude.{Option, Some, None, slice_get}
use Rattle.std.specs.List.{filter, remove}
use Rattle.std.proofs.lemmas.Bool.{eq-eqb, cases_lt, not_from_true}
use Rattle.entry_core.specs.Log.{is_in}
use Rattle.store_core.specs.Request.{Sealed}
use Rattle.store_core.specs.declared.sealed.GroupId.{GroupId}
use Rattle.group_model_whole.specs.ActingSets.{set_of, is_primary, daemons}
use Rattle.group_model_whole.specs.Types.{Daemon, Sent}
use Rattle.group_model_whole.specs.Each.{Each}
use Rattle.group_messages.specs.Answers.{Answer}
use Rattle.group_model_whole.specs.Group.{Group, Event, Submit, Deliver, Lose, Repeat, NewInterval, Restart, Kick, IsSet, EventFits, last_set, is_answered, open_requests, lose, kick, group_step, run, start, settle}
use Rattle.group_model_whole.specs.Budget.{budget, settled_group}
use Rattle.group_model_whole.specs.Recovering.{IsReady, HasUp, lost_all, IsLoss, Recovers}
use Rattle.group_model_whole.specs.Within.{LiesWithin, ActsWithin}
use Rattle.group_model_whole.specs.Recovery.{greatest_base}
use Rattle.group_model_whole.proofs.Eaches.{Each-weaker}
use Rattle.group_model_whole.proofs.Groups.{Good, kick_good, same_copies, start_good, run_good}
use Rattle.group_model_whole.proofs.Settles.{Bounded, run_bounded, settle_done, settle_more, delivered_few}
use Rattle.group_model_whole.proofs.QuietLists.{filter_none}
use Rattle.group_model_whole.proofs.QuietRuns.{take_few}
use Rattle.group_model_whole.proofs.RecoveryStates.{HasLater, AllAnswered}
use Rattle.group_model_whole.proofs.RecoveryReaches.{Reach}
use Rattle.group_model_whole.proofs.RecoveryRuns.{run_reach, start_reach}
use Rattle.group_model_whole.proofs.RecoverySettles.{recovers}

record Leader (xs : List ℕ) : Type 0 where
  daemon : ℕ
  first : is_primary xs daemon ≡ true

leader_of : (xs : List ℕ) → 1 ≤ length xs → Leader xs
leader_of [] some = absurd (omega arith)
leader_of (x ∷ xs) some = record { daemon = x; first = eq-eqb x x refl }

-- where the premises hold, each earlier interval that is large enough has a member that is up, or some copy that is up has a later base

record HasBase (up : List ℕ) (cs : List Daemon) (j : ℕ) : Type 0 where
  daemon : ℕ
  copy : Daemon
  here : slice_get cs daemon ≡ Some copy
  is_up : is_in up copy.number ≡ true
  later : j < copy.base

base_above : (up : List ℕ) (cs : List Daemon) (j : ℕ) → j < greatest_base up cs → HasBase up cs j
base_above up [] j less = absurd (omega arith)
base_above up (c ∷ cs) j less = go (is_in up c.number) refl less (base_above up cs j)
  where
    later : HasBase up cs j → HasBase up (c ∷ cs) j
    later h = record { daemon = suc h.daemon; copy = h.copy; here = h.here; is_up = h.is_up; later = h.later }

    go : (b : Bool) → is_in up c.number ≡ b → j < max (if b then c.base else 0) (greatest_base up cs) → (j < greatest_base up cs → HasBase up cs j) → HasBase up (c ∷ cs) j
    go true is less rest = elim (cases_lt j (greatest_base up cs)) [
      | inl among ↦ later (rest among)
      | inr here ↦ record { daemon = 0; copy = c; here = refl; is_up = is; later = omega arith }
    ]
    go false is less rest = later (rest (omega arith))

can_open : (g : Group) → Good g → IsReady g → (j : ℕ) → 1 ≤ j → j < length g.sets → g.min_size ≤ length (set_of g.sets j) → HasUp g.up (set_of g.sets j) ⊎ HasLater g j
can_open g good ready j from below enough = elim (cases_lt j (greatest_base g.up g.copies)) [
  | inl less ↦ (
      let b : HasBase g.up g.copies j = base_above g.up g.copies j less in
      let number : b.copy.number ≡ b.daemon = (good.copies b.daemon b.copy b.here).state.number in
      inr (record { daemon = b.daemon; copy = b.copy; here = b.here; is_up = subst (λ v. is_in g.up v ≡ true) number b.is_up; later = b.later }))
  | inr upto ↦ inl (ready.intervals j from upto below enough)
]

-- every message lost, then a kick, then message 0 until none is left
recovers_from : (count : ℕ) (g : Group) (n : ℕ) → Good g → Reach (length (take count daemons)) g → IsReady g → (settle (suc n) (kick (lost_all g))).wire ≡ [] → AllAnswered (settle (suc n) (kick (lost_all g)))
recovers_from count g n good r premises empty =
    let least : 1 ≤ g.min_size = r.base.least in
    let members : g.min_size ≤ length (last_set g.sets) = premises.members in
    let l : Leader (last_set g.sets) = leader_of (last_set g.sets) (omega arith) in
    let most : length (take count daemons) ≤ 16 = take_few count daemons in
    recovers n (lost_all g) l.daemon (same_copies g [] g.requests g.answers good tt) (record { copies = r.base.fits.copies; wire = tt })
    (record { roles = r.base.roles; leader = λ d c first is. r.leader d c first premises.members is }) refl l.first (record {
      daemons_exist = λ j d is. (let h = r.base.copies d (r.base.exist j d is) in record { copy = h.copy; here = h.here });
      daemons_few = λ d c is. (let less = r.base.few d c is in omega arith);
      based = r.base.fits.copies;
      last_up = r.last_up;
      members = premises.members;
      ready = λ j from below enough. ready (can_open g good premises j from below enough);
    }) empty
  where
    ready : {j : ℕ} → HasUp g.up (set_of g.sets j) ⊎ HasLater g j → HasUp g.up (set_of g.sets j) ⊎ HasLater (lost_all g) j
    ready (inl u) = inl u
    ready (inr l) = inr (record { daemon = l.daemon; copy = l.copy; here = l.here; is_up = l.is_up; later = l.later })

all_open : (answers : List Answer) (requests : List Sealed) → Each (λ s. is_answered answers s.id ≡ true) requests → filter (λ s. not (is_answered answers s.id)) requests ≡ []
all_open answers requests each = filter_none (λ s. not (is_answered answers s.id)) requests
    (Each-weaker (λ s. is_answered answers s.id ≡ true) (λ s. not (is_answered answers s.id) ≡ false) (λ s is. not_from_true (is_answered answers s.id) is) requests each)

-- a kick is not an event that the bounds on a group depend on
kick_bounded : (g : Group) → Bounded g → Bounded (kick (lost_all g))
kick_bounded g ok = record { good = kick_good (lost_all g) (same_copies g [] g.requests g.answers ok.good tt); sets = ok.sets; count = ok.count }

pub recovery : (group : GroupId) (z count : ℕ) (acting up : List ℕ) (events : List Event) → 1 ≤ z → IsSet acting → Each EventFits events → LiesWithin count acting up → Each (ActsWithin count) events →
    IsReady (run events (start group z count acting up)) → Recovers (run events (start group z count acting up))
recovery group z count acting up events least fits each within all_within premises =
    let g : Group = run events (start group z count acting up) in
    let h : Group = kick (lost_all g) in
    let bounded : Bounded h = kick_bounded g (run_bounded group z count acting up events fits each) in
    let b : ℕ = budget h in
    let empty : (settle (suc b) h).wire ≡ [] = settle_done (suc b) h bounded (omega arith) in
    let good : Good g = run_good events (start group z count acting up) (start_good group z count acting up) in
    let r : Reach (length (take count daemons)) g = run_reach count events (start group z count acting up) all_within (start_good group z count acting up) (start_reach group z count acting up least within) in
    let all : AllAnswered (settle (suc b) h) = recovers_from count g b good r premises empty in
    let same : settle (suc b) h ≡ settled_group h = settle_more (suc b) h bounded (omega arith) in
    let answered : open_requests (settled_group h) ≡ [] = subst (λ v. open_requests v ≡ []) same (all_open (settle (suc b) h).answers (settle (suc b) h).requests all) in
    let left : (settled_group h).wire ≡ [] = settle_done b h bounded (omega arith) in
    record { served = record { answered = answered; empty = left }; few = delivered_few b h bounded }

-- losses

abbrev with_wire : List Sent → Group → Group
with_wire wire g = record g { wire = wire }

lose_only : (g : Group) (k : ℕ) (found : Option Sent) → lose g k found ≡ record g { wire = (lose g k found).wire }
lose_only g k None = refl
lose_only g k (Some m) = refl

pub losses_only : (losses : List Event) (g : Group) → Each IsLoss losses → run losses g ≡ record g { wire = (run losses g).wire }
losses_only [] g each = refl
losses_only (Lose k ∷ es) g each =
    let rest = losses_only es (group_step g (Lose k)) each.1 in
    rest ∙ ap (with_wire (run es (group_step g (Lose k))).wire) (lose_only g k (slice_get g.wire k))
losses_only (Submit s ∷ es) g each = absurd each.0
losses_only (Deliver k ∷ es) g each = absurd each.0
losses_only (Repeat k ∷ es) g each = absurd each.0
losses_only (NewInterval acting up ∷ es) g each = absurd each.0
losses_only (Restart d ∷ es) g each = absurd each.0
losses_only (Kick ∷ es) g each = absurd each.0

pub all_lost : (g : Group) (losses : List Event) → Each IsLoss losses → (run losses g).wire ≡ [] → run losses g ≡ lost_all g
all_lost g losses each empty = losses_only losses g each ∙ ap (λ ms. record g { wire = ms }) empty

lose_each : (ms : List Sent) (g : Group) → g.wire ≡ ms → (run (replicate (length ms) (Lose 0)) g).wire ≡ []
lose_each [] g is = is
lose_each (m ∷ ms) g is =
    let found : slice_get g.wire 0 ≡ Some m = ap (λ v. slice_get v 0) is in
    let next : (group_step g (Lose 0)).wire ≡ ms = ap (λ v. (lose g 0 v).wire) found ∙ ap (λ v. remove v 0) is in
    lose_each ms (group_step g (Lose 0)) next

each_loss : (n : ℕ) → Each IsLoss (replicate n (Lose 0))
each_loss zero = tt
each_loss (suc n) = (tt, each_loss n)

pub can_lose : (g : Group) → run (replicate (length g.wire) (Lose 0)) g ≡ lost_all g
can_lose g = all_lost g (replicate (length g.wire) (Lose 0)) (each_loss (length g.wire)) (lose_each g.wire g refl)
