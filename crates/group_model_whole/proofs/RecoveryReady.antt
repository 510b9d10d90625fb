-- A delivery keeps a group ready to open.
use Rattle.std.proofs.Common.{ℕ, ◌≡◌, ◌≤◌, ◌<◌, Bool, true, false, List, [], ◌∷◌, ◌++◌, length, refl, sym, ◌∙◌, subst, arith, inl, inr, ◌⊎◌, if◌then◌else◌}
use Rattle.std.specs.Prelude.{Option, Some, None, slice_get, slice_set}
use Rattle.std.specs.List.{remove}
use Rattle.std.proofs.lemmas.Bool.{cases_eq}
use Rattle.entry_core.specs.Log.{is_in}
use Rattle.store_core.specs.Request.{Sealed}
use Rattle.group_model_whole.specs.Steps.{Stepped}
use Rattle.group_model_whole.specs.ActingSets.{set_of}
use Rattle.group_model_whole.specs.Copy.{copy_step}
use Rattle.group_model_whole.specs.Types.{Daemon, Body, Interval, Query, Info, Install, Installed, Append, Appended, Request, Reply, NotHere, Party, Client, Osd, Sent}
use Rattle.group_model_whole.specs.Each.{Each}
use Rattle.group_model_whole.specs.History.{Held}
use Rattle.group_messages.specs.Answers.{Answer}
use Rattle.group_model_whole.specs.Group.{Group, is_answered, steps, answered, copy_hears, arrives, without, deliver}
use Rattle.group_model_whole.specs.Recovering.{HasUp}
use Rattle.group_model_whole.proofs.RecoveryStates.{HasLater, CanOpen}
use Rattle.group_model_whole.proofs.Eaches.{Each-append, Each-remove, Each-get}
use Rattle.group_model_whole.proofs.Invariant.{SentOk}
use Rattle.group_model_whole.proofs.Rules.{comes_after}
use Rattle.group_model_whole.proofs.Groups.{Good, get-set_same, get-set_other, without_good}
use Rattle.group_model_whole.proofs.RecoveryFits.{IsBased, BodyFits, SentFits, FitStep, comes_step}

pub record AllFit (g : Group) : Type 0 where
  pub copies : (d : ℕ) (c : Daemon) → slice_get g.copies d ≡ Some c → IsBased g.sets d c
  pub wire : Each (SentFits g.sets) g.wire

-- what stands at each place of a changed list
pub set_all : (xs : List Daemon) (d : ℕ) (x y : Daemon) (P : ℕ → Daemon → Type 0) → slice_get xs d ≡ Some x → P d y → ((e : ℕ) (z : Daemon) → slice_get xs e ≡ Some z → P e z) →
    (e : ℕ) (z : Daemon) → slice_get (slice_set xs d y) e ≡ Some z → P e z
set_all xs d x y P here new old e z is = elim (cases_eq e d) [
  | inl same ↦ (
      let there : slice_get (slice_set xs d y) d ≡ Some y = get-set_same xs d x y here in
      let is' : slice_get (slice_set xs d y) d ≡ Some z = subst (λ v. slice_get (slice_set xs d y) v ≡ Some z) same is in
      let agree : y ≡ z = cc in
      subst (λ v. P v z) (sym same) (subst (λ v. P d v) agree new))
  | inr other ↦ old e z (sym (get-set_other xs d e y other) ∙ is)
]

pub record HasNew (xs : List Daemon) (e : ℕ) (base : ℕ) : Type 0 where
  pub copy : Daemon
  pub here : slice_get xs e ≡ Some copy
  pub more : base ≤ copy.base

pub set_new : (xs : List Daemon) (d : ℕ) (x y : Daemon) → slice_get xs d ≡ Some x → x.base ≤ y.base → (e : ℕ) (z : Daemon) → slice_get xs e ≡ Some z → HasNew (slice_set xs d y) e z.base
set_new xs d x y here more e z is = elim (cases_eq e d) [
  | inl same ↦ (
      let is' : slice_get xs d ≡ Some z = subst (λ v. slice_get xs v ≡ Some z) same is in
      let agree : x ≡ z = cc in
      record { copy = y; here = subst (λ v. slice_get (slice_set xs d y) v ≡ Some y) (sym same) (get-set_same xs d x y here); more = subst (λ v. v.base ≤ y.base) agree more })
  | inr other ↦ record { copy = z; here = get-set_other xs d e y other ∙ is; more = omega arith }
]

module _ (g : Group) (m : Sent) (d : ℕ) (c : Daemon) (good : Good g) (here : slice_get g.copies d ≡ Some c) (ok : SentOk g.sets good.promise good.h m) where
  abbrev step : Stepped
  step = copy_step c (record { from = m.from; body = m.body })

  pub grows : c.base ≤ (copy_step c (record { from = m.from; body = m.body })).copy.base
  grows =
      let state = (good.copies d c here).state in
      let a = comes_after g.min_size g.sets d m.body good.promise good.h c m.from good.sound (good.copies d c here) ok in
      let held : Held a.h' d c.base (length c.log) = a.to.kept c.base (length c.log) (record { most = length c.log; is = state.held; enough = omega arith }) in
      a.copy.state.held_below c.base held.most held.is

  pub hears_fits : AllFit g → BodyFits g.sets (Osd d) m.body → AllFit (steps g d (copy_step c (record { from = m.from; body = m.body })))
  hears_fits fits body =
      let s : FitStep g.sets d (copy_step c (record { from = m.from; body = m.body })) = comes_step g.min_size g.sets good.promise good.h d c (good.copies d c here).state (fits.copies d c here) m.body m.from (good.copies d c here).role ok body in
      record {
        copies = set_all g.copies d c (copy_step c (record { from = m.from; body = m.body })).copy (λ e z. IsBased g.sets e z) here s.based fits.copies;
        wire = Each-append (SentFits g.sets) g.wire (copy_step c (record { from = m.from; body = m.body })).sent fits.wire s.sent;
      }

  hears_can : AllFit (steps g d (copy_step c (record { from = m.from; body = m.body }))) → CanOpen g → CanOpen (steps g d (copy_step c (record { from = m.from; body = m.body })))
  hears_can fits can = record {
    daemons_exist = λ j e is. (let h = can.daemons_exist j e is in let n = set_new g.copies d c (copy_step c (record { from = m.from; body = m.body })).copy here grows e h.copy h.here in record { copy = n.copy; here = n.here });
    daemons_few = set_all g.copies d c (copy_step c (record { from = m.from; body = m.body })).copy (λ e z. e < 16) here (can.daemons_few d c here) can.daemons_few;
    based = fits.copies;
    last_up = can.last_up;
    members = can.members;
    ready = λ j from below enough. ready (can.ready j from below enough);
  }
    where
      ready : {j : ℕ} → HasUp g.up (set_of g.sets j) ⊎ HasLater g j → HasUp g.up (set_of g.sets j) ⊎ HasLater (steps g d (copy_step c (record { from = m.from; body = m.body }))) j
      ready (inl u) = inl u
      ready (inr l) = let n = set_new g.copies d c (copy_step c (record { from = m.from; body = m.body })).copy here grows l.daemon l.copy l.here in
          inr (record { daemon = l.daemon; copy = n.copy; here = n.here; is_up = l.is_up; later = omega (arith, l.later, n.more) })

pub same_fits : (g : Group) (wire : List Sent) (requests : List Sealed) (answers : List Answer) → AllFit g → Each (SentFits g.sets) wire → AllFit (record g { wire = wire; requests = requests; answers = answers })
same_fits g wire requests answers fits each = record { copies = fits.copies; wire = each }

pub same_can : (g : Group) (wire : List Sent) (answers : List Answer) → CanOpen g → CanOpen (record g { wire = wire; answers = answers })
same_can g wire answers can = record {
  daemons_exist = λ j e is. (let h = can.daemons_exist j e is in record { copy = h.copy; here = h.here });
  daemons_few = can.daemons_few;
  based = can.based;
  last_up = can.last_up;
  members = can.members;
  ready = λ j from below enough. ready (can.ready j from below enough);
}
  where
    ready : {j : ℕ} → HasUp g.up (set_of g.sets j) ⊎ HasLater g j → HasUp g.up (set_of g.sets j) ⊎ HasLater (record g { wire = wire; answers = answers }) j
    ready (inl u) = inl u
    ready (inr l) = inr (record { daemon = l.daemon; copy = l.copy; here = l.here; is_up = l.is_up; later = l.later })

pub record Ready (g : Group) : Type 0 where
  pub fits : AllFit g
  pub can : CanOpen g

answered_ready : (g : Group) (b : Body) → Ready g → Ready (answered g b)
answered_ready g (Reply id reply) r = go (is_answered g.answers id)
  where
    go : (b : Bool) → Ready (if b then g else record g { answers = g.answers ++ record { id = id; reply = reply } ∷ [] })
    go true = r
    go false = record { fits = record { copies = r.fits.copies; wire = r.fits.wire }; can = same_can g g.wire (g.answers ++ record { id = id; reply = reply } ∷ []) r.can }
answered_ready g (Interval sets) r = r
answered_ready g (Query n) r = r
answered_ready g (Info n base log) r = r
answered_ready g (Install n log) r = r
answered_ready g (Installed n) r = r
answered_ready g (Append n place s) r = r
answered_ready g (Appended n place) r = r
answered_ready g (Request s) r = r
answered_ready g (NotHere id) r = r

hears_ready : (g : Group) (m : Sent) (d : ℕ) (found : Option Daemon) → slice_get g.copies d ≡ found → (good : Good g) → SentOk g.sets good.promise good.h m → BodyFits g.sets (Osd d) m.body → Ready g → Ready (copy_hears g m d found)
hears_ready g m d None is good ok body r = r
hears_ready g m d (Some c) is good ok body r = let f = hears_fits g m d c good is ok r.fits body in record { fits = f; can = hears_can g m d c good is ok f r.can }

arrives_ready : (g : Group) (m : Sent) (to : Party) → (good : Good g) → SentOk g.sets good.promise good.h m → BodyFits g.sets to m.body → Ready g → Ready (arrives g m to)
arrives_ready g m Client good ok body r = answered_ready g m.body r
arrives_ready g m (Osd d) good ok body r = go (is_in g.up d)
  where
    go : (b : Bool) → Ready (if b then copy_hears g m d (slice_get g.copies d) else g)
    go true = hears_ready g m d (slice_get g.copies d) refl good ok body r
    go false = r

pub deliver_ready : (g : Group) (k : ℕ) (found : Option Sent) → slice_get g.wire k ≡ found → Good g → Ready g → Ready (deliver g k found)
deliver_ready g k None is good r = r
deliver_ready g k (Some m) is good r = arrives_ready (without g k) m m.to (without_good g k good) (Each-get (SentOk g.sets good.promise good.h) g.wire k m good.wire is) (Each-get (SentFits g.sets) g.wire k m r.fits.wire is)
    (record { fits = record { copies = r.fits.copies; wire = Each-remove (SentFits g.sets) g.wire k r.fits.wire }; can = same_can g (remove g.wire k) g.answers r.can })
