-- What workers leave, round by round.
use Rattle.std.proofs.Common.{◌≡◌, ◌≢◌, ℕ, zero, suc, ◌+◌, ◌<◌, ◌≤◌, List, [], ◌∷◌, ◌++◌, map, get_or, drop, length, refl, sym, ap, ◌∙◌, subst, Some, arith, zero-add}
use Rattle.std.specs.Prelude.{All, Option, None, Result, Ok, Err}
use Rattle.std.proofs.lemmas.List.Elements.{All-head, All-tail, All-cons, All-nil}
use Rattle.std.specs.Option.{option_to_list}
use mathlib.Core.Logic.{dite}
use native.Mathlib.Decide.{ℕ_discrete, dec_le}
use Rattle.std.proofs.lemmas.List.{append_assoc, append-nil}
use Rattle.group_model.specs.Group.{Group, Event, Deliver}
use Rattle.group_messages.specs.declared.fault.GroupFault.{GroupFault}
use Rattle.group_messages.specs.declared.fault.GroupFault.TheVariants.{NoMessage, Unreachable, Full, OutOfMemory, Doubled}
use Rattle.cluster.specs.declared.cluster.Cluster.{Cluster}
use Rattle.cluster.specs.declared.pass.Pass.{Pass}
use Rattle.cluster_locks.specs.declared.groups.Worked.{Worked}
use Rattle.cluster_locks.specs.declared.groups.Worked.TheVariants as worked
use Rattle.cluster_locks.specs.Groups.{work_entry, WorkTells}
use Rattle.cluster.specs.GroupMoves.{happened, happened_at, Goes, OneMoved}
use Rattle.cluster.specs.declared.workers.Worker.{Worker}
use Rattle.cluster_locks.specs.Places.{Beside}
use Rattle.cluster.specs.Asks.{IsPassOf}
use Rattle.cluster.specs.Workers.{HasWorked, HasWorkedOf, AreAtWork, pass_of, deliveries}
use Rattle.cluster.specs.Deliveries.{TurnsOn}
use Rattle.cluster.proofs.Moved.{added, goes_nowhere, goes_through}

deliveries_joined : (n m : ℕ) → deliveries n ++ deliveries m ≡ deliveries (n + m)
deliveries_joined zero m = ap deliveries (sym (zero-add m))
deliveries_joined (suc n) m = let one : suc (n + m) ≡ suc n + m = omega arith in ap (λ l. Deliver 0 ∷ l) (deliveries_joined n m) ∙ ap deliveries one

pub worked_nothing : (p : Pass) → HasWorked 0 p p
worked_nothing p = record {
  made = λ k. (0, omega arith, sym (append-nil (happened_at p.seats k)));
  goes = goes_nowhere p.seats;
  reader = refl;
  sessions = refl;
}

pub worked_through : (a b : ℕ) (x y z : Pass) → HasWorked a x y → HasWorked b y z → HasWorked (a + b) x z
worked_through a b x y z g h = record {
  made = λ k.
      let u = g.made k in
      let v = h.made k in
      (u.0 + v.0, sums u.0 v.0 u.1 v.1, v.2 ∙ (ap (λ l. l ++ deliveries v.0) u.2 ∙ (append_assoc (happened_at x.seats k) (deliveries u.0) (deliveries v.0) ∙ ap (λ l. happened_at x.seats k ++ l) (deliveries_joined u.0 v.0))));
  goes = goes_through x.seats y.seats z.seats g.goes h.goes;
  reader = h.reader ∙ g.reader;
  sessions = h.sessions ∙ g.sessions;
}
  where
    sums : (n m : ℕ) → n ≤ a → m ≤ b → n + m ≤ a + b
    sums n m p q = omega arith

pub worked_more : (a b : ℕ) (x y : Pass) → a ≤ b → HasWorked a x y → HasWorked b x y
worked_more a b x y far h = record {
  made = λ k. ((h.made k).0, raised (h.made k).0 (h.made k).1, (h.made k).2);
  goes = h.goes;
  reader = h.reader;
  sessions = h.sessions;
}
  where
    raised : (n : ℕ) → n ≤ a → n ≤ b
    raised n p = omega arith

-- what a delivery is among the seat's events
abbrev delivered : Result Worked GroupFault → Option Event
delivered (Ok worked.Delivered) = Some (Deliver 0)
delivered (Ok worked.Idle) = None
delivered (Err Unreachable) = Some (Deliver 0)
delivered (Err (NoMessage k)) = None
delivered (Err Full) = None
delivered (Err OutOfMemory) = None
delivered (Err Doubled) = None

as_times : (told : Result Worked GroupFault) → (n : ℕ) × (n ≤ 1) × (option_to_list (delivered told) ≡ deliveries n)
as_times (Ok worked.Delivered) = (1, omega arith, refl)
as_times (Ok worked.Idle) = (0, omega arith, refl)
as_times (Err Unreachable) = (1, omega arith, refl)
as_times (Err (NoMessage k)) = (0, omega arith, refl)
as_times (Err Full) = (0, omega arith, refl)
as_times (Err OutOfMemory) = (0, omega arith, refl)
as_times (Err Doubled) = (0, omega arith, refl)

entry_is : (told : Result Worked GroupFault) → (g : Group) → happened (work_entry (record {}) g told ∷ []) ≡ option_to_list (delivered told)
entry_is (Ok worked.Delivered) g = refl
entry_is (Ok worked.Idle) g = refl
entry_is (Err Unreachable) g = refl
entry_is (Err (NoMessage k)) g = refl
entry_is (Err Full) g = refl
entry_is (Err OutOfMemory) g = refl
entry_is (Err Doubled) g = refl

-- a round that has reached the group `to`: at most one delivery on each group before it
pub record HasCome (to : ℕ) (old new : Pass) : Type 0 where
  pub before : (k : ℕ) → k < to → (n : ℕ) × (n ≤ 1) × (happened_at new.seats k ≡ happened_at old.seats k ++ deliveries n)
  pub later : (k : ℕ) → to ≤ k → happened_at new.seats k ≡ happened_at old.seats k
  pub goes : Goes old.seats new.seats
  pub reader : new.reader ≡ old.reader
  pub sessions : new.sessions ≡ old.sessions

pub come_nowhere : (p : Pass) → HasCome 0 p p
come_nowhere p = record { before = λ k less. absurd (omega arith); later = λ k far. refl; goes = goes_nowhere p.seats; reader = refl; sessions = refl }

pub come_further : (c : Cluster) (to : ℕ) (first old new : Pass) (told : Result Worked GroupFault) → to < length old.seats.groups.items → HasCome to first old → TurnsOn work_entry WorkTells c to (record {}) told old new → HasCome (to + 1) first new
come_further c to first old new told inside h t =
    let one : OneMoved (delivered told) to old.seats new.seats = added c to old.seats new.seats inside work_entry WorkTells (record {}) told t.turn (delivered told) (entry_is told) in
    let n = as_times told in record {
      before = λ k less. dite (ℕ_discrete k to)
          (λ same. subst (λ (i : ℕ). (m : ℕ) × (m ≤ 1) × (happened_at new.seats i ≡ happened_at first.seats i ++ deliveries m)) (sym same)
          (n.0, n.1, one.here ∙ (ap (λ l. l ++ option_to_list (delivered told)) (h.later to (omega arith)) ∙ ap (λ l. happened_at first.seats to ++ l) n.2)))
          (λ other. let b = h.before k (omega arith) in (b.0, b.1, one.others k other ∙ b.2));
      later = λ k far. let other : k ≢ to = λ e. omega arith in one.others k other ∙ h.later k (omega arith);
      goes = goes_through first.seats old.seats new.seats h.goes one.goes;
      reader = t.reader ∙ h.reader;
      sessions = t.sessions ∙ h.sessions;
    }

-- a whole round, or one that ended early
pub came : (to : ℕ) (old new : Pass) → HasCome to old new → HasWorked 1 old new
came to old new h = record {
  made = λ k. dite (dec_le to k) (λ far. (0, omega arith, h.later k far ∙ sym (append-nil (happened_at old.seats k)))) (λ near. h.before k (omega arith));
  goes = h.goes;
  reader = h.reader;
  sessions = h.sessions;
}

-- ---- workers and their passes

pub beside_itself : (most : ℕ) (passes : List Pass) → Beside (HasWorked most) passes passes
beside_itself most [] = tt
beside_itself most (p ∷ ps) = (worked_more 0 most p p (omega arith) (worked_nothing p), beside_itself most ps)

pub at_work : (c : Cluster) (workers : List Worker) (passes : List Pass) → map pass_of workers ≡ passes → All (IsPassOf c) passes → AreAtWork c workers
at_work c [] ps is h = All-nil (λ (w : Worker). IsPassOf c w.pass)
at_work c (w ∷ ws) [] is h = let long = ap length is in absurd (omega arith)
at_work c (w ∷ ws) (p ∷ ps) is h =
    let first : pass_of w ≡ p = ap (λ (l : List Pass). get_or l 0 p) is in
    let rest : map pass_of ws ≡ ps = ap (λ (l : List Pass). drop 1 l) is in
    All-cons (λ (v : Worker). IsPassOf c v.pass) w ws (subst (IsPassOf c) (sym first) (All-head (IsPassOf c) p ps h)) (at_work c ws ps rest (All-tail (IsPassOf c) p ps h))

abbrev AllWorked : Cluster → (ℕ → ℕ → Type 0) → ℕ → List Worker → List Worker → Type 0
AllWorked c refuses most old new = (i : ℕ) (d : Worker) → i < length old → HasWorkedOf c (refuses i) most (get_or old i d) (get_or new i d)

pub passes_after : (c : Cluster) (refuses : ℕ → ℕ → Type 0) (most : ℕ) (old new : List Worker) → length new ≡ length old → AllWorked c refuses most old new → All (IsPassOf c) (map pass_of new)
passes_after c refuses most [] [] long h = All-nil (IsPassOf c)
passes_after c refuses most [] (v ∷ vs) long h = absurd (omega arith)
passes_after c refuses most (w ∷ ws) [] long h = absurd (omega arith)
passes_after c refuses most (w ∷ ws) (v ∷ vs) long h =
    All-cons (IsPassOf c) v.pass (map pass_of vs) (h 0 w (omega arith)).0 (passes_after c (λ i. refuses (suc i)) most ws vs (omega arith) (λ i d less. h (suc i) d (omega arith)))

pub passes_worked : (c : Cluster) (refuses : ℕ → ℕ → Type 0) (most : ℕ) (old new : List Worker) → length new ≡ length old → AllWorked c refuses most old new → Beside (HasWorked most) (map pass_of old) (map pass_of new)
passes_worked c refuses most [] [] long h = tt
passes_worked c refuses most [] (v ∷ vs) long h = absurd (omega arith)
passes_worked c refuses most (w ∷ ws) [] long h = absurd (omega arith)
passes_worked c refuses most (w ∷ ws) (v ∷ vs) long h = ((h 0 w (omega arith)).1, passes_worked c (λ i. refuses (suc i)) most ws vs (omega arith) (λ i d less. h (suc i) d (omega arith)))
