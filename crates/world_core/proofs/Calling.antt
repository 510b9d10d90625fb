-- What a call on one group does to the group, and to the runs.
use Prim.Native.Nat.{zero, suc}
use Rattle.std.proofs.Common.{◌≡◌, ◌∙◌, ◌⊎◌, inl, inr, ℕ, ◌<◌, List, [], ◌∷◌, ◌++◌, Bool, true, false, if◌then◌else◌, Option, None, Some, Result, Ok, Err, IsOk, length, refl, sym, ap, arith, append-nil}
use Rattle.std.specs.Prelude.{nat_lt, slice_get, slice_set}
use Rattle.std.proofs.lemmas.Bool.{ltb-true}
use Rattle.group_model.specs.Group.{Group, Event, Lose, Repeat, Kick, group_step, refusal_of, left_by, lose, again}
use Rattle.group_messages.specs.declared.fault.GroupFault.{GroupFault as Fault}
use Rattle.group_messages.specs.declared.fault.GroupFault.TheVariants.{NoMessage, Unreachable, Full, OutOfMemory, Doubled}
use Rattle.group_model.specs.Types.{Sent}
use Rattle.group_model.specs.Reached.{Steps}
use Rattle.world_core.specs.declared.audit.Run.{Run}
use Rattle.group_core.specs.Calls.{event_of}
use Rattle.group_core.specs.declared.call.GroupCall.{GroupCall}
use Rattle.group_core.specs.declared.call.GroupCall.TheVariants as calls
use Rattle.world_core.specs.Applying.{StepsOrMemory, runs_from, CalledAt, LosesFreely}

pub steps_or_memory : (old new : Group) (e : Event) (r : Result (Unit {0}) Fault) → Steps old e r new → StepsOrMemory old e r new
steps_or_memory old new e (Ok done) h = h
steps_or_memory old new e (Err (NoMessage k)) h = inr (h.0, h.1)
steps_or_memory old new e (Err Unreachable) h = inr (h.0, h.1)
steps_or_memory old new e (Err Full) h = inr (h.0, h.1)
steps_or_memory old new e (Err Doubled) h = inr (h.0, h.1)
steps_or_memory old new e (Err OutOfMemory) h = inl (refl, h.1)

-- from a count to the same count there is no run
pub no_run : (place n : ℕ) → runs_from place n n ≡ []
no_run place n = go (nat_lt n n) refl
  where
    go : (b : Bool) → nat_lt n n ≡ b → (let l : List Run = record { group = place; from = n; upto = n } ∷ [] in if b then l else []) ≡ []
    go false e = refl
    go true e = absurd (let less : n < n = ltb-true n n e in omega arith)

-- the element at a place, changed to itself
pub set_same : (gs : List Group) (place : ℕ) (g : Group) → slice_get gs place ≡ Some g → slice_set gs place g ≡ gs
set_same [] place g h = refl
set_same (x ∷ xs) zero g h = let same : x ≡ g = cc in ap (λ v. v ∷ xs) (sym same)
set_same (x ∷ xs) (suc place) g h = ap (λ l. x ∷ l) (set_same xs place g h)

-- where nothing is decided, nothing is kept
pub kept_nothing : (runs : List Run) (place n : ℕ) → runs ≡ runs ++ runs_from place n n
kept_nothing runs place n = sym (append-nil runs) ∙ ap (λ l. runs ++ l) (sym (no_run place n))

-- ---- calls that decide nothing

audit_left : (old new : Group) (e : Event) (r : Result (Unit {0}) Fault) → Steps old e r new → (group_step old e).audit ≡ old.audit → ((f : Fault) → left_by old e f ≡ old) → new.audit ≡ old.audit
audit_left old new e (Ok done) h stays left = ap (λ g. g.audit) h.1 ∙ stays
audit_left old new e (Err (NoMessage k)) h stays left = ap (λ g. g.audit) (h.1 ∙ left (NoMessage k))
audit_left old new e (Err Unreachable) h stays left = ap (λ g. g.audit) (h.1 ∙ left Unreachable)
audit_left old new e (Err Full) h stays left = ap (λ g. g.audit) (h.1 ∙ left Full)
audit_left old new e (Err Doubled) h stays left = ap (λ g. g.audit) (h.1 ∙ left Doubled)
audit_left old new e (Err OutOfMemory) h stays left = ap (λ g. g.audit) h.1

called_quietly : (gs : List Group) (runs : List Run) (place : ℕ) (e : Event) (old new : Group) (r : Result (Unit {0}) Fault) → slice_get gs place ≡ Some old → Steps old e r new
    → (group_step old e).audit ≡ old.audit → ((f : Fault) → left_by old e f ≡ old) → CalledAt gs runs place e r (slice_set gs place new) runs
called_quietly gs runs place e old new r there steps stays left = record {
  old = old;
  new = new;
  there = there;
  steps = steps_or_memory old new e r steps;
  groups_are = refl;
  runs_are =
      kept_nothing runs place (length old.audit)
      ∙ ap (λ n. runs ++ runs_from place (length old.audit) n) (ap length (sym (audit_left old new e r steps stays left)));
}

lose_decides_none : (g : Group) (k : ℕ) → (group_step g (Lose k)).audit ≡ g.audit
lose_decides_none g k = go (slice_get g.wire k)
  where
    go : (m : Option Sent) → (lose g k m).audit ≡ g.audit
    go None = refl
    go (Some m) = refl

repeat_decides_none : (g : Group) (k : ℕ) → (group_step g (Repeat k)).audit ≡ g.audit
repeat_decides_none g k = go (slice_get g.wire k)
  where
    go : (m : Option Sent) → (again g m).audit ≡ g.audit
    go None = refl
    go (Some m) = refl

pub called_lose : (gs : List Group) (runs : List Run) (place k : ℕ) (old new : Group) (r : Result (Unit {0}) Fault) → slice_get gs place ≡ Some old → Steps old (Lose k) r new → CalledAt gs runs place (Lose k) r (slice_set gs place new) runs
called_lose gs runs place k old new r there steps = called_quietly gs runs place (Lose k) old new r there steps (lose_decides_none old k) (λ f. refl)

pub called_repeat : (gs : List Group) (runs : List Run) (place k : ℕ) (old new : Group) (r : Result (Unit {0}) Fault) → slice_get gs place ≡ Some old → Steps old (Repeat k) r new → CalledAt gs runs place (Repeat k) r (slice_set gs place new) runs
called_repeat gs runs place k old new r there steps = called_quietly gs runs place (Repeat k) old new r there steps (repeat_decides_none old k) (λ f. refl)

pub called_kick : (gs : List Group) (runs : List Run) (place : ℕ) (old new : Group) (r : Result (Unit {0}) Fault) → slice_get gs place ≡ Some old → Steps old Kick r new → CalledAt gs runs place Kick r (slice_set gs place new) runs
called_kick gs runs place old new r there steps = called_quietly gs runs place Kick old new r there steps refl (λ f. refl)

-- a loss takes no memory
pub lost_freely : (old new : Group) (k : ℕ) (r : Result (Unit {0}) Fault) → Steps old (Lose k) r new → (refusal_of old (Lose k) ≡ None → IsOk r) → r ≡ Err OutOfMemory → ⊥
lost_freely old new k (Ok done) h free is = absurd (cc)
lost_freely old new k (Err (NoMessage place)) h free is = absurd (cc)
lost_freely old new k (Err Unreachable) h free is = absurd (cc)
lost_freely old new k (Err Full) h free is = absurd (cc)
lost_freely old new k (Err Doubled) h free is = absurd (cc)
lost_freely old new k (Err OutOfMemory) h free is = absurd (let no : false ≡ true = free h.0 in cc)

pub no_delivery : (what : GroupCall) → ((k : ℕ) × (what ≡ calls.Lose k)) ⊎ (((k : ℕ) × (what ≡ calls.Repeat k)) ⊎ (what ≡ calls.Kick)) → (k : ℕ) → what ≡ calls.Deliver k → ⊥
no_delivery what (inl (n, is)) k e = absurd (cc)
no_delivery what (inr (inl (n, is))) k e = absurd (cc)
no_delivery what (inr (inr is)) k e = absurd (cc)

-- a call that is no delivery decides nothing
pub called_other : (gs : List Group) (runs : List Run) (place : ℕ) (what : GroupCall) (old new : Group) (r : Result (Unit {0}) Fault) → ((k : ℕ) → what ≡ calls.Deliver k → ⊥) → slice_get gs place ≡ Some old
    → Steps old (event_of what) r new → CalledAt gs runs place (event_of what) r (slice_set gs place new) runs
called_other gs runs place (calls.Deliver k) old new r other there steps = absurd (other k refl)
called_other gs runs place (calls.Lose k) old new r other there steps = called_lose gs runs place k old new r there steps
called_other gs runs place (calls.Repeat k) old new r other there steps = called_repeat gs runs place k old new r there steps
called_other gs runs place calls.Kick old new r other there steps = called_kick gs runs place old new r there steps

pub freely : (what : GroupCall) (old new : Group) (r : Result (Unit {0}) Fault) → Steps old (event_of what) r new → ((k : ℕ) → what ≡ calls.Lose k → refusal_of old (Lose k) ≡ None → IsOk r) → LosesFreely what r
freely (calls.Deliver k) old new r steps free = tt
freely (calls.Lose k) old new r steps free = lost_freely old new k r steps (free k refl)
freely (calls.Repeat k) old new r steps free = tt
freely calls.Kick old new r steps free = tt
