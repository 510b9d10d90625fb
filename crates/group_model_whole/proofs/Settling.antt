-- Settling, delivery by delivery.
use Rattle.std.proofs.Common.{ℕ, zero, suc, ◌≡◌, ◌+◌, Bool, true, false, ◌==◌, List, [], ◌∷◌, length, min, refl, sym, ◌∙◌, ap, arith, if◌then◌else◌}
use Rattle.std.specs.Prelude.{Option, Some, None, slice_get}
use Rattle.entry_core.specs.Log.{is_in}
use Rattle.group_model_whole.specs.Types.{Party, Osd, Client, Sent}
use Rattle.group_model_whole.specs.Group.{Group, Deliver, Fault, NoMessage, Unreachable, Full, OutOfMemory, Doubled, group_step, refusal_of, refusal_at, refusal_to, left_by, settle, delivered, delivered_now, delivered_to}
use Rattle.group_messages.specs.Printed.{is_drop}
use Rattle.group_model_whole.specs.Budget.{budget, settled_group, settle_count}
use Rattle.group_model_whole.proofs.Settles.{Bounded, settle-add, settle_idle, settle_done}
use Rattle.group_model_whole.proofs.Calls.{At}
use Rattle.group_model_whole.specs.Reached.{Refuses}
use Rattle.group_model_whole.proofs.Refusals.{refused_leaves}

-- after some deliveries, of which `count` reached their party
pub record SoFar (old now : Group) (count : ℕ) : Type 0 where
  pub n : ℕ
  pub is : now ≡ settle n old
  pub counted : count ≡ min (delivered n old) 4294967295

pub so_far : (g : Group) → SoFar g g 0
so_far g = record { n = 0; is = refl; counted = refl }

delivered-add : (a b n : ℕ) (g : Group) → n ≡ a + b → delivered n g ≡ delivered a g + delivered b (settle a g)
delivered-add zero b n g is = (let same : n ≡ b = omega arith in ap (λ v. delivered v g) same ∙ omega arith)
delivered-add (suc a) b zero g is = absurd (omega arith)
delivered-add (suc a) b (suc n) g is = (let rest = delivered-add a b n (group_step g (Deliver 0)) (omega arith) in omega arith)

pub delivered_idle : (n : ℕ) (g : Group) → slice_get g.wire 0 ≡ None → delivered n g ≡ 0
delivered_idle zero g none = refl
delivered_idle (suc n) g none =
    let now : delivered_now (slice_get g.wire 0) g ≡ 0 = ap (λ o. delivered_now o g) none in
    let stays : group_step g (Deliver 0) ≡ g = settle_idle 1 g none in
    let rest : delivered n (group_step g (Deliver 0)) ≡ 0 = ap (λ v. delivered n v) stays ∙ delivered_idle n g none in
    omega arith

next_settled : (old now : Group) (n : ℕ) → now ≡ settle n old → group_step now (Deliver 0) ≡ settle (n + 1) old
next_settled old now n is = ap (λ v. group_step v (Deliver 0)) is ∙ sym (settle-add n 1 (n + 1) old refl)

next_delivered : (old now : Group) (n : ℕ) → now ≡ settle n old → delivered (n + 1) old ≡ delivered n old + delivered_now (slice_get now.wire 0) now
next_delivered old now n is =
    let both = delivered-add n 1 (n + 1) old refl in
    let one : delivered 1 (settle n old) ≡ delivered_now (slice_get now.wire 0) now = omega arith ∙ ap (λ v. delivered_now (slice_get v.wire 0) v) (sym is) in
    omega arith

abbrev pick : Bool → ℕ
pick b = if b then 1 else 0

-- a delivery that is not refused reaches its party, and one to a daemon that is down does not
reached_now : (g : Group) (found : Option Sent) → refusal_at g 0 found ≡ None → delivered_now found g ≡ 1
reached_now g None free = absurd (cc)
reached_now g (Some m) free = to m.to free
  where
    up : (b : Bool) → (if b then None else Some Unreachable) ≡ None → pick b ≡ pick true
    up true e = refl
    up false e = absurd (cc)

    to : (p : Party) → refusal_to g p ≡ None → delivered_to p g ≡ 1
    to Client e = refl
    to (Osd d) e = up (is_in g.up d) e

missed_now : (g : Group) (found : Option Sent) → refusal_at g 0 found ≡ Some Unreachable → delivered_now found g ≡ 0
missed_now g None free = absurd (cc)
missed_now g (Some m) free = to m.to free
  where
    up : (b : Bool) → (if b then None else Some Unreachable) ≡ Some Unreachable → pick b ≡ pick false
    up true e = absurd (cc)
    up false e = refl

    to : (p : Party) → refusal_to g p ≡ Some Unreachable → delivered_to p g ≡ 0
    to Client e = absurd (cc)
    to (Osd d) e = up (is_in g.up d) e

pub so_far_more : (old now new : Group) (count more : ℕ) → SoFar old now count → refusal_of now (Deliver 0) ≡ None → new ≡ group_step now (Deliver 0) → more ≡ min (count + 1) 4294967295 → SoFar old new more
so_far_more old now new count more s free is counts =
    let one = reached_now now (slice_get now.wire 0) free in
    let all = next_delivered old now s.n s.is in
    let was = s.counted in
    record { n = s.n + 1; is = is ∙ next_settled old now s.n s.is; counted = omega arith }

pub so_far_less : (old now new : Group) (count : ℕ) → SoFar old now count → refusal_of now (Deliver 0) ≡ Some Unreachable → new ≡ left_by now (Deliver 0) Unreachable → SoFar old new count
so_far_less old now new count s down is =
    let none = missed_now now (slice_get now.wire 0) down in
    let all = next_delivered old now s.n s.is in
    let was = s.counted in
    record { n = s.n + 1; is = is ∙ sym (refused_leaves now (Deliver 0) Unreachable down) ∙ next_settled old now s.n s.is; counted = omega arith }

-- nothing is left
pub so_far_done : (old now : Group) (count : ℕ) → Bounded old → SoFar old now count → now.wire ≡ [] → (now ≡ settled_group old) × (count ≡ min (settle_count old) 4294967295)
so_far_done old now count ok s empty =
    let b : ℕ = budget old in
    let idle : slice_get (settle s.n old).wire 0 ≡ None = ap (λ v. slice_get v.wire 0) (sym s.is) ∙ ap (λ l. slice_get l 0) empty in
    let done : slice_get (settle b old).wire 0 ≡ None = ap (λ l. slice_get l 0) (settle_done b old ok (omega arith)) in
    let same : settle s.n old ≡ settle b old =
    sym (settle_idle b (settle s.n old) idle) ∙ sym (settle-add s.n b (s.n + b) old refl) ∙ settle-add b s.n (s.n + b) old (omega arith) ∙ settle_idle s.n (settle b old) done in
    let one = delivered-add s.n b (s.n + b) old refl in
    let two = delivered-add b s.n (s.n + b) old (omega arith) in
    let no = delivered_idle b (settle s.n old) idle in
    let no' = delivered_idle s.n (settle b old) done in
    let was = s.counted in
    let as_many : delivered s.n old ≡ delivered b old = omega arith in
    (s.is ∙ same, was ∙ ap (λ v. min v 4294967295) as_many)

pub wire_none : (ms : List Sent) → length ms ≡ 0 → ms ≡ []
wire_none [] is = refl
wire_none (m ∷ ms) is = absurd (omega arith)

pub first_there : (g : Group) → (g.wire ≡ [] → ⊥) → slice_get g.wire 0 ≡ None → ⊥
first_there g some none = go g.wire some none
  where
    go : (ms : List Sent) → (ms ≡ [] → ⊥) → slice_get ms 0 ≡ None → ⊥
    go [] s n = s refl
    go (m ∷ ms) s n = (cc)

-- no more than its addressee or memory can stand in a delivery's way

there : (ms : List Sent) → (length ms == 0) ≡ false → slice_get ms 0 ≡ None → ⊥
there [] some none = cc
there (m ∷ ms) some none = cc

first_message : (g : Group) → (length g.wire == 0) ≡ false → At g.wire 0
first_message g some = go (slice_get g.wire 0) refl
  where
    go : (found : Option Sent) → slice_get g.wire 0 ≡ found → At g.wire 0
    go None none = absurd (there g.wire some none)
    go (Some m) is = record { item = m; is = is }

only_two : (now : Group) (m : Sent) (fault : Fault) → refusal_to now m.to ≡ Some fault → fault ≡ Unreachable
only_two now m fault is = to m.to is
  where
    up : (b : Bool) → (if b then None else Some Unreachable) ≡ Some fault → fault ≡ Unreachable
    up true e = absurd (cc)
    up false e = cc

    to : (p : Party) → refusal_to now p ≡ Some fault → fault ≡ Unreachable
    to Client e = absurd (cc)
    to (Osd d) e = up (is_in now.up d) e

refused_only : (now : Group) (fault : Fault) → (length now.wire == 0) ≡ false → refusal_of now (Deliver 0) ≡ Some fault → fault ≡ Unreachable
refused_only now fault some is = (let m = first_message now some in only_two now m.item fault (sym (ap (λ o. refusal_at now 0 o) m.is) ∙ is))

pub so_far_ended : (old now new : Group) (count : ℕ) (fault : Fault) → SoFar old now count → (length now.wire == 0) ≡ false → Refuses now (Deliver 0) fault new → (fault ≡ Unreachable → ⊥) →
    (fault ≡ OutOfMemory) × ((n : ℕ) × (new ≡ settle n old))
so_far_ended old now new count OutOfMemory s some said other = (refl, (s.n, said.1 ∙ s.is))
so_far_ended old now new count (NoMessage k) s some said other = absurd (other (refused_only now (NoMessage k) some said.0))
so_far_ended old now new count Unreachable s some said other = absurd (other refl)
so_far_ended old now new count Full s some said other = absurd (other (refused_only now Full some said.0))
so_far_ended old now new count Doubled s some said other = absurd (other (refused_only now Doubled some said.0))

pub dropped : (fault : Fault) → is_drop fault ≡ true → fault ≡ Unreachable
dropped Unreachable is = refl
dropped (NoMessage k) is = absurd (cc)
dropped Full is = absurd (cc)
dropped OutOfMemory is = absurd (cc)
dropped Doubled is = absurd (cc)

pub not_dropped : (fault : Fault) → is_drop fault ≡ false → fault ≡ Unreachable → ⊥
not_dropped fault is same = (let yes : is_drop fault ≡ true = ap is_drop same in cc)
