-- Grants deny nothing that a read and a write of every object allow just where they reach every object.
use Rattle.std.proofs.Common.{◌≡◌, ◌≢◌, ◌≤◌, ◌⊎◌, ◌↔◌, ℕ, List, [], ◌∷◌, Bool, true, false, not, ◌&&◌, ◌||◌, Option, length, refl, sym, ap, subst, ◌∙◌, inl, inr, All, IsTrue, arith}
use Rattle.std.proofs.lemmas.Bool.{false≢true}
use Rattle.std.proofs.lemmas.List.Elements.{All-head, All-nil}
use Rattle.common_types.specs.declared.tags.AppTags.{AppTags}
use Rattle.compare_core.specs.Widening.{AreNeeded, CanBeAsked, IsCallBy, Widens, asks_something}
use Rattle.compare_core.specs.declared.registry.Registry.TheVariants.{Every}
use Rattle.compare_core.proofs.Bools.{both_left, both_right, not_both, true_or_false}
use Rattle.grant_core.specs.Flat.{Flat}
use Rattle.request_types.specs.Target.{Target}
use Rattle.request_types.specs.declared.request.ClassCall.{ClassCall}
use Rattle.request_types.specs.declared.request.Needs.{Needs}
use Rattle.share_core.specs.Sharing.{ArePossible, a_read, a_write}
use Rattle.verdict_core.specs.Verdict.{grants_allow}
use Rattle.share_text.specs.Everywhere.{ReadsAndWritesAll, every_object}

abbrev at : List ℕ → List AppTags → List ℕ → List ℕ → Target
at pool tags namespace object = record { pool = pool; tags = tags; namespace = namespace; object = object }

abbrev asking : Bool → Bool → List ClassCall → Needs
asking reads writes calls = record { reads = reads; writes = writes; calls = calls }

-- a read and a write of each object are allowed

every_read : (pool : List ℕ) (tags : List AppTags) (namespace object : List ℕ) → object ≢ [] → grants_allow every_object (at pool tags namespace object) a_read ≡ true
every_read pool tags namespace [] some = absurd (some refl)
every_read pool tags namespace (byte ∷ bytes) some = refl

every_write : (pool : List ℕ) (tags : List AppTags) (namespace object : List ℕ) → object ≢ [] → grants_allow every_object (at pool tags namespace object) a_write ≡ true
every_write pool tags namespace [] some = absurd (some refl)
every_write pool tags namespace (byte ∷ bytes) some = refl

-- and nothing else

some_name : (byte : ℕ) (bytes : List ℕ) → byte ∷ bytes ≢ []
some_name byte bytes e = absurd (cc)

-- no flags of these grants cover a call
uncovered : (listed reads writes : Bool) → (reads || writes) ≡ true → ((listed && (not reads || false)) && (not writes || false)) ≡ false
uncovered true true true h = refl
uncovered true true false h = refl
uncovered true false true h = refl
uncovered true false false h = absurd (false≢true h)
uncovered false true true h = refl
uncovered false true false h = refl
uncovered false false true h = refl
uncovered false false false h = absurd (false≢true h)

none_covers : (b : Bool) (rest : Bool) → b ≡ false → ((b || false) && rest) ≡ false
none_covers true rest h = absurd (false≢true (sym h))
none_covers false rest h = refl

neither_covers : (b : Bool) (rest : Bool) → b ≡ false → ((b || (b || false)) && rest) ≡ false
neither_covers true rest h = absurd (false≢true (sym h))
neither_covers false rest h = refl

abbrev IsPlainOf : List ℕ → Needs → Type 0
IsPlainOf object needs = (object ≢ []) × ((needs ≡ a_read) ⊎ (needs ≡ a_write))

only_plain : (pool : List ℕ) (tags : List AppTags) (namespace object : List ℕ) (reads writes : Bool) (calls : List ClassCall) → All (IsCallBy Every) calls
    → asks_something (asking reads writes calls) ≡ true → grants_allow every_object (at pool tags namespace object) (asking reads writes calls) ≡ true
    → IsPlainOf object (asking reads writes calls)
only_plain pool tags namespace [] reads writes calls are some h = absurd (false≢true h)
only_plain pool tags namespace (byte ∷ bytes) true true calls are some h = absurd (false≢true h)
only_plain pool tags namespace (byte ∷ bytes) true false [] are some h = (some_name byte bytes, inl refl)
only_plain pool tags namespace (byte ∷ bytes) false true [] are some h = (some_name byte bytes, inr refl)
only_plain pool tags namespace (byte ∷ bytes) false false [] are some h = absurd (false≢true some)
only_plain pool tags namespace (byte ∷ bytes) true false (call ∷ calls) are some h =
    absurd (false≢true (sym (none_covers _ _ (uncovered call.listed call.class_reads call.class_writes (All-head (IsCallBy Every) call calls are))) ∙ h))
only_plain pool tags namespace (byte ∷ bytes) false true (call ∷ calls) are some h =
    absurd (false≢true (sym (none_covers _ _ (uncovered call.listed call.class_reads call.class_writes (All-head (IsCallBy Every) call calls are))) ∙ h))
only_plain pool tags namespace (byte ∷ bytes) false false (call ∷ calls) are some h =
    absurd (false≢true (sym (neither_covers _ _ (uncovered call.listed call.class_reads call.class_writes (All-head (IsCallBy Every) call calls are))) ∙ h))

plain_of : (target : Target) (needs : Needs) → AreNeeded Every needs → grants_allow every_object target needs ≡ true → IsPlainOf target.object needs
plain_of target needs are h = only_plain target.pool target.tags target.namespace target.object needs.reads needs.writes needs.calls are.calls are.something h

-- a read or a write of an object can be asked
can_be_asked : (target : Target) (reads writes : Bool) → ArePossible target.tags → target.object ≢ [] → asks_something (asking reads writes []) ≡ true
    → CanBeAsked Every (record { target = target; needs = asking reads writes [] })
can_be_asked target reads writes possible some asks = record {
  tags = possible;
  needs = record { calls = All-nil (IsCallBy Every); few = omega arith; something = asks };
  listing = λ empty. absurd (some empty);
}

allowed : (grants : Flat) (target : Target) (needs : Needs) → (¬ Widens grants every_object) → CanBeAsked Every (record { target = target; needs = needs })
    → grants_allow every_object target needs ≡ true → grants_allow grants target needs ≡ true
allowed grants target needs none asked h = elim (true_or_false (grants_allow grants target needs)) [
  | inl allows ↦ allows
  | inr denies ↦ absurd (none (record { target = target; needs = needs }, (asked, h, denies)))
]

pub all_from_none : (grants : Flat) → (¬ Widens grants every_object) → ReadsAndWritesAll grants
all_from_none grants none target possible some = (
  allowed grants target a_read none (can_be_asked target true false possible some refl) (every_read target.pool target.tags target.namespace target.object some),
  allowed grants target a_write none (can_be_asked target false true possible some refl) (every_write target.pool target.tags target.namespace target.object some),
)

plain_allowed : (grants : Flat) (target : Target) (needs : Needs) → ReadsAndWritesAll grants → ArePossible target.tags → IsPlainOf target.object needs → grants_allow grants target needs ≡ true
plain_allowed grants target needs all possible (some, inl is) = subst (λ n. grants_allow grants target n ≡ true) (sym is) (all target possible some).0
plain_allowed grants target needs all possible (some, inr is) = subst (λ n. grants_allow grants target n ≡ true) (sym is) (all target possible some).1

pub none_from_all : (grants : Flat) → ReadsAndWritesAll grants → ¬ Widens grants every_object
none_from_all grants all gained =
    let target = gained.0.target in
    let needs = gained.0.needs in
    let asked = gained.1.0 in
    not_both (grants_allow grants target needs) (plain_allowed grants target needs all asked.tags (plain_of target needs asked.needs gained.1.1)) gained.1.2

pub reaches_all : (grants old every : Flat) (all : Bool) → old ≡ grants → every ≡ every_object → (IsTrue all → ¬ Widens old every) → ((¬ Widens old every) → IsTrue all) → IsTrue all ↔ ReadsAndWritesAll grants
reaches_all grants old every all same is from to = (
  λ h. all_from_none grants (subst (λ e. ¬ Widens grants e) is (subst (λ g. ¬ Widens g every) same (from h))),
  λ h. to (subst (λ g. ¬ Widens g every) (sym same) (subst (λ e. ¬ Widens grants e) (sym is) (none_from_all grants h))),
)
