-- The members that count once one more does.
use Rattle.std.proofs.Common.{ℕ, ◌≡◌, Bool, true, false, cond, ◌==◌, ◌||◌, ◌&&◌, List, [], ◌∷◌, refl, sym, subst, ap, ◌∙◌, inl, inr}
use Rattle.std.specs.List.{filter}
use Rattle.std.proofs.lemmas.Bool.{eqb-true, eq-eqb, both_ways, or_cases}
use Rattle.entry_core.specs.Log.{is_in}
use Rattle.group_model_whole.specs.ActingSets.{others, counted}
use Rattle.group_model_whole.specs.Each.{Each}
use Rattle.group_model_whole.specs.Types.{Daemon}

-- a fact of each holds of one among them
pub at_member : (P : ℕ → Type 0) (ms : List ℕ) (m : ℕ) → Each P ms → is_in ms m ≡ true → P m
at_member P [] m each bad = absurd (both_ways false refl bad)
at_member P (i ∷ ms) m each is = elim (or_cases (i == m) (is_in ms m) is) [
  | inl here ↦ subst P (eqb-true i m here) each.0
  | inr later ↦ at_member P ms m each.1 later
]

each_kept : (P : ℕ → Type 0) (x : ℕ) (xs : List ℕ) (b : Bool) → (b ≡ true → P x) → Each P xs → Each P (cond b (x ∷ xs) xs)
each_kept P x xs true here rest = (here refl, rest)
each_kept P x xs false here rest = rest

each_filter : (P : ℕ → Type 0) (q : ℕ → Bool) → ((x : ℕ) → q x ≡ true → P x) → (xs : List ℕ) → Each P (filter q xs)
each_filter P q to [] = tt
each_filter P q to (x ∷ xs) = each_kept P x (filter q xs) (q x) (to x) (each_filter P q to xs)

pub Each-counted : (P : ℕ → Type 0) (c : Daemon) (done : List ℕ) (m : ℕ) → Each P done → P m → Each P (counted c done m)
Each-counted P c done m each one = each_filter P (λ x. is_in done x || (x == m)) (λ x is. elim (or_cases (is_in done x) (x == m) is) [
  | inl before ↦ at_member P done x each before
  | inr now ↦ subst P (sym (eqb-true x m now)) one
]) (others c)

in_kept : (q : ℕ → Bool) (x y : ℕ) (ys : List ℕ) (b : Bool) → q y ≡ b → is_in (filter q ys) x ≡ (is_in ys x && q x) → is_in (cond b (y ∷ filter q ys) (filter q ys)) x ≡ (((y == x) || is_in ys x) && q x)
in_kept q x y ys true is rest = here (y == x) refl
  where
    here : (v : Bool) → (y == x) ≡ v → (v || is_in (filter q ys) x) ≡ ((v || is_in ys x) && q x)
    here true same = sym (ap q (sym (eqb-true y x same)) ∙ is)
    here false other = rest
in_kept q x y ys false is rest = there (y == x) refl
  where
    there : (v : Bool) → (y == x) ≡ v → is_in (filter q ys) x ≡ ((v || is_in ys x) && q x)
    there true same = rest ∙ ap (λ v. is_in ys x && v) miss ∙ both (is_in ys x) ∙ sym miss
      where
        miss : q x ≡ false
        miss = ap q (sym (eqb-true y x same)) ∙ is

        both : (b : Bool) → (b && false) ≡ false
        both true = refl
        both false = refl
    there false other = rest

in_filter : (q : ℕ → Bool) (xs : List ℕ) (x : ℕ) → is_in (filter q xs) x ≡ (is_in xs x && q x)
in_filter q [] x = refl
in_filter q (y ∷ ys) x = in_kept q x y ys (q y) refl (in_filter q ys x)

-- of a member it is known before who counts
counts_as : (c : Daemon) (done : List ℕ) (m x : ℕ) → is_in (others c) x ≡ true → is_in (counted c done m) x ≡ (is_in done x || (x == m))
counts_as c done m x inside = in_filter (λ x. is_in done x || (x == m)) (others c) x ∙ ap (λ v. v && (is_in done x || (x == m))) inside

either_true : (a : Bool) → (a || true) ≡ true
either_true true = refl
either_true false = refl

either_false : (a : Bool) → (a || false) ≡ a
either_false true = refl
either_false false = refl

unlike : (a b : ℕ) → (a ≡ b → ⊥) → (a == b) ≡ false
unlike a b other = go (a == b) refl
  where
    go : (v : Bool) → (a == b) ≡ v → v ≡ false
    go true is = absurd (other (eqb-true a b is))
    go false is = refl

pub counted_still : (c : Daemon) (done : List ℕ) (m x : ℕ) → is_in (others c) x ≡ true → is_in done x ≡ true → is_in (counted c done m) x ≡ true
counted_still c done m x inside before = counts_as c done m x inside ∙ ap (λ v. v || (x == m)) before

pub counted_same : (c : Daemon) (done : List ℕ) (m x : ℕ) → is_in (others c) x ≡ true → x ≡ m → is_in (counted c done m) x ≡ true
counted_same c done m x inside same = counts_as c done m x inside ∙ ap (λ v. is_in done x || v) (eq-eqb x m same) ∙ either_true (is_in done x)

pub counted_other : (c : Daemon) (done : List ℕ) (m x : ℕ) → is_in (others c) x ≡ true → (x ≡ m → ⊥) → is_in (counted c done m) x ≡ is_in done x
counted_other c done m x inside other = counts_as c done m x inside ∙ ap (λ v. is_in done x || v) (unlike x m other) ∙ either_false (is_in done x)
