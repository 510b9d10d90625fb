-- Daemons that stand once each.
use Rattle.std.proofs.Common.{◌≡◌, ◌≢◌, ℕ, suc, ◌==◌, ◌||◌, ◌&&◌, not, Bool, true, false, List, [], ◌∷◌, ◌++◌, refl, sym, ◌∙◌, arith}
use Rattle.std.specs.List.{list_any, AllPairs}
use Rattle.std.proofs.lemmas.List.Folds.{list_any_none, list_any-append}
use Rattle.std.proofs.lemmas.Bool.{eqb-true, eq-eqb}
use Rattle.place_core.specs.Distinct.{is_distinct}

pub differs : (a b : ℕ) → a ≢ b → (a == b) ≡ false
differs a b other = go (a == b) refl
  where
    go : (v : Bool) → (a == b) ≡ v → v ≡ false
    go true is = absurd (other (eqb-true a b is))
    go false is = refl

pub distinct-from_pairs : (xs : List ℕ) → AllPairs (λ a b. a ≢ b) xs → is_distinct xs ≡ true
distinct-from_pairs [] h = refl
distinct-from_pairs (x ∷ xs) h =
    let none : list_any (λ d. d == x) xs ≡ false = list_any_none (λ d. d == x) xs (λ k d low. differs _ x (λ same. h 0 (suc k) d (omega arith) (omega arith) (sym same))) in
    let rest : is_distinct xs ≡ true = distinct-from_pairs xs (λ i j d low high. h (suc i) (suc j) d (omega arith) (omega arith)) in
    rw (none, rest) refl

split : (a b : Bool) → (not a && b) ≡ true → (a ≡ false) × (b ≡ true)
split false true h = (refl, refl)
split true b h = absurd (cc)
split false false h = absurd (cc)

either : (a b : Bool) → (a || b) ≡ false → (a ≡ false) × (b ≡ false)
either false false h = (refl, refl)
either true b h = absurd (cc)
either false true h = absurd (cc)

turned : (a b : ℕ) → (a == b) ≡ false → (b == a) ≡ false
turned a b h = differs b a (λ same. let e : (a == b) ≡ true = eq-eqb a b (sym same) in absurd (cc))

-- one more
pub distinct_push : (xs : List ℕ) (x : ℕ) → is_distinct xs ≡ true → list_any (λ d. d == x) xs ≡ false → is_distinct (xs ++ x ∷ []) ≡ true
distinct_push [] x h n = refl
distinct_push (y ∷ ys) x h n =
    let was : (list_any (λ d. d == y) ys ≡ false) × (is_distinct ys ≡ true) = split (list_any (λ d. d == y) ys) (is_distinct ys) h in
    let new : ((y == x) ≡ false) × (list_any (λ d. d == x) ys ≡ false) = either (y == x) (list_any (λ d. d == x) ys) n in
    let none : list_any (λ d. d == y) (ys ++ x ∷ []) ≡ false = list_any-append (λ d. d == y) ys (x ∷ []) ∙ rw (was.0, turned y x new.0) refl in
    rw (none, distinct_push ys x was.1 new.1) refl

pub no_falsehood : false ≡ true → ⊥
no_falsehood h = absurd (cc)
