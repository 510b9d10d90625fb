-- A fact of some element, and tests over lists.
use Rattle.std.proofs.Common.{ℕ, zero, suc, ◌≡◌, ◌≤◌, ◌<◌, ◌+◌, Bool, true, false, ◌||◌, nat_lt, ◌==◌, List, [], ◌∷◌, ◌++◌, map, length, slice_index_or, refl, sym, subst, arith, inl, inr, if◌then◌else◌}
use Rattle.std.specs.List.{list_any, filter}
use Rattle.std.proofs.lemmas.Bool.{eqb-true, cases_lt, or_cases, or_left, or_right, and_from, both_ways, lt-ltb}
use Rattle.entry_core.specs.Log.{is_in}
use Rattle.group_model_whole.specs.Choice.{covers}
use Rattle.group_model_whole.proofs.RecoveryStates.{Any}

module _ {X : Type 0} (P : X → Type 0) where
  pub Any-left : (xs ys : List X) → Any P xs → Any P (xs ++ ys)
  Any-left [] ys p = absurd p
  Any-left (x ∷ xs) ys (inl p) = inl p
  Any-left (x ∷ xs) ys (inr p) = inr (Any-left xs ys p)

  pub Any-right : (xs ys : List X) → Any P ys → Any P (xs ++ ys)
  Any-right [] ys p = p
  Any-right (x ∷ xs) ys p = inr (Any-right xs ys p)

  pub Any-none : (xs : List X) → xs ≡ [] → Any P xs → ⊥
  Any-none [] e p = p
  Any-none (x ∷ xs) e p = cc

pub Any-weaker : {X : Type 0} (P Q : X → Type 0) → ((x : X) → P x → Q x) → (xs : List X) → Any P xs → Any Q xs
Any-weaker P Q to [] p = p
Any-weaker P Q to (x ∷ xs) (inl p) = inl (to x p)
Any-weaker P Q to (x ∷ xs) (inr p) = inr (Any-weaker P Q to xs p)

-- what is sent to each
pub Any-map : {X : Type 0} (P : X → Type 0) (f : ℕ → X) (xs : List ℕ) (d : ℕ) → is_in xs d ≡ true → P (f d) → Any P (map f xs)
Any-map P f [] d is p = absurd (both_ways false refl is)
Any-map P f (x ∷ xs) d is p = elim (or_cases (x == d) (is_in xs d) is) [
  | inl here ↦ inl (subst (λ v. P (f v)) (sym (eqb-true x d here)) p)
  | inr later ↦ inr (Any-map P f xs d later p)
]

pub record Kept (test : ℕ → Bool) (xs : List ℕ) (d : ℕ) : Type 0 where
  pub is_item : is_in xs d ≡ true
  pub passes : test d ≡ true

pub filter_kept : (test : ℕ → Bool) (xs : List ℕ) (d : ℕ) → is_in (filter test xs) d ≡ true → Kept test xs d
filter_kept test [] d is = absurd (both_ways false refl is)
filter_kept test (x ∷ xs) d is = go (test x) refl is (filter_kept test xs d)
  where
    go : (b : Bool) → test x ≡ b → is_in (if b then x ∷ filter test xs else filter test xs) d ≡ true → (is_in (filter test xs) d ≡ true → Kept test xs d) → Kept test (x ∷ xs) d
    go true t h rec = elim (or_cases (x == d) (is_in (filter test xs) d) h) [
      | inl here ↦ record { is_item = or_left (x == d) (is_in xs d) here; passes = subst (λ v. test v ≡ true) (eqb-true x d here) t }
      | inr later ↦ (let k : Kept test xs d = rec later in record { is_item = or_right (x == d) (is_in xs d) k.is_item; passes = k.passes })
    ]
    go false t h rec = let k : Kept test xs d = rec h in record { is_item = or_right (x == d) (is_in xs d) k.is_item; passes = k.passes }

pub list_any_in : (test : ℕ → Bool) (xs : List ℕ) (d : ℕ) → is_in xs d ≡ true → test d ≡ true → list_any test xs ≡ true
list_any_in test [] d is passes = absurd (both_ways false refl is)
list_any_in test (x ∷ xs) d is passes = elim (or_cases (x == d) (is_in xs d) is) [
  | inl here ↦ or_left (test x) (list_any test xs) (subst (λ v. test v ≡ true) (sym (eqb-true x d here)) passes)
  | inr later ↦ or_right (test x) (list_any test xs) (list_any_in test xs d later passes)
]

-- a member of one of the sets
pub known_in : (sets : List (List ℕ)) (i d : ℕ) → is_in (slice_index_or sets i []) d ≡ true → list_any (λ members. is_in members d) sets ≡ true
known_in [] i d is = absurd (both_ways false refl is)
known_in (s ∷ sets) zero d is = or_left (is_in s d) (list_any (λ members. is_in members d) sets) is
known_in (s ∷ sets) (suc i) d is = or_right (is_in s d) (list_any (λ members. is_in members d) sets) (known_in sets i d is)

pub covers_all : (min_size base : ℕ) (informed : ℕ → Bool) (j : ℕ) (sets : List (List ℕ)) →
    ((i : ℕ) → i < length sets → base ≤ j + i → min_size ≤ length (slice_index_or sets i []) → list_any informed (slice_index_or sets i []) ≡ true) →
    covers min_size base informed j sets ≡ true
covers_all min_size base informed j [] each = refl
covers_all min_size base informed j (s ∷ sets) each =
    and_from (nat_lt j base || nat_lt (length s) min_size || list_any informed s) (covers min_size base informed (j + 1) sets) here
    (covers_all min_size base informed (j + 1) sets (λ i below from enough. each (suc i) (omega arith) (omega arith) enough))
  where
    here : (nat_lt j base || nat_lt (length s) min_size || list_any informed s) ≡ true
    here = elim (cases_lt j base) [
      | inl early ↦ or_left (nat_lt j base || nat_lt (length s) min_size) (list_any informed s) (or_left (nat_lt j base) (nat_lt (length s) min_size) (lt-ltb j base early))
      | inr from ↦ (elim (cases_lt (length s) min_size) [
        | inl few ↦ or_left (nat_lt j base || nat_lt (length s) min_size) (list_any informed s) (or_right (nat_lt j base) (nat_lt (length s) min_size) (lt-ltb (length s) min_size few))
        | inr enough ↦ or_right (nat_lt j base || nat_lt (length s) min_size) (list_any informed s) (each zero (omega arith) (omega arith) enough)
      ])
    ]
