-- Elements of lists, and tests of them.
use Rattle.std.proofs.Common.{◌≡◌, ℕ, zero, suc, ◌<◌, List, [], ◌∷◌, ◌++◌, length, get_or, Bool, true, false, refl, sym, ap, subst, ◌∙◌, inl, inr, ◌⊎◌, arith}
use Rattle.std.specs.List.{list_any, list_all, Contains}
use Rattle.std.proofs.lemmas.Bool.{false≢true}
use Rattle.std.proofs.lemmas.List.Folds.{list_any_at}
use Rattle.compare_core.proofs.Bools.{both_left, both_right, both, true_or_false, fails}

pub contains_first : {X : Type 0} (x : X) (xs : List X) → Contains (x ∷ xs) x
contains_first x xs = (0, omega arith, refl)

pub contains_later : {X : Type 0} (x y : X) (xs : List X) → Contains xs y → Contains (x ∷ xs) y
contains_later x y xs h = let within = h.1 in (suc h.0, omega (arith, within), h.2)

pub contains_cases : {X : Type 0} (x y : X) (xs : List X) → Contains (x ∷ xs) y → (x ≡ y) ⊎ Contains xs y
contains_cases {X} x y xs h = go h.0 h.1 h.2
  where
    go : (k : ℕ) → k < length (x ∷ xs) → get_or (x ∷ xs) k y ≡ y → (x ≡ y) ⊎ Contains xs y
    go zero within is = inl is
    go (suc k) within is = inr (k, omega (arith, within), is)

pub contains_none : {X : Type 0} (x : X) → Contains [] x → ⊥
contains_none x h = let within = h.1 in absurd (omega (arith, within))

-- an element between others
pub contains_between : {X : Type 0} (front behind : List X) (x : X) → Contains (front ++ x ∷ behind) x
contains_between [] behind x = contains_first x behind
contains_between (y ∷ front) behind x = contains_later y x (front ++ x ∷ behind) (contains_between front behind x)

pub contains_beside : {X : Type 0} (front behind : List X) (x y : X) → Contains (front ++ behind) y → Contains (front ++ x ∷ behind) y
contains_beside [] behind x y h = contains_later x y behind h
contains_beside (z ∷ front) behind x y h =
    elim (contains_cases z y (front ++ behind) h) [
      | inl same ↦ subst (λ w. Contains (z ∷ (front ++ x ∷ behind)) w) same (contains_first z (front ++ x ∷ behind))
      | inr later ↦ contains_later z y (front ++ x ∷ behind) (contains_beside front behind x y later)
    ]

-- an element that passes
pub some_contains : {X : Type 0} (p : X → Bool) (xs : List X) → list_any p xs ≡ true → (x : X) × Contains xs x × (p x ≡ true)
some_contains p [] h = absurd (false≢true h)
some_contains {X} p (x ∷ xs) h =
    elim (true_or_false (p x)) [ inl passes ↦ (x, contains_first x xs, passes) | inr stops ↦ later (some_contains p xs (rw stops at h)) ]
  where
    later : ((y : X) × Contains xs y × (p y ≡ true)) → (y : X) × Contains (x ∷ xs) y × (p y ≡ true)
    later found = (found.0, contains_later x found.0 xs found.1, found.2)

pub any_contains : {X : Type 0} (p : X → Bool) (xs : List X) (x : X) → Contains xs x → p x ≡ true → list_any p xs ≡ true
any_contains p xs x h passes = list_any_at p xs h.0 x h.1 (ap p h.2 ∙ passes)

all_at : {X : Type 0} (p : X → Bool) (xs : List X) (k : ℕ) (d : X) → k < length xs → list_all p xs ≡ true → p (get_or xs k d) ≡ true
all_at p [] k d within all = absurd (omega (arith, within))
all_at p (x ∷ xs) zero d within all = both_left (p x) _ all
all_at p (x ∷ xs) (suc k) d within all = all_at p xs k d (omega (arith, within)) (both_right (p x) (list_all p xs) all)

pub all_contains : {X : Type 0} (p : X → Bool) (xs : List X) (x : X) → list_all p xs ≡ true → Contains xs x → p x ≡ true
all_contains p xs x all h = subst (λ y. p y ≡ true) h.2 (all_at p xs h.0 x h.1 all)

pub all_from : {X : Type 0} (p : X → Bool) (xs : List X) → ((x : X) → Contains xs x → p x ≡ true) → list_all p xs ≡ true
all_from p [] each = refl
all_from p (x ∷ xs) each = both (p x) (list_all p xs) (each x (contains_first x xs)) (all_from p xs (λ y h. each y (contains_later x y xs h)))

pub none_from : {X : Type 0} (p : X → Bool) (xs : List X) → ((x : X) → Contains xs x → p x ≡ true → ⊥) → list_any p xs ≡ false
none_from p xs each = fails _ (λ h. let found = some_contains p xs h in each found.0 found.1 found.2)

pub not_all : {X : Type 0} (p : X → Bool) (xs : List X) (x : X) → Contains xs x → p x ≡ false → list_all p xs ≡ false
not_all p xs x h stops = fails _ (λ all. false≢true (sym stops ∙ all_contains p xs x all h))
