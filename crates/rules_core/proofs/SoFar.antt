-- What holds of each element so far.
use Rattle.std.proofs.Common.{◌≡◌, ℕ, ◌+◌, ◌<◌, ◌≤◌, List, length, get_or, Some, slice_get, ap, subst, sym, ◌∙◌, ◌⊎◌, inl, inr, arith}
use Rattle.std.specs.List.{Contains}
use Rattle.std.proofs.lemmas.Bool.{cases_eq}
use Rattle.std.proofs.lemmas.Option.{slice_get_within, slice_get-get_or}

abbrev pub SoFar : {X : Type 0} → (X → Type 0) → List X → ℕ → Type 0
SoFar {X} P xs i = (k : ℕ) (x : X) → slice_get xs k ≡ Some x → k < i → P x

-- of all elements
abbrev pub Each : {X : Type 0} → (X → Type 0) → List X → Type 0
Each {X} P xs = (k : ℕ) (x : X) → slice_get xs k ≡ Some x → P x

at_once : {X : Type 0} {a b : X} → Some a ≡ Some b → a ≡ b
at_once e = cc

pub none_yet : {X : Type 0} (P : X → Type 0) (xs : List X) → SoFar P xs 0
none_yet P xs k x at low = absurd (omega arith)

pub one_more : {X : Type 0} (P : X → Type 0) (xs : List X) (i : ℕ) (x : X) → i < length xs → x ≡ get_or xs i x → P x → SoFar P xs i → SoFar P xs (i + 1)
one_more {X} P xs i x inside is here before k y at low = go (cases_eq k i)
  where
    there : slice_get xs i ≡ Some x
    there = slice_get-get_or xs i x inside ∙ ap (λ z. Some z) (sym is)

    go : (k ≡ i) ⊎ (k ≡ i → ⊥) → P y
    go (inl same) = subst P (at_once (sym there ∙ (ap (λ n. slice_get xs n) (sym same) ∙ at))) here
    go (inr other) = before k y at (omega arith)

pub all_so_far : {X : Type 0} (P : X → Type 0) (xs : List X) (i : ℕ) → length xs ≤ i → SoFar P xs i → Each P xs
all_so_far P xs i past before k x at = let inside : k < length xs = slice_get_within xs k x at in before k x at (omega arith)

pub each_along : {X : Type 0} (P : X → Type 0) (xs ys : List X) → xs ≡ ys → Each P xs → Each P ys
each_along P xs ys same all = subst (Each P) same all

pub each_has : {X : Type 0} (P : X → Type 0) (xs : List X) (x : X) → Each P xs → Contains xs x → P x
each_has P xs x all (k, low, is) = all k x (slice_get-get_or xs k x low ∙ ap (λ z. Some z) is)

pub item_at : {X : Type 0} (xs : List X) (i : ℕ) (x : X) → i < length xs → x ≡ get_or xs i x → slice_get xs i ≡ Some x
item_at xs i x inside is = slice_get-get_or xs i x inside ∙ ap (λ y. Some y) (sym is)
