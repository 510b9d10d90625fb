-- A fact of each element, over joined, cut and changed lists.
use Rattle.std.proofs.Common.{ℕ, zero, suc, ◌≡◌, List, [], ◌∷◌, ◌++◌, map, take, drop}
use Rattle.std.specs.Prelude.{slice_get, slice_set, slice_index_or, Some, IfSome}
use Rattle.std.specs.List.{remove}
use Rattle.group_model_whole.specs.Each.{Each}

module _ {X : Type 0} (P : X → Type 0) where
  pub Each-append : (xs ys : List X) → Each P xs → Each P ys → Each P (xs ++ ys)
  Each-append [] ys p q = q
  Each-append (x ∷ xs) ys p q = (p.0, Each-append xs ys p.1 q)

  pub Each-push : (xs : List X) (y : X) → Each P xs → P y → Each P (xs ++ y ∷ [])
  Each-push xs y p q = Each-append xs (y ∷ []) p (q, tt)

  pub Each-take : (n : ℕ) (xs : List X) → Each P xs → Each P (take n xs)
  Each-take zero xs p = tt
  Each-take (suc n) [] p = tt
  Each-take (suc n) (x ∷ xs) p = (p.0, Each-take n xs p.1)

  pub Each-drop : (n : ℕ) (xs : List X) → Each P xs → Each P (drop n xs)
  Each-drop zero xs p = p
  Each-drop (suc n) [] p = tt
  Each-drop (suc n) (x ∷ xs) p = Each-drop n xs p.1

  pub Each-remove : (xs : List X) (i : ℕ) → Each P xs → Each P (remove xs i)
  Each-remove xs i p = Each-append (take i xs) (drop (suc i) xs) (Each-take i xs p) (Each-drop (suc i) xs p)

  pub Each-set : (xs : List X) (i : ℕ) (y : X) → Each P xs → P y → Each P (slice_set xs i y)
  Each-set [] i y p q = tt
  Each-set (x ∷ xs) zero y p q = (q, p.1)
  Each-set (x ∷ xs) (suc i) y p q = (p.0, Each-set xs i y p.1 q)

  some_at : (xs : List X) (i : ℕ) → Each P xs → IfSome (slice_get xs i) P
  some_at [] i p = tt
  some_at (x ∷ xs) zero p = p.0
  some_at (x ∷ xs) (suc i) p = some_at xs i p.1

  pub Each-get : (xs : List X) (i : ℕ) (x : X) → Each P xs → slice_get xs i ≡ Some x → P x
  Each-get xs i x p is = rw is at (some_at xs i p)

  pub Each-get_or : (xs : List X) (i : ℕ) (d : X) → Each P xs → P d → P (slice_index_or xs i d)
  Each-get_or [] i d p q = q
  Each-get_or (x ∷ xs) zero d p q = p.0
  Each-get_or (x ∷ xs) (suc i) d p q = Each-get_or xs i d p.1 q

  pub Each-all : ((x : X) → P x) → (xs : List X) → Each P xs
  Each-all all [] = tt
  Each-all all (x ∷ xs) = (all x, Each-all all xs)

pub Each-map : {X Y : Type 0} (P : Y → Type 0) (Q : X → Type 0) (f : X → Y) → ((x : X) → Q x → P (f x)) → (xs : List X) → Each Q xs → Each P (map f xs)
Each-map P Q f each [] p = tt
Each-map P Q f each (x ∷ xs) p = (each x p.0, Each-map P Q f each xs p.1)

pub Each-map_all : {X Y : Type 0} (P : Y → Type 0) (f : X → Y) → ((x : X) → P (f x)) → (xs : List X) → Each P (map f xs)
Each-map_all P f each [] = tt
Each-map_all P f each (x ∷ xs) = (each x, Each-map_all P f each xs)

pub Each-weaker : {X : Type 0} (P Q : X → Type 0) → ((x : X) → P x → Q x) → (xs : List X) → Each P xs → Each Q xs
Each-weaker P Q to [] p = tt
Each-weaker P Q to (x ∷ xs) p = (to x p.0, Each-weaker P Q to xs p.1)
