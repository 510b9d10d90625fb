-- What lists hold.
use Rattle.std.proofs.Common.{◌≡◌, ◌⊎◌, List, [], ◌∷◌, inl, inr, arith}
use Rattle.std.specs.List.{Contains}
use Rattle.std.proofs.lemmas.List.Elements.{Contains-append_cases, Contains-append_left, Contains-append_right, Contains-push, Contains-push_cases}

pub in_none : {X : Type 0} (x : X) → Contains [] x → ⊥
in_none x (k, inside, is) = omega arith

pub in_first : {X : Type 0} (y : X) (ys : List X) → Contains (y ∷ ys) y
in_first y ys = Contains-append_left (y ∷ []) ys y (Contains-push [] y)

pub in_later : {X : Type 0} (y : X) (ys : List X) (x : X) → Contains ys x → Contains (y ∷ ys) x
in_later y ys x inside = Contains-append_right (y ∷ []) ys x inside

in_one : {X : Type 0} (y x : X) → Contains [] x ⊎ (y ≡ x) → y ≡ x
in_one y x (inl inside) = absurd (in_none x inside)
in_one y x (inr same) = same

in_parts : {X : Type 0} (y : X) (ys : List X) (x : X) → Contains (y ∷ []) x ⊎ Contains ys x → (y ≡ x) ⊎ Contains ys x
in_parts y ys x (inl inside) = inl (in_one y x (Contains-push_cases [] y x inside))
in_parts y ys x (inr inside) = inr inside

pub in_cases : {X : Type 0} (y : X) (ys : List X) (x : X) → Contains (y ∷ ys) x → (y ≡ x) ⊎ Contains ys x
in_cases y ys x inside = in_parts y ys x (Contains-append_cases (y ∷ []) ys x inside)
