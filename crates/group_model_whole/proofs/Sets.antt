-- Acting sets.
use Rattle.std.proofs.Common.{ℕ, ◌≡◌, ◌≤◌, true, ◌==◌, ◌&&◌, not, List, [], ◌∷◌, length, refl, sym, ap, ◌∙◌}
use Rattle.std.specs.Str.{bytes_eq}
use Rattle.place_core.specs.Distinct as members
use Rattle.entry_core.specs.Log.{is_in}
use Rattle.group_model_whole.proofs.Counted.{has_is_in}
use Rattle.group_model_whole.specs.Group.{is_distinct, same_set, IsSet}

-- a set's own test of another set
pub equals_is : (xs ys : List ℕ) → bytes_eq xs ys ≡ same_set xs ys
equals_is [] [] = refl
equals_is [] (y ∷ ys) = refl
equals_is (x ∷ xs) [] = refl
equals_is (x ∷ xs) (y ∷ ys) = ap (λ b. (x == y) && b) (equals_is xs ys)

distinct_is : (xs : List ℕ) → members.is_distinct xs ≡ is_distinct xs
distinct_is [] = refl
distinct_is (x ∷ xs) = ap (λ b. not b && members.is_distinct xs) (has_is_in xs x) ∙ ap (λ b. not (is_in xs x) && b) (distinct_is xs)

pub set_is : (xs : List ℕ) → length xs ≤ 5 → members.is_distinct xs ≡ true → IsSet xs
set_is xs few once = record { few = few; once = sym (distinct_is xs) ∙ once }
