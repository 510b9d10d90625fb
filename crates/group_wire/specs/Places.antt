-- Refinement: only contracts inside the crate use it.
-- What was asked of a group and what was answered, and where the requests stand that have no answer.
use Rattle.std.specs.Prelude.{ℕ, ◌≡◌, ◌+◌, ◌≤◌, Bool, ◌==◌, not, List, [], ◌∷◌, Some, slice_get, if◌then◌else◌}
use Rattle.store_core.specs.Request.{Sealed}
use Rattle.group_model.specs.Group.{Answer, is_answered}

pub record Ledger : Type 0 where
  pub requests : List Sealed
  pub answers : List Answer

-- the places of the elements that pass a test, where the first has place n
abbrev pub places_from : {X : Type 0} → (X → Bool) → ℕ → List X → List ℕ
places_from p n [] = []
places_from p n (x ∷ xs) = if p x then n ∷ places_from p (n + 1) xs else places_from p (n + 1) xs

-- the places of the requests that have no answer, in order
abbrev pub open_places : List Sealed → List Answer → List ℕ
open_places requests answers = places_from (λ s. not (is_answered answers s.id)) 0 requests

-- a request has this id where it stands at place k, and nowhere else
abbrev pub IsPlaceOf : List Sealed → ℕ → ℕ → Type 0
IsPlaceOf requests id k = (j : ℕ) (s : Sealed) → slice_get requests j ≡ Some s → (s.id == id) ≡ (j == k)

-- numbers that rise, from n on
abbrev pub IsRising : ℕ → List ℕ → Type 0
IsRising n [] = Unit {0}
IsRising n (k ∷ ks) = (n ≤ k) × IsRising (k + 1) ks
