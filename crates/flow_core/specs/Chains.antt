-- Statement: contracts of public calls use it.
-- Chains of steps between places, and the shortest ones (this project's profile). A place is a number.
use Rattle.std.specs.Prelude.{ℕ, ◌≡◌, ◌<◌, ◌≤◌, List, [], ◌∷◌, ◌++◌, length, map}
use Rattle.std.specs.List.{All, Contains, slice_index_or}
use Rattle.std.specs.List.Sorted.{IsStrictlyIncreasing}
use Rattle.flow_core.specs.declared.chains.Found.{Found}

-- each of the places has a step to the next one, the place before them to the first
abbrev pub AreSteps : (ℕ → ℕ → Type 0) → ℕ → List ℕ → Type 0
AreSteps Step before [] = Unit {0}
AreSteps Step before (place ∷ rest) = Step before place × AreSteps Step place rest

-- the places behind the start, the last of which is the end: a chain has at least one step
pub record IsChain (Step : ℕ → ℕ → Type 0) (start end : ℕ) (chain : List ℕ) : Type 0 where
  pub ends : (front : List ℕ) × (chain ≡ front ++ end ∷ [])
  pub steps : AreSteps Step start chain

pub record IsShortest (Step : ℕ → ℕ → Type 0) (start end : ℕ) (chain : List ℕ) : Type 0 where
  pub is : IsChain Step start end chain
  pub shortest : (other : List ℕ) → IsChain Step start end other → length chain ≤ length other

-- A place is listed among the steps of another, and it exists: as many places exist as there are lists of steps. A place that
-- does not exist has no steps.
abbrev pub IsStep : List (List ℕ) → ℕ → ℕ → Type 0
IsStep steps place next = (next < length steps) × Contains (slice_index_or steps place []) next

abbrev pub end_of : Found → ℕ
end_of found = found.end

-- what is found: each place that a chain from the start leads to, in ascending order, with a shortest chain to it
pub record AreFound (steps : List (List ℕ)) (start : ℕ) (found : List Found) : Type 0 where
  pub rising : IsStrictlyIncreasing (map end_of found)
  pub shortest : All (λ (one : Found). IsShortest (IsStep steps) start one.end one.chain.items) found
  pub others : (end : ℕ) → ¬ Contains (map end_of found) end → (chain : List ℕ) → ¬ IsChain (IsStep steps) start end chain
