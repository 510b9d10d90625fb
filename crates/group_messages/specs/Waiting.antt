-- Refinement: only contracts inside the crate use it.
-- Which ids may wait.
use Rattle.std.specs.Prelude.{ℕ, ◌≡◌, true, ◌==◌, List, nat_eq}
use Rattle.std.specs.List.{list_any}
use Rattle.std.specs.HashSet.{HashSet, contains}
use Rattle.store_core.specs.Request.{Sealed}

-- the set has the id of each request that waits
pub record KnowsWaiting {S : Type 0} (requests : List Sealed) (seen : HashSet ℕ S) : Type 0 where
  pub at : (id : ℕ) → list_any (λ w. w.id == id) requests ≡ true → contains nat_eq seen id ≡ true
