-- Refinement: only contracts inside the crate use it.
-- Lists by the ids of their first requests.
use Rattle.std.specs.Prelude.{ℕ, List, map}
use Rattle.world_front.specs.ControlPlane.{ListRange}

-- the lists of entries
abbrev pub lists_in : List (ℕ × ℕ) → List ListRange
lists_in entries = map (λ e. record { first = e.0; count = e.1 }) entries
