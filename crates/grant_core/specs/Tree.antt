-- Refinement: only contracts inside the crate use it.
-- Where a grant of a body stands.
use Rattle.std.specs.Prelude.{ℕ, List, ◌++◌}
use Rattle.cap_grants.specs.declared.grant.AllowGrant.{AllowGrant}

-- a grant under the numbers above it
abbrev pub below : List ℕ → List ℕ × AllowGrant → List ℕ × AllowGrant
below above entry = (above ++ entry.0, entry.1)
