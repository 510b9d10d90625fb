-- Refinement: only contracts inside the crate use it.
-- Messages on their way, and for how many more there is room.
use Rattle.std.specs.Prelude.{ℕ, List}
use Rattle.group_model.specs.Types.{Sent}

pub record WireRoom : Type 0 where
  pub sent : List Sent
  pub room : ℕ
