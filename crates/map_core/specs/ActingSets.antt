-- Statement: contracts of public calls use it.
-- What every acting set of a map is.
use Rattle.std.specs.Prelude.{◌≡◌, ℕ, ◌<◌, List, Some, All}
use Rattle.place_core.specs.Placement.{IsActing, IsActingSet, numbers_of}
use Rattle.map_core.specs.State.{MapState}
use Rattle.map_core.specs.Intervals.{size_in}

-- the up daemons by the group's ranking, cut at the pool's size: at most five, each once, each of them up and one that the map has
pub record IsSetOf (state : MapState) (pool : List ℕ) (group : ℕ) (members : List ℕ) : Type 0 where
  pub size : ℕ
  pub sized : size_in state.pools pool ≡ Some size
  pub acting : IsActing pool group (numbers_of state.up) size members
  pub is_set : IsActingSet (numbers_of state.up) members
  pub there : All (λ d. d < state.daemons) members
