-- Statement: contracts of public calls use it.
-- Laws of placement, over sets of daemons as contracts see them: 16 flags.
use Rattle.std.specs.Prelude.{◌≡◌, ◌≢◌, ℕ, ◌<◌, ◌≤◌, List, Bool, length, All, AllPairs}
use Rattle.place_core.specs.Placement.{IsActing, IsActingSet, acting_of, numbers_of}

-- the acting set by counting is the one by the condition on pairs
abbrev pub ActingIsTheRanking : Type 0
ActingIsTheRanking = (pool : List ℕ) (group : ℕ) (up : List Bool) (size : ℕ) → length up ≡ 16 → IsActing pool group (numbers_of up) size (acting_of pool group (numbers_of up) size)

-- cut at five it is a set of up daemons
abbrev pub ActingIsASet : Type 0
ActingIsASet = (pool : List ℕ) (group : ℕ) (up : List Bool) (size : ℕ) → length up ≡ 16 → size ≤ 5 → IsActingSet (numbers_of up) (acting_of pool group (numbers_of up) size)

-- the daemons of a set have numbers below 16, each once
abbrev pub DaemonsAreSixteen : Type 0
DaemonsAreSixteen = (up : List Bool) → length up ≡ 16 → All (λ d. d < 16) (numbers_of up) × AllPairs (λ a b. a ≢ b) (numbers_of up)
