-- Statement: contracts of public calls use it.
-- Laws of the map, over histories whose commands were accepted.
use Rattle.std.specs.Prelude.{◌≡◌, ◌≢◌, ℕ, ◌<◌, ◌≤◌, List, [], ◌∷◌, ◌++◌, Bool, true, false, Option, None, Some, length, map, All, AllPairs}
use Rattle.std.specs.Option.{option_to_list}
use Rattle.place_core.specs.Placement.{numbers_of}
use Rattle.map_core.specs.State.{MapState, History}
use Rattle.map_core.specs.Map.{after, map_of, pool_in, view_at}
use Rattle.map_core.specs.Limits.{IsAccepted}
use Rattle.map_core.specs.Intervals.{set_of, begun, intervals_of}
use Rattle.map_core.specs.ActingSets.{IsSetOf}
use Rattle.map_core.specs.PossibleTags.{ArePossible}
use Rattle.map_core.specs.declared.pool.Pool.{Pool}
use Rattle.map_core.specs.declared.pool.PoolView.{PoolView}
use Rattle.map_core.specs.declared.command.MapCommand.{MapCommand}
use Rattle.map_core.specs.declared.command.MapCommand.TheVariants.{OsdUp, OsdDown}

-- a history with these commands after its own
abbrev pub later : History → List MapCommand → History
later history commands = record history { commands = history.commands ++ commands }

-- a group's acting set is that of the ranking
abbrev pub SetsAreActing : Type 0
SetsAreActing = (history : History) (pool : List ℕ) (group : ℕ) (members : List ℕ) → IsAccepted history → set_of (map_of history) pool group ≡ Some members → IsSetOf (map_of history) pool group members

-- each daemon that is up has a number below the number of daemons
abbrev pub UpAreThere : Type 0
UpAreThere = (history : History) → IsAccepted history → All (λ d. d < history.daemons) (numbers_of (map_of history).up)

-- no two pools have one name
abbrev pub PoolsDiffer : Type 0
PoolsDiffer = (history : History) → IsAccepted history → AllPairs (λ a b. a ≢ b) (map (λ (p : Pool). p.name) (map_of history).pools)

-- there are at most 32
abbrev pub PoolsAreFew : Type 0
PoolsAreFew = (history : History) → IsAccepted history → length (map_of history).pools ≤ 32

-- each pool has tags that a pool can have
abbrev pub TagsArePossible : Type 0
TagsArePossible = (history : History) → IsAccepted history → All (λ (pool : Pool). ArePossible pool.tags) (map_of history).pools

-- and so has each view, of whatever epoch
abbrev pub ViewsArePossible : Type 0
ViewsArePossible = (history : History) (name : List ℕ) (epoch : ℕ) (view : PoolView) → IsAccepted history → view_at history name epoch ≡ Some view → ArePossible view.tags

-- the pool of this name is there, with these numbers
pub record HasPool (history : History) (name : List ℕ) (pg_num size min_size : ℕ) : Type 0 where
  pub pool : Pool
  pub found : pool_in (map_of history).pools name ≡ Some pool
  pub named : pool.name ≡ name
  pub groups : pool.pg_num ≡ pg_num
  pub daemons : pool.size ≡ size
  pub needed : pool.min_size ≡ min_size

-- a pool stays, and keeps its numbers
abbrev pub PoolsStay : Type 0
PoolsStay = (history : History) (commands : List MapCommand) (name : List ℕ) (pg_num size min_size : ℕ) → HasPool history name pg_num size min_size → HasPool (later history commands) name pg_num size min_size

-- a view, of whatever epoch, is of a pool that the map has, with its numbers
abbrev pub ViewsAreOfPools : Type 0
ViewsAreOfPools = (history : History) (name : List ℕ) (epoch : ℕ) (view : PoolView) → view_at history name epoch ≡ Some view
    → (view.pool ≡ name) × HasPool history name view.pg_num view.size view.min_size

-- one more command begins at most one interval more
abbrev pub CommandsBeginIntervals : Type 0
CommandsBeginIntervals = (history : History) (command : MapCommand) (pool : List ℕ) (group : ℕ)
    → intervals_of (later history (command ∷ [])) pool group
    ≡ intervals_of history pool group ++ option_to_list (begun command (set_of (map_of history) pool group) (set_of (after (map_of history) command) pool group))

-- the sets of a group's intervals: none before its pool is there, and the present set last from then on
abbrev pub EndIn : Option (List ℕ) → List (List ℕ) → Type 0
EndIn None sets = sets ≡ []
EndIn (Some set) sets = (front : List (List ℕ)) × (sets ≡ front ++ set ∷ [])

abbrev pub PresentSetIsLast : Type 0
PresentSetIsLast = (history : History) (pool : List ℕ) (group : ℕ) → EndIn (set_of (map_of history) pool group) (intervals_of history pool group)

-- whether a command changes which daemons are up
abbrev pub moves_daemons : MapCommand → Bool
moves_daemons (OsdUp daemon) = true
moves_daemons (OsdDown daemon) = true
moves_daemons _ = false

-- any other command leaves each set
abbrev pub OthersLeaveSets : Type 0
OthersLeaveSets = (state : MapState) (command : MapCommand) (pool : List ℕ) (group : ℕ) (members : List ℕ) → moves_daemons command ≡ false → set_of state pool group ≡ Some members
    → set_of (after state command) pool group ≡ Some members
