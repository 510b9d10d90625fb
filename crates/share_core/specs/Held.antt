-- Statement: contracts of public calls use it.
-- Targets that a cluster map can hold.
use Rattle.std.specs.Prelude.{◌≡◌, ◌≤◌, ℕ, List, Option, Some, true, length}
use Rattle.std.specs.List.{All}
use Rattle.common_types.specs.declared.tags.AppTags.{AppTags}
use Rattle.map_core.specs.State.{History}
use Rattle.map_core.specs.Map.{view_at, epoch_of}
use Rattle.map_core.specs.Limits.{IsAccepted}
use Rattle.map_core.specs.PossibleTags.{ArePossible}
use Rattle.map_core.specs.Refusal.{is_word}
use Rattle.map_core.specs.declared.pool.PoolView.{PoolView}
use Rattle.request_types.specs.Target.{Target}

-- some map has a pool of that name with just these tags
pub record IsHeld (target : Target) : Type 0 where
  pub history : History
  pub accepted : IsAccepted history
  pub view : PoolView
  pub found : view_at history target.pool (epoch_of history) ≡ Some view
  pub tags : view.tags ≡ target.tags

-- a pair that a map takes
abbrev pub IsPairOfWords : List ℕ × List ℕ → Type 0
IsPairOfWords pair = (is_word pair.0 ≡ true) × (is_word pair.1 ≡ true)

-- an application that a map takes
pub record HasWords (app : AppTags) : Type 0 where
  pub named : is_word app.application ≡ true
  pub few : length app.pairs ≤ 16
  pub pairs : All IsPairOfWords app.pairs

-- a pool's name and tags, of which a map takes each
pub record CanBeNamed (target : Target) : Type 0 where
  pub pool : is_word target.pool ≡ true
  pub few : length target.tags ≤ 8
  pub apps : All HasWords target.tags

-- so possible tags are those that there can be: with names that a map takes, and not too many, some map holds them
abbrev pub TargetsAreHeld : Type 0
TargetsAreHeld = (target : Target) → ArePossible target.tags → CanBeNamed target → IsHeld target
