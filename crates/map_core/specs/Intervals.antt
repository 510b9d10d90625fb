-- Statement: contracts of public calls use it.
-- The intervals of a group (Ceph Peering: an interval is a run of map epochs in which the acting set stays; here a restart of a member begins one too).
use Rattle.std.specs.Prelude.{ℕ, List, [], ◌∷◌, ◌++◌, Bool, false, not, ◌||◌, ◌==◌, if◌then◌else◌, Option, None, Some}
use Rattle.std.specs.Option.{option_map, option_to_list}
use Rattle.std.specs.List.{list_any}
use Rattle.std.specs.Str.{bytes_eq}
use Rattle.place_core.specs.Placement.{acting_of, numbers_of}
use Rattle.map_core.specs.State.{MapState, History}
use Rattle.map_core.specs.Map.{after, initial, pool_in}
use Rattle.map_core.specs.declared.pool.Pool.{Pool}
use Rattle.map_core.specs.declared.command.MapCommand.{MapCommand}
use Rattle.map_core.specs.declared.command.MapCommand.TheVariants.{PoolCreate, OsdRestart}

-- how large the acting sets of a pool are
unfoldable pub size_in : List Pool → List ℕ → Option ℕ
size_in pools name = option_map (λ (p : Pool). p.size) (pool_in pools name)

-- that of a pool of this name which a command creates
abbrev pub size_made : MapCommand → List ℕ → Option ℕ
size_made (PoolCreate name pg_num size min_size) pool = if bytes_eq name pool then Some size else None
size_made _ pool = None

-- a group's acting set, once its pool is there
unfoldable pub set_of : MapState → List ℕ → ℕ → Option (List ℕ)
set_of state pool group = option_map (acting_of pool group (numbers_of state.up)) (size_in state.pools pool)

-- whether a command restarts a member of the set
abbrev pub restarts : MapCommand → List ℕ → Bool
restarts (OsdRestart daemon) set = list_any (λ d. d == daemon) set
restarts _ set = false

-- the set with which a command begins an interval, if it does: at the pool's creation, at a change, and at a restart of a member
abbrev pub begun : MapCommand → Option (List ℕ) → Option (List ℕ) → Option (List ℕ)
begun command old None = None
begun command None (Some set) = Some set
begun command (Some old) (Some set) = if restarts command old || not (bytes_eq old set) then Some set else None

-- the acting sets of the intervals that commands begin from a state on
abbrev pub intervals_from : MapState → List ℕ → ℕ → List MapCommand → List (List ℕ)
intervals_from state pool group [] = []
intervals_from state pool group (command ∷ commands) =
    option_to_list (begun command (set_of state pool group) (set_of (after state command) pool group)) ++ intervals_from (after state command) pool group commands

-- the acting sets of a group's intervals, in order
unfoldable pub intervals_of : History → List ℕ → ℕ → List (List ℕ)
intervals_of history pool group = intervals_from (initial history.daemons) pool group history.commands
