-- Statement: contracts of public calls use it.
-- The state of the map, and the history that it follows from.
use Rattle.std.specs.Prelude.{◌≡◌, ℕ, List, ◌++◌, Bool}
use Rattle.map_core.specs.declared.command.MapCommand.{MapCommand}
use Rattle.map_core.specs.declared.pool.Pool.{Pool}

-- how many daemons there are, the pools in order of creation, and 16 flags that tell which daemons are up (the cluster map: the RADOS paper)
pub record MapState : Type 0 where
  pub daemons : ℕ
  pub pools : List Pool
  pub up : List Bool

-- how many daemons there are, and the commands that were accepted
pub record History : Type 0 where
  pub daemons : ℕ
  pub commands : List MapCommand

-- commands that begin with all of the others
abbrev pub Begins : List MapCommand → List MapCommand → Type 0
Begins commands front = (rest : List MapCommand) × (commands ≡ front ++ rest)

-- a map of as many daemons, whose commands begin with those of the earlier one
abbrev pub GoesOn : History → History → Type 0
GoesOn history earlier = (history.daemons ≡ earlier.daemons) × Begins history.commands earlier.commands
