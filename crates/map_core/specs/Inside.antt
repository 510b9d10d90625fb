-- Refinement: only contracts inside the crate use it.
-- What the map's fields stand for.
use Rattle.std.specs.Prelude.{◌≡◌, ◌<◌, ◌≤◌, length}
use Rattle.map_core.specs.State.{History}
use Rattle.map_core.specs.Map.{map_after}
use Rattle.map_core.specs.Limits.{IsAccepted}
use Rattle.map_core.specs.declared.map.ClusterMap.TheInside.{Inside}

abbrev pub history_of : Inside → History
history_of a = record { daemons = a.daemons; commands = a.commands.items }

-- the pools and the daemons that are up are those after the commands
pub record IsCurrent (a : Inside) : Type 0 where
  pub some : 1 ≤ a.daemons
  pub few : a.daemons ≤ 16
  pub pools : a.pools.items ≡ (map_after a.daemons a.commands.items).pools
  pub up : a.up ≡ (map_after a.daemons a.commands.items).up
  pub room : length a.commands.items < 65535
  pub accepted : IsAccepted (history_of a)
