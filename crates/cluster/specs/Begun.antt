-- Refinement: only contracts inside the crate use it.
-- What a cluster has when it has begun: the parts of a world, a monitor that has changed nothing, and passes that have asked nothing.
use Rattle.std.specs.Prelude.{◌≡◌, List, [], All}
use Rattle.world_core.specs.World.{World}
use Rattle.world_core.specs.Sound.{IsSound}
use Rattle.world_core.specs.declared.world.parts.WorldParts.{WorldParts}
use Rattle.cluster.specs.declared.cluster.Cluster.{Cluster}
use Rattle.cluster.specs.declared.monitor.Monitor.{Monitor}
use Rattle.cluster.specs.declared.pass.Pass.{Pass}
use Rattle.cluster.specs.Passes.{firsts_of, start_of, HaveDrawnNone}
use Rattle.cluster.specs.Monitors.{IsMonitorOf, FollowsStart, IsWhole, own_map, monitor_seats}
use Rattle.cluster.specs.Asks.{IsBegun, IsPassOf, seats_of, sessions_of}

-- the parts are those of a world that holds, in which nothing was asked
pub record HasWorld (p : WorldParts) : Type 0 where
  pub world : World
  pub sound : IsSound world
  pub unasked : world.front.submissions ≡ []
  pub users : p.users ≡ world.front.database
  pub map_is : p.map ≡ world.front.history
  pub groups : p.groups.items ≡ world.groups

-- the cluster began with these parts, and no session
pub record HasParts (p : WorldParts) (c : Cluster) : Type 0 where
  pub begun : IsBegun c
  pub map_is : start_of c ≡ p.map
  pub groups : firsts_of c ≡ p.groups.items
  pub users : c.users.first.db ≡ p.users
  pub sessions : c.users.first.sessions ≡ 0

-- the monitor has changed nothing, and has taken no turn
pub record HasChangedNothing (c : Cluster) (m : Monitor) : Type 0 where
  pub own : IsMonitorOf c m
  pub whole : IsWhole m
  pub map_is : own_map m ≡ start_of c
  pub follows : FollowsStart c m
  pub numbers : HaveDrawnNone (monitor_seats m)

-- the passes have opened no session, and have taken no turn
pub record AreIdle (c : Cluster) (passes : List Pass) : Type 0 where
  pub own : All (IsPassOf c) passes
  pub idle : All (λ p. sessions_of p ≡ []) passes
  pub numbers : All (λ p. HaveDrawnNone (seats_of p)) passes
