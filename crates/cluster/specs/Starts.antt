-- Statement: contracts of public calls use it.
-- What a cluster begins with.
use Rattle.std.specs.Prelude.{◌≡◌, ℕ, List}
use Rattle.grant_core.specs.Flat.{Table}
use Rattle.world_events.specs.declared.event.Event.{Event}
use Rattle.world_core.specs.World.{World}
use Rattle.world_core.specs.Holds.{Holds}
use Rattle.world_core.specs.Calls.{IsFirstRefused}
use Rattle.cluster.specs.declared.cluster.Cluster.{Cluster}
use Rattle.cluster.specs.declared.fault.ClusterFault.{ClusterFault}
use Rattle.cluster.specs.declared.fault.ClusterFault.TheVariants as faults
use Rattle.cluster.specs.Passes.{firsts_of}

-- the cluster begins with the users, the map and the groups of the world that these events make, and no session
pub record IsStartOf (table : Table) (daemons : ℕ) (events : List Event) (c : Cluster) : Type 0 where
  pub world : World
  pub holds : Holds table daemons events world
  pub map_is : c.start ≡ world.front.history
  pub groups : firsts_of c ≡ world.groups
  pub users : c.users.first.db ≡ world.front.database
  pub sessions : c.users.first.sessions ≡ 0

-- there was no memory, or no reader
abbrev pub IsWant : ClusterFault → Type 0
IsWant faults.OutOfMemory = Unit {0}
IsWant faults.NoReader = Unit {0}
IsWant faults.NoThread = ⊥
IsWant (faults.World fault) = ⊥
IsWant (faults.Unfinished at) = ⊥

-- the first of these events that is refused, and why; or there was no memory, or no reader
abbrev pub StartFails : Table → ℕ → List Event → ClusterFault → Type 0
StartFails table daemons events (faults.World fault) = (place : ℕ) × IsFirstRefused table daemons events place fault
StartFails table daemons events fault = IsWant fault
