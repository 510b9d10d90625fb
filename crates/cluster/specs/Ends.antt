-- Statement: contracts of public calls use it.
-- What a cluster is closed to.
use Rattle.std.specs.Prelude.{◌≡◌, List, map, length, IsSome, IsNone}
use Rattle.world_front.specs.declared.session.Session.{Session}
use Rattle.world_core.specs.declared.world.parts.WorldParts.{WorldParts}
use Rattle.cluster.specs.declared.cluster.Cluster.{Cluster}
use Rattle.cluster.specs.declared.cluster.Ended.{Ended}
use Rattle.cluster.specs.declared.closing.CloseFault.{CloseFault}
use Rattle.cluster.specs.declared.closing.CloseFault.TheVariants as faults
use Rattle.cluster.specs.declared.monitor.Monitor.{Monitor}
use Rattle.cluster.specs.declared.pass.Pass.{Pass}
use Rattle.cluster.specs.Asks.{seats_of, sessions_of}
use Rattle.cluster.specs.Sessions.{AreSessionsOf}
use Rattle.cluster.specs.Passes.{Closed}
use Rattle.cluster_locks.specs.Groups.{group_in}

-- Groups and users are the fold of lists which begin with what each pass and the monitor had seen, and which have no entries but theirs, each one's
-- in its order. The map is the monitor's, and the sessions are those of the passes
pub record IsEndOf (c : Cluster) (m : Monitor) (passes : List Pass) (p : WorldParts) : Type 0 where
  pub ended : Ended
  pub closed : Closed c m.seats (map seats_of passes) ended
  pub groups : p.groups.items ≡ map group_in ended.groups.items
  pub users : p.users ≡ ended.users.db
  pub map_is : p.map ≡ m.map
  pub sessions : AreSessionsOf (map sessions_of passes) p.sessions.items

-- all passes are there: as many as were given, and their sessions are numbered from 1 on, with no gap and none twice
pub record AreAll (c : Cluster) (passes : List Pass) : Type 0 where
  pub count : length passes ≡ c.passes
  pub sessions : List Session
  pub numbered : AreSessionsOf (map sessions_of passes) sessions

-- a pass is missing; or none is, and a change of the map is unfinished; or neither is so, and there was no memory
abbrev pub CloseFails : Cluster → Monitor → List Pass → CloseFault → Type 0
CloseFails c m passes faults.MissingPass = AreAll c passes → ⊥
CloseFails c m passes faults.Unfinished = AreAll c passes × IsSome m.unfinished
CloseFails c m passes faults.OutOfMemory = AreAll c passes × IsNone m.unfinished
