-- Statement: contracts of public calls use it.
-- What a cluster begins with, as events of a world.
use Rattle.std.specs.Prelude.{List, ◌++◌, map}
use Rattle.map_core.specs.declared.command.MapCommand.TheVariants.{PoolCreate}
use Rattle.world_events.specs.declared.event.AuthCommand.TheVariants.{Add}
use Rattle.world_events.specs.declared.event.Event.{Event}
use Rattle.world_events.specs.declared.event.Event.TheVariants.{Auth, Map}
use Rattle.cluster_locks.specs.declared.beginning.PoolSpec.{PoolSpec}
use Rattle.cluster_locks.specs.declared.beginning.UserSpec.{UserSpec}

abbrev pub creation_of : PoolSpec → Event
creation_of p = Map (PoolCreate p.name p.pg_num p.size p.min_size)

abbrev pub addition_of : UserSpec → Event
addition_of u = Auth (Add u.name u.caps)

-- the pools in order, and then the users
abbrev pub events_of : List PoolSpec → List UserSpec → List Event
events_of pools users = map creation_of pools ++ map addition_of users
