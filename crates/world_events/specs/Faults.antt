-- Statement: contracts of public calls use it.
-- Faults of the lower layers as faults of a world. Out of memory becomes the world's own fault.
use Rattle.auth_db.specs.declared.fault.AuthFault.{AuthFault}
use Rattle.auth_db.specs.declared.fault.AuthFault.TheVariants as auth_fault
use Rattle.map_core.specs.declared.fault.MapFault.{MapFault}
use Rattle.map_core.specs.declared.fault.MapFault.TheVariants as map_fault
use Rattle.object_core.specs.declared.needs.NeedsFault.{NeedsFault}
use Rattle.object_core.specs.declared.needs.NeedsFault.TheVariants as needs_fault
use Rattle.world_events.specs.declared.fault.WorldFault.{WorldFault as Fault}
use Rattle.world_events.specs.declared.fault.WorldFault.TheVariants.{OutOfMemory, Auth as OfUsers, Map as OfMap, Needs as OfNeeds}

-- a fault of the users; out of memory becomes the world's own fault
abbrev pub users_fault : AuthFault → Fault
users_fault auth_fault.OutOfMemory = OutOfMemory
users_fault fault = OfUsers fault

-- a fault of the map; out of memory becomes the world's own fault
abbrev pub fault_of_map : MapFault → Fault
fault_of_map map_fault.OutOfMemory = OutOfMemory
fault_of_map fault = OfMap fault

-- a fault of a vector; out of memory becomes the world's own fault
abbrev pub fault_of_needs : NeedsFault → Fault
fault_of_needs needs_fault.OutOfMemory = OutOfMemory
fault_of_needs fault = OfNeeds fault
