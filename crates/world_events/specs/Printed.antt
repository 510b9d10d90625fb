-- Statement: contracts of public calls use it.
-- The printed text of a fault: this project's profile.
use Rattle.std.specs.Prelude.{ℕ, List, codes}
use Rattle.auth_db.specs.Printed as auth_text
use Rattle.map_core.specs.Printed as map_text
use Rattle.object_core.specs.Faults as needs_text
use Rattle.group_messages.specs.Printed as group_text
use Rattle.world_events.specs.declared.fault.WorldFault.{WorldFault as Fault}
use Rattle.world_events.specs.declared.fault.WorldFault.TheVariants.{NoSession, NoPool, BadObjectName, StaleEpoch, NoRequest, Limit, OutOfMemory, StaleTick, Auth as OfUsers, Map as OfMap, Needs as OfNeeds, Group as OfGroup}

-- a fault's number, its name, and what it carries; those of lower layers print themselves
abbrev pub fault_text : Fault → List ℕ
fault_text NoSession = codes "W1 NoSession"
fault_text NoPool = codes "W2 NoPool"
fault_text BadObjectName = codes "W3 BadObjectName"
fault_text StaleEpoch = codes "W4 StaleEpoch"
fault_text NoRequest = codes "W5 NoRequest"
fault_text Limit = codes "W6 Limit"
fault_text OutOfMemory = codes "W7 OutOfMemory"
fault_text StaleTick = codes "W9 StaleTick"
fault_text (OfUsers fault) = auth_text.fault_text fault
fault_text (OfMap fault) = map_text.fault_text fault
fault_text (OfNeeds fault) = needs_text.text_of fault
fault_text (OfGroup fault) = group_text.fault_text fault
