-- Statement: contracts of public calls use it.
-- The printed form of a fault: this project's profile.
use Rattle.std.specs.Prelude.{ℕ, List, codes}
use Rattle.map_core.specs.declared.fault.MapFault.{MapFault}
use Rattle.map_core.specs.declared.fault.MapFault.TheVariants.{PoolExists, NoPool, NoApplication, NoKey, NoDaemon, AlreadySo, Limit, OutOfMemory, BadName, NoGroup, NoEpoch}

-- the fault's number and its name
abbrev pub fault_text : MapFault → List ℕ
fault_text PoolExists = codes "M1 PoolExists"
fault_text NoPool = codes "M2 NoPool"
fault_text NoApplication = codes "M3 NoApplication"
fault_text NoKey = codes "M4 NoKey"
fault_text NoDaemon = codes "M5 NoDaemon"
fault_text AlreadySo = codes "M6 AlreadySo"
fault_text Limit = codes "M7 Limit"
fault_text OutOfMemory = codes "M8 OutOfMemory"
fault_text BadName = codes "M9 BadName"
fault_text NoGroup = codes "M10 NoGroup"
fault_text NoEpoch = codes "M11 NoEpoch"
