-- Statement: contracts of public calls use it.
-- The printed form of a fault: this project's profile.
use Rattle.std.specs.Prelude.{ℕ, List, ◌++◌, codes}
use Rattle.cap_text.specs.FaultText as caps_text
use Rattle.grant_core.specs.Text as profile_text
use Rattle.auth_db.specs.declared.fault.AuthFault.{AuthFault}
use Rattle.auth_db.specs.declared.fault.AuthFault.TheVariants.{BadName, Exists, NoEntity, CapsDiffer, BadCaps, BadProfile, OutOfMemory, Limit}

-- the fault's number, and its name or what it carries
abbrev pub fault_text : AuthFault → List ℕ
fault_text BadName = codes "A1 BadName"
fault_text Exists = codes "A2 Exists"
fault_text NoEntity = codes "A3 NoEntity"
fault_text CapsDiffer = codes "A4 CapsDiffer"
fault_text (BadCaps fault) = codes "A5 " ++ caps_text.fault_text fault
fault_text (BadProfile fault) = codes "A6 " ++ profile_text.fault_text fault
fault_text OutOfMemory = codes "A7 OutOfMemory"
fault_text Limit = codes "A8 Limit"
