-- Statement: contracts of public calls use it.
-- The printed form of a fault: this project's profile.
use Rattle.std.specs.Prelude.{ℕ, List, ◌++◌, codes, decimal}
use Rattle.cap_text.specs.declared.fault.CapFault.{CapFault}
use Rattle.cap_grants.specs.declared.fault_kind.FaultKind.{FaultKind}
use Rattle.cap_grants.specs.declared.fault_kind.FaultKind.TheVariants.{TooLong, TooManyGrants, UnknownWord, BadAccess, BadMatch, BadWord, NetworkClause, OutOfMemory}

-- the number and the name of a kind
abbrev pub kind_text : FaultKind → List ℕ
kind_text TooLong = codes "C1 TooLong"
kind_text TooManyGrants = codes "C2 TooManyGrants"
kind_text UnknownWord = codes "C3 UnknownWord"
kind_text BadAccess = codes "C4 BadAccess"
kind_text BadMatch = codes "C5 BadMatch"
kind_text BadWord = codes "C6 BadWord"
kind_text NetworkClause = codes "C7 NetworkClause"
kind_text OutOfMemory = codes "C8 OutOfMemory"

-- these, and the position of the fault
abbrev pub fault_text : CapFault → List ℕ
fault_text fault = kind_text fault.kind ++ (codes " at " ++ decimal fault.at)
