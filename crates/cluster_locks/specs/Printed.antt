-- Statement: contracts of public calls use it.
-- The printed text of a step's fault: this project's profile.
use Rattle.std.specs.Prelude.{ℕ, List, codes}
use Rattle.auth_db.specs.Printed as auth_text
use Rattle.cluster_locks.specs.declared.groups.AnswerFault.{AnswerFault}
use Rattle.cluster_locks.specs.declared.groups.AnswerFault.TheVariants as answer_fault
use Rattle.cluster_locks.specs.declared.users.OpenFault.{OpenFault}
use Rattle.cluster_locks.specs.declared.users.OpenFault.TheVariants as open_fault

-- a fault's number and its name; one of the users prints itself
abbrev pub open_text : OpenFault → List ℕ
open_text (open_fault.User fault) = auth_text.fault_text fault
open_text open_fault.Limit = codes "W6 Limit"

abbrev pub answer_text : AnswerFault → List ℕ
answer_text answer_fault.NoRequest = codes "W5 NoRequest"
answer_text answer_fault.OutOfMemory = codes "W7 OutOfMemory"
