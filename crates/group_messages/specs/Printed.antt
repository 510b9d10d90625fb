-- Statement: contracts of public calls use it.
-- The printed form of a fault: this project's profile.
use Rattle.std.specs.Prelude.{ℕ, List, ◌++◌, codes, decimal, Bool, true, false}
use Rattle.group_messages.specs.declared.fault.GroupFault.{GroupFault}
use Rattle.group_messages.specs.declared.fault.GroupFault.TheVariants.{NoMessage, Unreachable, Full, OutOfMemory, Doubled}

-- the fault's number, its name, and the place that it carries
abbrev pub fault_text : GroupFault → List ℕ
fault_text (NoMessage place) = codes "P1 NoMessage " ++ decimal place
fault_text Unreachable = codes "P2 Unreachable"
fault_text Full = codes "P3 Full"
fault_text OutOfMemory = codes "P4 OutOfMemory"
fault_text Doubled = codes "P5 Doubled"

-- a message was dropped since its addressee is down
abbrev pub is_drop : GroupFault → Bool
is_drop Unreachable = true
is_drop (NoMessage place) = false
is_drop Full = false
is_drop OutOfMemory = false
is_drop Doubled = false
