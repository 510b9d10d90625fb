-- Statement: contracts of public calls use it.
-- The printed form of a fault: its number, its name, and the line where it has one.
use Rattle.std.specs.Prelude.{ℕ, List, ◌++◌, codes, decimal}
use Rattle.script_text.specs.declared.fault.ScriptFault.{ScriptFault}
use Rattle.script_text.specs.declared.fault.ScriptFault.TheVariants.{Read, TooMuch, BadLine, Write, OutOfMemory}

abbrev pub fault_text : ScriptFault → List ℕ
fault_text Read = codes "S1 Read"
fault_text TooMuch = codes "S2 TooMuch"
fault_text (BadLine line) = codes "S3 BadLine " ++ decimal line
fault_text Write = codes "S4 Write"
fault_text (OutOfMemory line) = codes "S5 OutOfMemory " ++ decimal line
