-- Refinement: only contracts inside the crate use it.
-- What one line of a script has printed and left.
use Rattle.std.specs.Prelude.{◌≡◌, ◌≤◌, ℕ, List, ◌++◌, Result, Ok, Err, Option}
use Rattle.std.specs.Io.KnownBytes.{Appends, Keeps}
use Rattle.script_text.specs.Streams.{AppendsPart}
use Rattle.script_text.specs.declared.fault.ScriptFault.{ScriptFault}
use Rattle.script_text.specs.declared.fault.ScriptFault.TheVariants as ends
use Rattle.world_core.specs.World.{World}
use Rattle.world_script.specs.declared.command.Command.{Command}
use Rattle.world_script.specs.declared.command.Command.TheVariants.{Osds}
use Rattle.world_script.specs.Script.{Step, Goes, IsBad, IsOther, Machine, Line, after_line, line_step, script_step, RunsOutAt}
use Rattle.script_text.specs.declared.fault.LineFault.{LineFault}
use Rattle.script_text.specs.declared.fault.LineFault.TheVariants.{BadLine, OutOfMemory}

abbrev pub at : ℕ → World → Machine
at tick world = record { world = world; tick = tick }

-- a number of daemons is 1 to 16
abbrev pub HasFewDaemons : Command → Type 0
HasFewDaemons (Osds daemons) = (1 ≤ daemons) × (daemons ≤ 16)
HasFewDaemons command = Unit {0}

-- the line's text was added, and its events happened
abbrev pub Does : Machine → Line → (old new : List ℕ) → Machine → Type 0
Does m l old new after = (new ≡ old ++ l.text) × (after ≡ after_line m l)

-- the step's text was added, and it goes on from here
abbrev pub GoesTo : {S : Type 0} → Step S → (old new : List ℕ) → S → Type 0
GoesTo (Goes text s) old new after = (new ≡ old ++ text) × (after ≡ s)
GoesTo IsBad old new after = ⊥
GoesTo IsOther old new after = ⊥

-- the line is bad, or memory ran out
abbrev pub IsFaultOf : {S : Type 0} → Step S → LineFault → Type 0
IsFaultOf step BadLine = step ≡ IsBad
IsFaultOf step OutOfMemory = Unit {0}

-- what a line has written, and where it goes on
abbrev pub LineWrote : Option Machine → List ℕ → (number : ℕ) → Option Machine → Option (List ℕ) → Option (List ℕ) → Result (Unit {0}) ScriptFault → Type 0
LineWrote before line number after old new (Ok done) = (text : List ℕ) × (line_step script_step before line ≡ Goes text after) × Appends old new text
LineWrote before line number after old new (Err (ends.BadLine n)) = (n ≡ number) × (line_step script_step before line ≡ IsBad) × Keeps old new
LineWrote before line number after old new (Err ends.Write) = (text : List ℕ) × (line_step script_step before line ≡ Goes text after) × AppendsPart old new text
LineWrote before line number after old new (Err (ends.OutOfMemory n)) = (n ≡ number) × Keeps old new
LineWrote before line number after old new (Err ends.Read) = ⊥
LineWrote before line number after old new (Err ends.TooMuch) = ⊥

-- a fault that a line ends with, whose number is at least 1
abbrev pub IsOfLines : ScriptFault → Type 0
IsOfLines (ends.BadLine number) = Unit {0}
IsOfLines (ends.OutOfMemory number) = 1 ≤ number
IsOfLines ends.Write = Unit {0}
IsOfLines ends.Read = ⊥
IsOfLines ends.TooMuch = ⊥

-- memory ran out at a line, if it did
abbrev pub RunsOut : List ℕ → Option (List ℕ) → Option (List ℕ) → ScriptFault → Type 0
RunsOut input old new (ends.OutOfMemory number) = RunsOutAt input old new number
RunsOut input old new (ends.BadLine number) = Unit {0}
RunsOut input old new ends.Write = Unit {0}
RunsOut input old new ends.Read = Unit {0}
RunsOut input old new ends.TooMuch = Unit {0}
