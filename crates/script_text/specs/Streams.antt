-- Statement: contracts of public calls use it.
-- What a script is read from, and what it is written to.
use Rattle.std.specs.Prelude.{◌≡◌, ℕ, ◌<◌, ◌≤◌, List, ◌++◌, Option, IfSome, Result, Ok, Err, OnOk, IfErr, length}
use Rattle.std.specs.Io.KnownBytes.{Appends, Keeps}
use Rattle.script_text.specs.declared.fault.ScriptFault.{ScriptFault}
use Rattle.script_text.specs.declared.fault.ScriptFault.TheVariants as fault
use Rattle.script_text.specs.declared.fault.LineFault.{LineFault}
use Rattle.script_text.specs.declared.fault.LineFault.TheVariants as line_fault

-- a script has a mebibyte at most
abbrev pub fits : List ℕ → Type 0
fits input = length input ≤ 1048576

-- why an input was not read: the reader failed, or it has more than a script may have, or there was no memory
abbrev pub IsUnread : Option (List ℕ) → ScriptFault → Type 0
IsUnread remaining fault.Read = Unit {0}
IsUnread remaining fault.TooMuch = IfSome remaining (λ bytes. 1048576 < length bytes)
IsUnread remaining (fault.OutOfMemory line) = line ≡ 0
IsUnread remaining fault.Write = ⊥
IsUnread remaining (fault.BadLine line) = ⊥

-- a beginning of a text was written
abbrev pub AppendsPart : Option (List ℕ) → Option (List ℕ) → List ℕ → Type 0
AppendsPart old new text = (part : List ℕ) × ((more : List ℕ) × (part ++ more ≡ text)) × Appends old new part

-- a line of this number has printed its text, or the script ends there and nothing was written
abbrev pub EndsLine : Result (Unit {0}) LineFault → (number : ℕ) → (text : List ℕ) → Option (List ℕ) → Option (List ℕ) → Result (Unit {0}) ScriptFault → Type 0
EndsLine (Ok done) number text old new result = OnOk result (Appends old new text) × AppendsPart old new text × IfErr result (λ why. why ≡ fault.Write)
EndsLine (Err line_fault.BadLine) number text old new result = (result ≡ Err (fault.BadLine number)) × Keeps old new
EndsLine (Err line_fault.OutOfMemory) number text old new result = (result ≡ Err (fault.OutOfMemory number)) × Keeps old new
