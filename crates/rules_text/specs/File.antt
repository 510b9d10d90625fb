-- Statement: contracts of public calls use it.
-- A file of rules: its rules, or the first line that has a fault (this project's profile). Lines count from 1.
use Rattle.std.specs.Prelude.{ℕ, ◌≡◌, ◌+◌, ◌==◌, nat_lt, nat_le, Bool, true, false, List, [], ◌∷◌, ◌++◌, Option, None, Some, Result, Ok, Err, length, drop, if◌then◌else◌}
use Rattle.std.specs.List.{prefix_len}
use Rattle.script_text.specs.Lines.{script_lines}
use Rattle.verdict_text.specs.declared.entity.ReadEntity.{ReadEntity}
use Rattle.verdict_text.specs.declared.reading.Rules.{Rules}
use Rattle.rules_text.specs.Grammar.{IsLine, at}
use Rattle.rules_words.specs.Words.{is_blank}
use Rattle.rules_text.specs.declared.content.Content.{Content}
use Rattle.rules_text.specs.declared.content.Content.TheVariants.{AGroup, ARule}
use Rattle.rules_text.specs.declared.fault.BadRule.{BadRule}
use Rattle.rules_text.specs.declared.fault.LineFault.{LineFault}
use Rattle.rules_text.specs.declared.fault.RuleFault.{RuleFault}
use Rattle.rules_text.specs.declared.fault.RuleFault.TheVariants.{TooManyLines, TooManyRules}
use Rattle.rules_text.specs.declared.file.RuleLine.{RuleLine}
use Rattle.rules_words.specs.declared.naming.Group.{Group}

-- nothing, or a `#`
abbrev pub begins_note : List ℕ → Bool
begins_note [] = true
begins_note (byte ∷ bytes) = byte == 35

-- a line that says nothing: blanks, and perhaps a `#` and whatever is behind it
abbrev pub is_note : List ℕ → Bool
is_note line = begins_note (drop (prefix_len is_blank line) line)

abbrev pub limit : ℕ → List RuleLine → Option RuleFault
limit number rules = if nat_lt 65536 number then Some TooManyLines else if nat_le 4096 (length rules) then Some TooManyRules else None

abbrev pub bad_rule : ℕ → LineFault → BadRule
bad_rule number why = record { line = number; at = why.at; fault = why.fault }

-- the first of two facts where a test passes, and else the second
abbrev pub ByTest : Bool → Type 0 → Type 0 → Type 0
ByTest true passed failed = passed
ByTest false passed failed = failed

-- what is read of a line, and how it goes on behind these groups and rules
abbrev pub GoesOn : (List Group → List RuleLine → Type 0) → ℕ → List Group → List RuleLine → List ℕ → Result Content LineFault → Result (List RuleLine) BadRule → Type 0
GoesOn next number groups rules line (Err why) result = result ≡ Err (bad_rule number why)
GoesOn next number groups rules line (Ok (AGroup group)) result = next (groups ++ group ∷ []) rules
GoesOn next number groups rules line (Ok (ARule rule)) result = next groups (rules ++ record { line = number; text = line; rule = rule } ∷ [])

-- a line that says something
abbrev pub IsSaying : Rules → List ReadEntity → (List Group → List RuleLine → Type 0) → ℕ → List Group → List RuleLine → List ℕ → Option RuleFault → Result (List RuleLine) BadRule → Type 0
IsSaying by entities next number groups rules line (Some fault) result = result ≡ Err (bad_rule number (at 0 fault))
IsSaying by entities next number groups rules line None result =
    (read : Result Content LineFault) × IsLine by entities groups line read × GoesOn next number groups rules line read result

-- the lines from this number on, behind these groups and rules
abbrev pub AreLines : Rules → List ReadEntity → ℕ → List Group → List RuleLine → List (List ℕ) → Result (List RuleLine) BadRule → Type 0
AreLines by entities number groups rules [] result = result ≡ Ok rules
AreLines by entities number groups rules (line ∷ lines) result =
    ByTest (is_note line) (AreLines by entities (number + 1) groups rules lines result)
    (IsSaying by entities (λ groups rules. AreLines by entities (number + 1) groups rules lines result) number groups rules line (limit number rules) result)

-- the rules of a file, or its first fault
abbrev pub IsFile : Rules → List ReadEntity → List ℕ → Result (List RuleLine) BadRule → Type 0
IsFile by entities text result = AreLines by entities 1 [] [] (script_lines text) result
