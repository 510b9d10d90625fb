-- Statement: contracts of public calls use it.
-- The groups and the rules of the lines so far.
use Rattle.std.specs.Prelude.{ℕ, ◌≡◌, ◌+◌, true, List, [], ◌∷◌, ◌++◌, Option, None, Some, Result, Ok, Err, Vec}
use Rattle.std.specs.declared.alloc.Global.{Global}
use Rattle.script_text.specs.declared.lines.Line.{Line}
use Rattle.verdict_text.specs.declared.entity.ReadEntity.{ReadEntity}
use Rattle.verdict_text.specs.declared.reading.Rules.{Rules}
use Rattle.rules_text.specs.File.{AreLines, IsFile}
use Rattle.rules_text.specs.declared.content.Content.{Content}
use Rattle.rules_text.specs.declared.content.Content.TheVariants.{AGroup, ARule}
use Rattle.rules_text.specs.declared.content.SaidLine.{SaidLine}
use Rattle.rules_text.specs.declared.fault.BadRule.{BadRule}
use Rattle.rules_text.specs.declared.file.Contents.{Contents}
use Rattle.rules_text.specs.declared.file.RuleLine.{RuleLine}

abbrev pub AddsContent : ℕ → List ℕ → Content → Contents → Contents → Type 0
AddsContent number text (AGroup group) old new = (new.groups.items ≡ old.groups.items ++ group ∷ []) × (new.rules.items ≡ old.rules.items)
AddsContent number text (ARule rule) old new =
    (new.groups.items ≡ old.groups.items) × (new.rules.items ≡ old.rules.items ++ record { line = number; text = text; rule = rule } ∷ [])

-- what a line says is added
abbrev pub Adds : ℕ → SaidLine → Contents → Contents → Type 0
Adds number said old new = AddsContent number said.text said.content old new

-- whatever the other lines give completes this one
abbrev pub IsNext : Rules → List ReadEntity → Line → Contents → Contents → Option BadRule → Type 0
IsNext by entities line old new None =
    (lines : List (List ℕ)) (result : Result (List RuleLine) BadRule) → AreLines by entities (line.number + 1) new.groups.items new.rules.items lines result
    → AreLines by entities line.number old.groups.items old.rules.items (line.text.now ∷ lines) result
IsNext by entities line old new (Some bad) =
    (lines : List (List ℕ)) → AreLines by entities line.number old.groups.items old.rules.items (line.text.now ∷ lines) (Err bad)

abbrev pub IsRead : Rules → List ReadEntity → List ℕ → Result (Vec RuleLine Global) BadRule → Type 0
IsRead by entities text (Ok rules) = IsFile by entities text (Ok rules.items)
IsRead by entities text (Err bad) = IsFile by entities text (Err bad)
