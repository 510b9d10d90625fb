-- Refinement: only contracts inside the crate use it.
-- What a line says, with its text.
use Rattle.std.specs.Prelude.{ℕ, ◌≡◌, List, None, Some, Result, Ok, Err, length}
use Rattle.verdict_text.specs.declared.entity.ReadEntity.{ReadEntity}
use Rattle.verdict_text.specs.declared.reading.Rules.{Rules}
use Rattle.rules_text.specs.Grammar.{IsContent, IsLine, IsWho, who_fault}
use Rattle.rules_text.specs.declared.content.SaidLine.{SaidLine}
use Rattle.rules_text.specs.declared.fault.LineFault.{LineFault}
use Rattle.rules_words.specs.declared.naming.Group.{Group}
use Rattle.rules_words.specs.declared.words.CutLine.{CutLine}
use Rattle.rules_words.specs.declared.words.Word.{Word}
use Rattle.rules_core.specs.declared.rule.Who.{Who}

abbrev pub IsSaidBy : Rules → List ReadEntity → List Group → CutLine → Result SaidLine LineFault → Type 0
IsSaidBy by entities groups cut (Ok said) = (said.text ≡ cut.text.now) × IsContent by entities groups (length cut.text.now) cut.words.items (Ok said.content)
IsSaidBy by entities groups cut (Err fault) = IsContent by entities groups (length cut.text.now) cut.words.items (Err fault)

abbrev pub IsSaid : Rules → List ReadEntity → List Group → List ℕ → Result SaidLine LineFault → Type 0
IsSaid by entities groups line (Ok said) = (said.text ≡ line) × IsLine by entities groups line (Ok said.content)
IsSaid by entities groups line (Err fault) = IsLine by entities groups line (Err fault)

abbrev pub IsWhoRead : List Group → ℕ → List Word → Result Who LineFault → Type 0
IsWhoRead groups end words (Ok who) = (who_fault groups end words ≡ None) × IsWho groups words who
IsWhoRead groups end words (Err fault) = who_fault groups end words ≡ Some fault
