-- What a line says, by its words.
use Rattle.std.proofs.Common.{◌≡◌, ℕ, List, Result, Ok, Err, IfOk, length, subst, ◌∙◌}
use Rattle.verdict_text.specs.declared.entity.ReadEntity.{ReadEntity}
use Rattle.verdict_text.specs.declared.reading.Rules.{Rules}
use Rattle.rules_words.specs.Words.{IsCut}
use Rattle.rules_words.specs.declared.naming.Group.{Group}
use Rattle.rules_words.specs.declared.words.CutLine.{CutLine}
use Rattle.rules_text.specs.Grammar.{IsContent}
use Rattle.rules_text.specs.Said.{IsSaid, IsSaidBy}
use Rattle.rules_text.specs.declared.content.SaidLine.{SaidLine}
use Rattle.rules_text.specs.declared.fault.LineFault.{LineFault}

said_of : (by : Rules) (entities : List ReadEntity) (groups : List Group) (cut : CutLine) (line : List ℕ) (read : Result SaidLine LineFault) → cut.text.now ≡ line
    → IsCut line (Ok cut.words.items) → IsSaidBy by entities groups cut read → IsSaid by entities groups line read
said_of by entities groups cut line (Ok said) same is h =
    (h.0 ∙ same, (Ok cut.words.items, is, subst (λ (t : List ℕ). IsContent by entities groups (length t) cut.words.items (Ok said.content)) same h.1))
said_of by entities groups cut line (Err fault) same is h =
    (Ok cut.words.items, is, subst (λ (t : List ℕ). IsContent by entities groups (length t) cut.words.items (Err fault)) same h)

-- a line that was cut into words
pub said_line : {E : Type 0} (by : Rules) (entities : List ReadEntity) (groups : List Group) (cut : CutLine) (line : List ℕ) (result : Result (Result SaidLine LineFault) E)
    → cut.text.now ≡ line → IsCut line (Ok cut.words.items) → IfOk result (λ (r : Result SaidLine LineFault). IsSaidBy by entities groups cut r)
    → IfOk result (λ (r : Result SaidLine LineFault). IsSaid by entities groups line r)
said_line by entities groups cut line (Ok read) same is h = said_of by entities groups cut line read same is h
said_line by entities groups cut line (Err full) same is h = h
