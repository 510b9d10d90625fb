-- What a ledger has of one line more, and of several.
use Rattle.std.proofs.Common.{◌≡◌, List, [], ◌∷◌, ◌++◌, refl, sym, ap, ◌∙◌, append_assoc, append-nil}
use Rattle.std.specs.Option.{option_to_list}
use Rattle.log_core.specs.declared.line.Line.{Line}
use Rattle.log_core.specs.declared.request.Request.{Request}
use Rattle.log_core.specs.Ledger.{behind, new_at, new_from}

pub behind_push : (before lines : List Line) (line : Line) → behind before (lines ++ line ∷ []) ≡ line ∷ behind before lines
behind_push before [] line = refl
behind_push before (first ∷ lines) line = behind_push (first ∷ before) lines line

pub new_push : (before lines : List Line) (line : Line) → new_from before (lines ++ line ∷ []) ≡ new_from before lines ++ option_to_list (new_at (behind before lines) line)
new_push before [] line = append-nil (option_to_list (new_at before line))
new_push before (first ∷ lines) line =
    ap (λ (rest : List Request). option_to_list (new_at before first) ++ rest) (new_push (first ∷ before) lines line)
    ∙ sym (append_assoc (option_to_list (new_at before first)) (new_from (first ∷ before) lines) (option_to_list (new_at (behind (first ∷ before) lines) line)))
