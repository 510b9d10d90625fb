use Rattle.std.proofs.Common.{refl, ap, ◌∙◌, ◌||◌, false}
use Rattle.serde_json.specs.Written.{has_float}
use Rattle.verdict_text.proofs.NoFloats.{each}
use Rattle.audit_text.specs.Json.{cell_document}
use Rattle.audit_text.proofs.json.reached_piece.Goals as goal

pub piece_of-requires : goal.piece_of-requires
piece_of-requires c = ap has_float c.in_ok-document.ensures ∙ ap (λ b. b || false) (each cell_document (λ _. refl) c.args.one.now.cells.items)
