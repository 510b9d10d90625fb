use Rattle.std.proofs.Common.{ap, ◌∙◌}
use Rattle.serde_json.specs.Written.{has_float}
use Rattle.verdict_text.proofs.NoFloats.{of_row}
use Rattle.verdict_text.proofs.document.row_piece.Goals as goal

pub piece_of-requires : goal.piece_of-requires
piece_of-requires c = ap has_float c.in_ok-document.ensures ∙ of_row c.args.name.now c.args.answers.now
