use Rattle.std.proofs.Common.{ap, ◌∙◌}
use Rattle.serde_json.specs.Written.{has_float}
use Rattle.verdict_text.proofs.NoFloats.{of_entity}
use Rattle.verdict_text.proofs.document.entity_piece.Goals as goal

pub piece_of-requires : goal.piece_of-requires
piece_of-requires c = ap has_float c.in_ok-document.ensures ∙ of_entity c.args.name.now c.args.answer.now
