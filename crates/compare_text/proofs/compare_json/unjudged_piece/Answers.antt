use Rattle.std.proofs.Common.{ap, ◌∙◌}
use Rattle.serde_json.specs.Written.{has_float}
use Rattle.compare_text.proofs.NoFloats.{of_unjudged}
use Rattle.compare_text.proofs.compare_json.unjudged_piece.Goals as goal

pub piece_of-requires : goal.piece_of-requires
piece_of-requires c = ap has_float c.in_ok-document.ensures ∙ of_unjudged c.args.name.now c.args.presence c.args.fault
