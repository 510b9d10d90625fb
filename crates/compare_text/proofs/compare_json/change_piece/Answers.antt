use Rattle.std.proofs.Common.{ap, ◌∙◌}
use Rattle.serde_json.specs.Written.{has_float}
use Rattle.compare_text.proofs.NoFloats.{of_change}
use Rattle.compare_text.proofs.compare_json.change_piece.Goals as goal

pub piece_of-requires : goal.piece_of-requires
piece_of-requires c = ap has_float c.in_ok-document.ensures ∙ of_change c.args.name.now c.args.word.now c.args.change.now.gained.items c.args.change.now.lost.items
