use Rattle.std.proofs.Common.{ap, ◌∙◌}
use Rattle.serde_json.specs.Written.{has_float}
use Rattle.rules_text.proofs.NoFloats.{of_rule}
use Rattle.rules_text.proofs.json.rule_piece.Goals as goal

pub piece_of-requires : goal.piece_of-requires
piece_of-requires c = ap has_float c.in_ok-document.ensures ∙ of_rule c.args.entities.now c.args.one.now
