use Rattle.std.proofs.Common.{◌||◌, false, ap, ◌∙◌}
use Rattle.serde_json.specs.Written.{has_float}
use Rattle.compare_text.proofs.NoFloats.{of_target_example}
use Rattle.share_text.proofs.tenants.pair_piece.Goals as goal

pub piece_of-requires : goal.piece_of-requires
piece_of-requires c = ap has_float c.in_ok-document.ensures ∙ ap (λ b. b || false) (of_target_example c.args.target.now)
