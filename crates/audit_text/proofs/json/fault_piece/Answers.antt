use Rattle.std.proofs.Common.{◌||◌, false, ap, ◌∙◌}
use Rattle.serde_json.specs.Written.{has_float}
use Rattle.verdict_text.proofs.NoFloats.{of_fault_value}
use Rattle.verdict_text.specs.Reading.{fault_byte, fault_text}
use Rattle.audit_text.proofs.json.fault_piece.Goals as goal

pub piece_of-requires : goal.piece_of-requires
piece_of-requires c = ap has_float c.in_ok-document.ensures ∙ ap (λ b. b || false) (of_fault_value (fault_text c.args.fault) (fault_byte c.args.fault))
