use Rattle.std.proofs.Common.{ap, ◌∙◌}
use Rattle.serde_json.specs.Written.{has_float}
use Rattle.compare_text.proofs.NoFloats.{of_side}
use Rattle.compare_text.proofs.compare_json.side_json.Goals as goal

pub json_line-requires : goal.json_line-requires
json_line-requires c = ap has_float c.in_ok-document.ensures ∙ of_side c.args.side.now c.args.fault
