use Rattle.std.proofs.Common.{ap, ◌∙◌}
use Rattle.serde_json.specs.Written.{has_float}
use Rattle.compare_text.proofs.NoFloats.{of_compared}
use Rattle.compare_text.proofs.compare_json.compared_json.Goals as goal

pub json_line-requires : goal.json_line-requires
json_line-requires c = ap has_float c.in_ok-document.ensures ∙ of_compared c.args.relation c.args.change.now.gained.items c.args.change.now.lost.items
