use Rattle.std.proofs.Common.{ap, ◌∙◌}
use Rattle.serde_json.specs.Written.{has_float}
use Rattle.verdict_text.proofs.NoFloats.{of_denied}
use Rattle.verdict_text.proofs.reasons_json.denied_json.Goals as goal

pub json_line-requires : goal.json_line-requires
json_line-requires c = ap has_float c.in_ok-document.ensures ∙ of_denied c.args.rules c.args.reasons.now
