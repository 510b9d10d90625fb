use Rattle.std.proofs.Common.{arith}
use Rattle.std.proofs.lemmas.Grind.{common_steps}
use Rattle.compare_text.proofs.request_json.tags_value.Goals as goal

pub loop-app-preserved : goal.loop-app-preserved
loop-app-preserved c = grind (arith, common_steps)

pub returns : goal.returns
returns c = grind (arith, common_steps)
