use Rattle.std.proofs.Common.{arith}
use Rattle.std.proofs.lemmas.Grind.{elements}
use Rattle.verdict_core.proofs.chains.Chains.all_tags_give.Goals as goal

pub loop-app-preserved : goal.loop-app-preserved
loop-app-preserved g c = grind (arith, elements)
