use Rattle.std.proofs.Common.{arith}
use Rattle.std.proofs.lemmas.Grind.{common_steps}
use Rattle.compare_core.proofs.question.shown_needs.Goals as goal

pub loop-needs-preserved : goal.loop-needs-preserved
loop-needs-preserved c = grind (arith, common_steps)

pub returns : goal.returns
returns c = grind (arith, common_steps)
