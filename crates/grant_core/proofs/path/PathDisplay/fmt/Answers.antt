use Rattle.std.proofs.Common.{arith}
use Rattle.std.proofs.lemmas.Grind.{common_steps}
use Rattle.grant_core.proofs.path.PathDisplay.fmt.Goals as goal

pub loop-number-preserved : goal.loop-number-preserved
loop-number-preserved g c = grind (arith, common_steps)

pub returns-after-loop-number-clause-writes : goal.returns-after-loop-number-clause-writes
returns-after-loop-number-clause-writes g c = grind (arith, common_steps)
