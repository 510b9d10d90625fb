use Rattle.std.proofs.Common.{arith}
use Rattle.std.proofs.lemmas.Grind.{common_steps}
use Rattle.share_core.proofs.reaching.push_shared.Goals as goal

pub loop-theirs-preserved : goal.loop-theirs-preserved
loop-theirs-preserved c = grind (arith, common_steps)

pub returns : goal.returns
returns c = grind (arith, common_steps)
