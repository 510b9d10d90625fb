use Rattle.std.proofs.Common.{arith}
use Rattle.std.proofs.lemmas.Grind.{common_steps}
use Rattle.share_core.proofs.pools.example_in.Goals as goal

pub loop-pool-preserved : goal.loop-pool-preserved
loop-pool-preserved c = grind (arith, common_steps)

pub returns-then-is_some : goal.returns-then-is_some
returns-then-is_some c = grind (arith, common_steps)

pub returns : goal.returns
returns c = grind (arith, common_steps)
