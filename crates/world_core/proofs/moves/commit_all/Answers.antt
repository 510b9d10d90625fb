use Rattle.std.proofs.Common.{arith}
use Rattle.std.proofs.lemmas.Grind.{common_steps}
use Rattle.world_core.proofs.moves.commit_all.Goals as goal

pub loop-prepared-preserved : goal.loop-prepared-preserved
loop-prepared-preserved c = grind (arith, common_steps)
