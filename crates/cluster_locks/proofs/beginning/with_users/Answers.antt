use Rattle.std.proofs.Common.{arith}
use Rattle.std.proofs.lemmas.Grind.{common_steps}
use Rattle.cluster_locks.proofs.beginning.with_users.Goals as goal

pub loop-user-preserved : goal.loop-user-preserved
loop-user-preserved c = grind (arith, common_steps)
