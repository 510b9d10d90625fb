use Rattle.std.proofs.Common.{arith}
use Rattle.std.proofs.lemmas.Grind.{elements}
use Rattle.cluster_locks.proofs.opening.empty_rows.Goals as goal

pub loop-made-preserved : goal.loop-made-preserved
loop-made-preserved c = grind (arith, elements)
