use Rattle.std.proofs.Common.{arith}
use Rattle.std.proofs.lemmas.Grind.{common_steps}
use Rattle.cluster.proofs.cluster.Cluster.turn.Goals as goal

pub returns-clause-seats : goal.returns-clause-seats
returns-clause-seats c = grind (arith, common_steps)

pub returns-clause-turn : goal.returns-clause-turn
returns-clause-turn c = grind (arith, common_steps)
