use Rattle.std.proofs.Common.{arith}
use Rattle.std.proofs.lemmas.Grind.{common_steps}
use Rattle.cluster.proofs.cluster.Cluster.split_off.Goals as goal

pub returns-in_err-groups-clause-same : goal.returns-in_err-groups-clause-same
returns-in_err-groups-clause-same c = grind (arith, common_steps)

pub returns-clause-same : goal.returns-clause-same
returns-clause-same c = grind (arith, common_steps)
