use Rattle.std.proofs.Common.{rules}
use Rattle.cluster.proofs.cluster.Cluster.judge.Goals as goal

pub returns : goal.returns
returns c = search rules
