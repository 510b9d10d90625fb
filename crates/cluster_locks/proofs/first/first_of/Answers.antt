use Rattle.std.proofs.Common.{rules}
use Rattle.cluster_locks.proofs.first.first_of.Goals as goal

pub returns : goal.returns
returns c = search rules
