use Rattle.std.proofs.Common.{rules}
use Rattle.cluster_locks.proofs.beginning.addition.Goals as goal

pub returns : goal.returns
returns c = search rules
