use Rattle.std.proofs.Common.{rules}
use Rattle.cluster_locks.proofs.rows.take_in.Goals as goal

pub returns : goal.returns
returns g c = search rules
