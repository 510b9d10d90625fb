use Rattle.std.proofs.Common.{rules}
use Rattle.cluster_locks.proofs.users.count_session.Goals as goal

pub returns-clause-counted : goal.returns-clause-counted
returns-clause-counted c = search rules
