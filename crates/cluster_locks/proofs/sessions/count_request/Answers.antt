use Rattle.std.proofs.Common.{rules}
use Rattle.cluster_locks.proofs.sessions.count_request.Goals as goal

pub returns : goal.returns
returns c = search rules
