use Rattle.std.proofs.Common.{rules}
use Rattle.cluster_locks.proofs.users.ChangeStep.run.Goals as goal

pub returns-in-Some-clause-keeps : goal.returns-in-Some-clause-keeps
returns-in-Some-clause-keeps c = search rules

pub returns-in-Some-clause-tells : goal.returns-in-Some-clause-tells
returns-in-Some-clause-tells c = search rules
