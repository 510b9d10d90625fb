use borrow.Author.Tests.{tests}
use Rattle.std.proofs.Common.{rules}
use Rattle.cluster_locks.proofs.users.OpenStep.run.Goals as goal

pub returns-in-Ok-clause-keeps : goal.returns-in-Ok-clause-keeps
returns-in-Ok-clause-keeps c = search rules

pub returns-in-Ok-clause-tells : goal.returns-in-Ok-clause-tells
returns-in-Ok-clause-tells c = search (tests, rules)
