use Rattle.std.proofs.Common.{rules}
use Rattle.cluster_locks.proofs.groups.AnswerOfStep.run.Goals as goal

pub returns-then-not-has-clause-tells : goal.returns-then-not-has-clause-tells
returns-then-not-has-clause-tells c = search rules
