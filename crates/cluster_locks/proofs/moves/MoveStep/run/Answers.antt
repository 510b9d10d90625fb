use Rattle.std.proofs.Common.{rules}
use Rattle.cluster_locks.proofs.moves.MoveStep.run.Goals as goal

pub returns-in-NewInterval-clause-keeps : goal.returns-in-NewInterval-clause-keeps
returns-in-NewInterval-clause-keeps c = search rules

pub returns-in-NewInterval-clause-tells : goal.returns-in-NewInterval-clause-tells
returns-in-NewInterval-clause-tells c = search rules

pub returns-in-NewInterval-clause-fits : goal.returns-in-NewInterval-clause-fits
returns-in-NewInterval-clause-fits c = search rules
