use Rattle.cluster_locks.proofs.NoneLeft.{none_left}
use Rattle.cluster_locks.proofs.groups.WorkStep.run.Goals as goal

pub returns-in-Err-NoMessage-clause-tells : goal.returns-in-Err-NoMessage-clause-tells
returns-in-Err-NoMessage-clause-tells c = let g = c.args.placed.now.group in none_left g g.wire c.in-Err-NoMessage.field-0-0 ((rw c.in-Err-NoMessage.field-0-is at c.in-Err-NoMessage.ensures.steps).0)
