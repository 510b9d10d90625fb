use Rattle.std.proofs.Common.{rules}
use Rattle.group_core.proofs.group.Group.call.Goals as goal

pub returns-in-Deliver-clause-steps : goal.returns-in-Deliver-clause-steps
returns-in-Deliver-clause-steps c = search rules

pub returns-in-Lose-clause-steps : goal.returns-in-Lose-clause-steps
returns-in-Lose-clause-steps c = search rules

pub returns-in-Kick-clause-steps : goal.returns-in-Kick-clause-steps
returns-in-Kick-clause-steps c = search rules
