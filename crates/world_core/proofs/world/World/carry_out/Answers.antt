use Rattle.std.proofs.Common.{rules}
use Rattle.world_core.proofs.world.World.carry_out.Goals as goal

pub returns-in-Deliver-clause-applies : goal.returns-in-Deliver-clause-applies
returns-in-Deliver-clause-applies c = search rules

pub returns-in-Lose-clause-applies : goal.returns-in-Lose-clause-applies
returns-in-Lose-clause-applies c = search rules

pub returns-in-Lose-clause-lost : goal.returns-in-Lose-clause-lost
returns-in-Lose-clause-lost c = search rules

pub returns-in-Repeat-clause-applies : goal.returns-in-Repeat-clause-applies
returns-in-Repeat-clause-applies c = search rules

pub returns-in-Kick-clause-applies : goal.returns-in-Kick-clause-applies
returns-in-Kick-clause-applies c = search rules
