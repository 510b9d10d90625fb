use Rattle.std.proofs.Common.{arith}
use Rattle.std.proofs.lemmas.Grind.{common_steps}
use Rattle.peer_core.proofs.state.State.decide_all.Goals as goal

pub returns-in-0-clause-copy : goal.returns-in-0-clause-copy
returns-in-0-clause-copy c = grind (arith, common_steps)

pub returns-in-0-clause-sent : goal.returns-in-0-clause-sent
returns-in-0-clause-sent c = grind (arith, common_steps)

pub returns-in-1-clause-copy : goal.returns-in-1-clause-copy
returns-in-1-clause-copy c = grind (arith, common_steps)

pub returns-in-1-clause-sent : goal.returns-in-1-clause-sent
returns-in-1-clause-sent c = grind (arith, common_steps)
