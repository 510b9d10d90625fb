use Rattle.std.proofs.Common.{arith}
use Rattle.std.proofs.lemmas.Grind.{common_steps}
use Rattle.grant_core.proofs.refusal.accepted_size.Goals as goal

pub returns-then-len-ge32-clause-refused : goal.returns-then-len-ge32-clause-refused
returns-then-len-ge32-clause-refused c = grind (arith, common_steps)

pub returns-in-Some-clause-refused : goal.returns-in-Some-clause-refused
returns-in-Some-clause-refused c = grind (arith, common_steps)

pub returns-then-size-gt256-clause-refused : goal.returns-then-size-gt256-clause-refused
returns-then-size-gt256-clause-refused c = grind (arith, common_steps)

pub returns-clause-accepted : goal.returns-clause-accepted
returns-clause-accepted c = grind (arith, common_steps)
