use Rattle.std.proofs.Common.{arith}
use Rattle.std.proofs.lemmas.Grind.{common_steps}
use Rattle.group_core.proofs.effects.begin.Goals as goal

pub returns-clause-wire_ok : goal.returns-clause-wire_ok
returns-clause-wire_ok c = grind (arith, common_steps)
