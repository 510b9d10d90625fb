use Rattle.std.proofs.Common.{arith}
use Rattle.std.proofs.lemmas.Grind.{common_steps}
use Rattle.lint_core.proofs.tickets.push_copies.Goals as goal

pub loop-grant-preserved : goal.loop-grant-preserved
loop-grant-preserved c = grind (arith, common_steps)

pub returns : goal.returns
returns c = grind (arith, common_steps)
