use Rattle.std.proofs.Common.{arith}
use Rattle.std.proofs.lemmas.Grind.{common_steps}
use Rattle.cap_text.proofs.printing.push_others.Goals as goal

pub loop-grant-preserved : goal.loop-grant-preserved
loop-grant-preserved c = grind (arith, common_steps)

pub returns : goal.returns
returns c = grind (arith, common_steps)
