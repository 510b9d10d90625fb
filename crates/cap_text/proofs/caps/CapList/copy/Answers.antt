use Rattle.std.proofs.Common.{arith}
use Rattle.std.proofs.lemmas.Grind.{common_steps}
use Rattle.cap_text.proofs.caps.CapList.copy.Goals as goal

pub loop-grant-preserved : goal.loop-grant-preserved
loop-grant-preserved c = grind (arith, common_steps)

pub invariant_of-result : goal.invariant_of-result
invariant_of-result c = grind (arith, common_steps)

pub returns : goal.returns
returns c = grind (arith, common_steps)
