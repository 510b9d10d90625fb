use Rattle.std.proofs.Common.{arith}
use Rattle.std.proofs.lemmas.Grind.{common_steps}
use Rattle.group_messages.proofs.beginnings.count_at.Goals as goal

pub returns-then-kept-member : goal.returns-then-kept-member
returns-then-kept-member c = grind (arith, common_steps)

pub loop-kept-preserved : goal.loop-kept-preserved
loop-kept-preserved c = grind (arith, common_steps)

pub returns : goal.returns
returns c = grind (arith, common_steps)
