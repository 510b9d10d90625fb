use Rattle.std.proofs.Common.{arith}
use Rattle.std.proofs.lemmas.Grind.{common_steps, elements}
use Rattle.group_wire.proofs.requests.RequestsTryClone.copy.Goals as goal

pub loop-request-preserved : goal.loop-request-preserved
loop-request-preserved c = grind (arith, common_steps)

pub invariant_of-result : goal.invariant_of-result
invariant_of-result c = grind (arith, elements)

pub returns : goal.returns
returns c = grind (arith, common_steps)
