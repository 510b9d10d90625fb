use Rattle.std.proofs.Common.{arith}
use Rattle.std.proofs.lemmas.Grind.{common_steps}
use Rattle.audit_text.proofs.csv.push_all_reached.Goals as goal

pub loop-reached-preserved : goal.loop-reached-preserved
loop-reached-preserved c = grind (arith, common_steps)

pub returns : goal.returns
returns c = grind (arith, common_steps)
