use Rattle.std.proofs.Common.{arith}
use Rattle.std.proofs.lemmas.Grind.{common_steps}
use Rattle.audit_text.proofs.json.pool_pieces.Goals as goal

pub loop-pool-preserved : goal.loop-pool-preserved
loop-pool-preserved c = grind (arith, common_steps)

pub returns : goal.returns
returns c = grind (arith, common_steps)
