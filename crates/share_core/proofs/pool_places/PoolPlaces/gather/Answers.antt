use Rattle.std.proofs.Common.{arith}
use Rattle.std.proofs.lemmas.Grind.{common_steps, elements}
use Rattle.share_core.proofs.pool_places.PoolPlaces.gather.Goals as goal

pub loop-grant-init : goal.loop-grant-init
loop-grant-init c = grind (arith, elements)

pub loop-grant-preserved : goal.loop-grant-preserved
loop-grant-preserved c = grind (arith, common_steps)

pub returns : goal.returns
returns c = grind (arith, common_steps)
