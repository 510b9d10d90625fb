use Rattle.std.proofs.Common.{arith, ◌≤◌, length, subst, sym}
use Rattle.map_core.proofs.Kept.{pools_are_few}
use Rattle.std.proofs.lemmas.Grind.{common_steps}
use Rattle.world_core.proofs.taking.places.Goals as goal

pub place_for-requires-clause-few : goal.place_for-requires-clause-few
place_for-requires-clause-few c = subst (λ l. length l ≤ 32) (sym c.pools-pools.ensures.value) (pools_are_few c.args.map.now c.epoch-epoch.ensures.accepted)

pub loop-request-preserved : goal.loop-request-preserved
loop-request-preserved c = grind (arith, common_steps)

pub returns : goal.returns
returns c = grind (arith, common_steps)
