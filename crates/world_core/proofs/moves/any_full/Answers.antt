use Rattle.std.proofs.Common.{arith}
use Rattle.std.proofs.lemmas.Grind.{common_steps}
use Rattle.world_core.proofs.moves.any_full.Goals as goal

pub is_full-requires-clause-present : goal.is_full-requires-clause-present
is_full-requires-clause-present c = grind (arith, common_steps)

pub returns-then-is_full : goal.returns-then-is_full
returns-then-is_full c = grind (arith, common_steps)

pub loop-group-preserved : goal.loop-group-preserved
loop-group-preserved c = grind (arith, common_steps)

pub returns : goal.returns
returns c = grind (arith, common_steps)
