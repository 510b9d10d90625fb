use Rattle.std.proofs.Common.{arith}
use Rattle.std.proofs.lemmas.Grind.{common_steps, elements}
use Rattle.world_core.proofs.taking.take_at.Goals as goal

pub returns-in-Ok-submit-clause-taken : goal.returns-in-Ok-submit-clause-taken
returns-in-Ok-submit-clause-taken c = grind (arith, elements)

pub returns-in-Err-submit-clause-unchanged : goal.returns-in-Err-submit-clause-unchanged
returns-in-Err-submit-clause-unchanged c = grind (arith, common_steps)
