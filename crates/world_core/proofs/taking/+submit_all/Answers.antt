use Rattle.std.proofs.Common.{arith}
use Rattle.std.proofs.lemmas.Grind.{common_steps, elements}
use Rattle.world_core.proofs.taking.+submit_all.Goals as goal

pub returns-then-is_empty-clause-taken : goal.returns-then-is_empty-clause-taken
returns-then-is_empty-clause-taken c = grind (arith, common_steps)

pub take_at-requires : goal.take_at-requires
take_at-requires c = grind (arith, common_steps)

pub submit_all-requires : goal.submit_all-requires
submit_all-requires c = grind (arith, elements)

pub returns-in-Ok-submit_all-clause-taken : goal.returns-in-Ok-submit_all-clause-taken
returns-in-Ok-submit_all-clause-taken c = grind (arith, common_steps)
