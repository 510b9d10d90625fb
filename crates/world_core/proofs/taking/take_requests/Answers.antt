use Rattle.std.proofs.Common.{arith}
use Rattle.std.proofs.lemmas.Grind.{common_steps, elements}
use Rattle.world_core.proofs.taking.take_requests.Goals as goal

pub is_one_full-requires : goal.is_one_full-requires
is_one_full-requires c = grind (arith, elements)

pub submit_all-requires-clause-there : goal.submit_all-requires-clause-there
submit_all-requires-clause-there c = grind (arith, common_steps)

pub submit_all-requires-clause-same : goal.submit_all-requires-clause-same
submit_all-requires-clause-same c = grind (arith, common_steps)
