use Rattle.std.proofs.Common.{arith}
use Rattle.std.proofs.lemmas.Grind.{common_steps}
use Rattle.verdict_text.proofs.asked.needs_of_named.Goals as goal

pub returns-then-is_empty-clause-needs : goal.returns-then-is_empty-clause-needs
returns-then-is_empty-clause-needs c = grind (arith, common_steps)
