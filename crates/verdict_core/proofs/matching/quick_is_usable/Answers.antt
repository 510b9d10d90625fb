use Rattle.std.proofs.Common.{arith}
use Rattle.std.proofs.lemmas.Grind.{common_steps}
use Rattle.verdict_core.proofs.matching.quick_is_usable.Goals as goal

pub returns-then-not-names : goal.returns-then-not-names
returns-then-not-names g c = grind (arith, common_steps)
