use Rattle.std.proofs.Common.{arith}
use Rattle.std.proofs.lemmas.Grind.{common_steps}
use Rattle.verdict_core.proofs.judging.quick_has_usable.Goals as goal

pub returns : goal.returns
returns c = grind (arith, common_steps)
