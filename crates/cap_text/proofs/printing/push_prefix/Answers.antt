use Rattle.std.proofs.Common.{arith}
use Rattle.std.proofs.lemmas.Grind.{common_steps}
use Rattle.cap_text.proofs.printing.push_prefix.Goals as goal

pub returns-in_ok-push_value : goal.returns-in_ok-push_value
returns-in_ok-push_value c = grind (arith, common_steps)
