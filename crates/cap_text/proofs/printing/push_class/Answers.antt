use Rattle.std.proofs.Common.{arith}
use Rattle.std.proofs.lemmas.Grind.{common_steps}
use Rattle.cap_text.proofs.printing.push_class.Goals as goal

pub returns-in_ok-push_method : goal.returns-in_ok-push_method
returns-in_ok-push_method c = grind (arith, common_steps)

pub returns-in_default : goal.returns-in_default
returns-in_default c = grind (arith, common_steps)
