use Rattle.std.proofs.Common.{arith}
use Rattle.std.proofs.lemmas.Grind.{common_steps}
use Rattle.who_text.proofs.who.push_answer.Goals as goal

pub returns-in_ok-push_str-in-Ok-Denied : goal.returns-in_ok-push_str-in-Ok-Denied
returns-in_ok-push_str-in-Ok-Denied c = grind (arith, common_steps)
