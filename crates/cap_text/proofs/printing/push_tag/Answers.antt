use Rattle.std.proofs.Common.{arith}
use Rattle.std.proofs.lemmas.Grind.{common_steps}
use Rattle.cap_text.proofs.printing.push_tag.Goals as goal

pub returns-in_ok-push_part-2 : goal.returns-in_ok-push_part-2
returns-in_ok-push_part-2 c = grind (arith, common_steps)
