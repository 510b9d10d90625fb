use Rattle.std.proofs.Common.{arith}
use Rattle.std.proofs.lemmas.Grind.{common_steps}
use Rattle.compare_text.proofs.call_words.push_stated.Goals as goal

pub returns : goal.returns
returns c = grind (arith, common_steps)
