use Rattle.std.proofs.Common.{arith}
use Rattle.std.proofs.lemmas.Grind.{elements}
use Rattle.lint_text.proofs.lines.push_without.Goals as goal

pub returns-then-without : goal.returns-then-without
returns-then-without c = grind (arith, elements)
