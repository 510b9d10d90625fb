use Rattle.std.proofs.Common.{arith}
use Rattle.std.proofs.lemmas.Grind.{elements}
use Rattle.lint_text.proofs.lines.push_reach.Goals as goal

pub returns-then-is_everywhere : goal.returns-then-is_everywhere
returns-then-is_everywhere c = grind (arith, elements)
