use Rattle.std.proofs.Common.{rules}
use Rattle.compare_text.proofs.relation.fails_check.Goals as goal

pub returns-then-check : goal.returns-then-check
returns-then-check c = search rules

pub returns-else-check : goal.returns-else-check
returns-else-check c = search rules
