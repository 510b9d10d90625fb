use Rattle.std.proofs.Common.{rules}
use Rattle.compare_core.proofs.question.shows.Goals as goal

pub returns-then-grants_allow : goal.returns-then-grants_allow
returns-then-grants_allow c = search rules
