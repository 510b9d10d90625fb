use Rattle.std.proofs.Common.{rules}
use Rattle.verdict_core.proofs.matching.covers.Goals as goal

pub returns-then-not-call-2 : goal.returns-then-not-call-2
returns-then-not-call-2 c = search rules

pub returns-else-not-call-2 : goal.returns-else-not-call-2
returns-else-not-call-2 c = search rules
