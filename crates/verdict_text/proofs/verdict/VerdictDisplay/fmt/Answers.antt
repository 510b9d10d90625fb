use Rattle.std.proofs.Common.{rules}
use Rattle.verdict_text.proofs.verdict.VerdictDisplay.fmt.Goals as goal

pub returns-in-Denied-clause-writes : goal.returns-in-Denied-clause-writes
returns-in-Denied-clause-writes g c = search rules
