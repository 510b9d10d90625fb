use Rattle.std.proofs.Common.{rules}
use Rattle.verdict_core.proofs.matching.first_failure.Goals as goal

pub returns : goal.returns
returns c = search rules
