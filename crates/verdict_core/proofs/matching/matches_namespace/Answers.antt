use Rattle.std.proofs.Common.{rules}
use Rattle.verdict_core.proofs.matching.matches_namespace.Goals as goal

pub returns-in-Some-Exact : goal.returns-in-Some-Exact
returns-in-Some-Exact c = search rules
