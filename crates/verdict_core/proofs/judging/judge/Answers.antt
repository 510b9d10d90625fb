use Rattle.std.proofs.Common.{rules}
use Rattle.verdict_core.proofs.judging.judge.Goals as goal

pub returns-then-not-is_expired : goal.returns-then-not-is_expired
returns-then-not-is_expired c = search rules
