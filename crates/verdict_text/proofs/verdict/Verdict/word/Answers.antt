use Rattle.std.proofs.Common.{rules}
use Rattle.verdict_text.proofs.verdict.Verdict.word.Goals as goal

pub returns-in-Denied : goal.returns-in-Denied
returns-in-Denied c = search rules
