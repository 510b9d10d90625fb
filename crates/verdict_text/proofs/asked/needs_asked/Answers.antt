use Rattle.std.proofs.Common.{rules}
use Rattle.verdict_text.proofs.asked.needs_asked.Goals as goal

pub returns-clause-needs : goal.returns-clause-needs
returns-clause-needs c = search rules
