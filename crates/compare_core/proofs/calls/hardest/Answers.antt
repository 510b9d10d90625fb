use Rattle.std.proofs.Common.{rules}
use Rattle.compare_core.proofs.calls.hardest.Goals as goal

pub returns-in-All : goal.returns-in-All
returns-in-All c = search rules
