use Rattle.std.proofs.Common.{length}
use Rattle.log_text.proofs.report.push_grants.Given as goal

abbrev pub decreases-loop-entry : goal.decreases-loop-entry
decreases-loop-entry l = length l.entries
