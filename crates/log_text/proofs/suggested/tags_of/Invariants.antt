use Rattle.std.proofs.Common.{length}
use Rattle.log_text.proofs.suggested.tags_of.Given as goal

abbrev pub decreases-loop-entry : goal.decreases-loop-entry
decreases-loop-entry l = length l.entries
