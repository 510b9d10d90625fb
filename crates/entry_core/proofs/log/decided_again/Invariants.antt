use Rattle.std.proofs.Common.{◌≡◌, take}
use Rattle.entry_core.proofs.log.decided_again.Given as goal

abbrev pub invariant-loop-entry : goal.invariant-loop-entry
invariant-loop-entry l = l.log ≡ take l.entry-index l.entries
