use Rattle.std.proofs.Common.{◌≡◌, take}
use Rattle.entry_core.proofs.log.copy_entries.Given as goal

abbrev pub invariant-loop-entry : goal.invariant-loop-entry
invariant-loop-entry l = l.all.items ≡ take l.entry-index l.entries
