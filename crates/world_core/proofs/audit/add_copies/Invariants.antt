use Rattle.std.proofs.Common.{◌≡◌, ◌++◌, take}
use Rattle.world_core.proofs.audit.add_copies.Given as goal

abbrev pub invariant-loop-entry : goal.invariant-loop-entry
invariant-loop-entry l = l.all ≡ l.initial.all ++ take l.entry-index l.entries
