use Rattle.std.proofs.Common.{◌≡◌, take}
use Rattle.world_core.specs.Inside.{entries_told}
use Rattle.world_core.proofs.audit.collect.Given as goal

abbrev pub invariant-loop-run : goal.invariant-loop-run
invariant-loop-run l = l.all ≡ entries_told l.groups (take l.run-index l.runs)
