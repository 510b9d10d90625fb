use Rattle.std.proofs.Common.{take}
use Rattle.world_core.proofs.RunsOfEvents.{IsAfter}
use Rattle.world_core.proofs.running.run.Given as goal

abbrev pub invariant-loop-place : goal.invariant-loop-place
invariant-loop-place l = IsAfter l.fn.table l.fn.daemons (take l.place l.events) l.world
