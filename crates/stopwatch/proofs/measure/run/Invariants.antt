use Rattle.std.proofs.Common.{◌≤◌}
use Rattle.stopwatch.proofs.measure.run.Given as goal

abbrev pub invariant-loop-turn : goal.invariant-loop-turn
invariant-loop-turn g l = l.yes ≤ l.turn
