use Rattle.std.proofs.Common.{◌<◌}
use Rattle.stopwatch.proofs.measure.enough_calls.Given as goal

abbrev pub invariant-loop : goal.invariant-loop
invariant-loop g l = 0 < l.calls
