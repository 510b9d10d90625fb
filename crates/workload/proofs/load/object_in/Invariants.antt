use Rattle.cluster.specs.Asks.{IsPassOf}
use Rattle.workload.proofs.load.object_in.Given as goal

abbrev pub invariant-loop-number : goal.invariant-loop-number
invariant-loop-number l = IsPassOf l.cluster l.pass
