use Rattle.cluster.specs.Asks.{IsPassOf}
use Rattle.workload.proofs.load.view_often.Given as goal

abbrev pub invariant-loop-time : goal.invariant-loop-time
invariant-loop-time l = IsPassOf l.cluster l.pass
