use Rattle.cluster.specs.Asks.{IsPassOf}
use Rattle.workload.proofs.worker.ask_as.Given as goal

abbrev pub invariant-loop-time : goal.invariant-loop-time
invariant-loop-time g l = IsPassOf l.cluster l.pass
