use Rattle.cluster.specs.Asks.{IsPassOf}
use Rattle.tests_memory_clusters.proofs.steps.is_made.Given as goal

abbrev pub invariant-loop-time : goal.invariant-loop-time
invariant-loop-time g l = IsPassOf l.cluster l.pass
