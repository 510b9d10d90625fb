use Rattle.cluster.specs.Asks.{IsPassOf}
use Rattle.tests_clusters.proofs.begun.answered.Given as goal

abbrev pub invariant-loop-delivery : goal.invariant-loop-delivery
invariant-loop-delivery g l = IsPassOf l.cluster l.pass
