use Rattle.cluster.specs.Asks.{IsPassOf}
use Rattle.tests_clusters.proofs.begun.submit.Given as goal

abbrev pub invariant-loop-try : goal.invariant-loop-try
invariant-loop-try g l = IsPassOf l.cluster l.pass
