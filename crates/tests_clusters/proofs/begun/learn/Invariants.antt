use Rattle.cluster.specs.Asks.{IsPassOf}
use Rattle.tests_clusters.proofs.begun.learn.Given as goal

abbrev pub invariant-loop-try : goal.invariant-loop-try
invariant-loop-try l = IsPassOf l.cluster l.pass
