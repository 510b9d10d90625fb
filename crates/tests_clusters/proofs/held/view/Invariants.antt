use Rattle.cluster.specs.Asks.{IsPassOf}
use Rattle.tests_clusters.proofs.held.view.Given as goal

abbrev pub invariant-loop-try : goal.invariant-loop-try
invariant-loop-try l = IsPassOf l.cluster l.pass
