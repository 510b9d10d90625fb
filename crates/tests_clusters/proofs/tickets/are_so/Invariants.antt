use Rattle.cluster.specs.Asks.{IsPassOf}
use Rattle.tests_clusters.proofs.tickets.are_so.Given as goal

abbrev pub invariant-loop-row : goal.invariant-loop-row
invariant-loop-row g l = IsPassOf l.cluster l.pass
