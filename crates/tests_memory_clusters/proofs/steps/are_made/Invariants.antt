use Rattle.cluster.specs.Asks.{IsPassOf}
use Rattle.tests_memory_clusters.proofs.steps.are_made.Given as goal

abbrev pub invariant-loop-row : goal.invariant-loop-row
invariant-loop-row g l = IsPassOf l.cluster l.pass
