use Rattle.cluster.specs.Asks.{IsPassOf}
use Rattle.tests_memory_clusters.proofs.listings.standing.Given as goal

abbrev pub invariant-loop-piece : goal.invariant-loop-piece
invariant-loop-piece g l = IsPassOf l.cluster l.pass
