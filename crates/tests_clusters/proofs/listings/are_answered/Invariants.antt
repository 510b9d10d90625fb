use Rattle.cluster.specs.Asks.{IsPassOf}
use Rattle.tests_clusters.proofs.listings.are_answered.Given as goal

abbrev pub invariant-loop-piece : goal.invariant-loop-piece
invariant-loop-piece g l = IsPassOf l.cluster l.pass
