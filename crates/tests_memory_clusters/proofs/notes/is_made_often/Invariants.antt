use Rattle.cluster.specs.Asks.{IsPassOf}
use Rattle.cluster.specs.Passes.{AreSeatsOf}
use Rattle.tests_memory_clusters.proofs.notes.is_made_often.Given as goal

abbrev pub invariant-loop-time : goal.invariant-loop-time
invariant-loop-time g l = IsPassOf l.cluster l.pass × AreSeatsOf l.cluster l.seats
