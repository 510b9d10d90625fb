use Rattle.std.specs.Vec.Iter.{into_iter_items}
use Rattle.std.specs.Prelude.{All}
use Rattle.cluster.specs.Asks.{IsPassOf}
use Rattle.workload.specs.Workers.{AreWorkersOf}
use Rattle.workload.proofs.team.passes_of.Given as goal

abbrev pub invariant-loop-worker : goal.invariant-loop-worker
invariant-loop-worker l = record {
  kept : All (IsPassOf l.cluster) l.passes.items;
  rest : AreWorkersOf l.cluster (into_iter_items l.worker-iterator);
}
