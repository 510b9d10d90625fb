use Rattle.std.specs.Vec.Iter.{into_iter_items}
use Rattle.std.specs.Prelude.{All}
use Rattle.cluster.specs.Asks.{IsPassOf}
use Rattle.workload.specs.Workers.{AreWorkersOf}
use Rattle.workload.proofs.team.workers_of.Given as goal

abbrev pub invariant-loop-pass : goal.invariant-loop-pass
invariant-loop-pass l = record {
  made : AreWorkersOf l.cluster l.workers.items;
  rest : All (IsPassOf l.cluster) (into_iter_items l.pass-iterator);
}
