-- Refinement: only contracts inside the crate use it.
-- Workers, whose passes are of one cluster.
use Rattle.std.specs.Prelude.{List, All}
use Rattle.cluster.specs.declared.cluster.Cluster.{Cluster}
use Rattle.cluster.specs.Asks.{IsPassOf}
use Rattle.workload.specs.declared.worker.Worker.{Worker}

abbrev pub IsWorkerOf : Cluster → Worker → Type 0
IsWorkerOf c w = IsPassOf c w.pass

abbrev pub AreWorkersOf : Cluster → List Worker → Type 0
AreWorkersOf c workers = All (IsWorkerOf c) workers
