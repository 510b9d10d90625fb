-- What a look at the published map tells a pass.
use Rattle.std.proofs.Common.{subst}
use Rattle.std.specs.Prelude.{Option, Result, Ok, Err}
use Rattle.map_core.specs.State.{History}
use Rattle.cluster.specs.declared.fault.ClusterFault.{ClusterFault}
use Rattle.cluster.specs.declared.fault.ClusterFault.TheVariants as faults
use Rattle.published_map.specs.declared.published.Knowledge.{Knowledge}
use Rattle.published_map.specs.Published.{Covers, KnowsAll}
use Rattle.cluster.specs.Views.{LooksBy}
use Rattle.published_map.proofs.Knowing.{sees_more}

module _ {T : Type 0} (refusal : History → Option ClusterFault) (P : History → T → Type 0) (v w : Knowledge) where
  pub looks_more : (answer : Result T ClusterFault) → LooksBy refusal P v w answer → KnowsAll w v
  looks_more (Ok x) h = sees_more h.0 v w h.1
  looks_more (Err faults.NoReader) h = record { covers = λ m k. subst (Covers m) h k }
  looks_more (Err (faults.World f)) h = sees_more h.0 v w h.1
  looks_more (Err (faults.Unfinished k)) h = sees_more h.0 v w h.1
  looks_more (Err faults.NoThread) h = sees_more h.0 v w h.1
  looks_more (Err faults.OutOfMemory) h = sees_more h.0 v w h.1
