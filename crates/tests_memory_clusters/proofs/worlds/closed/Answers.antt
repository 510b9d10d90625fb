use Rattle.std.proofs.Common.{sym, subst, All}
use Rattle.cluster.specs.declared.cluster.Cluster.{Cluster}
use Rattle.cluster.specs.Asks.{IsPassOf}
use Rattle.tests_memory_clusters.proofs.worlds.closed.Goals as goal

pub close_once-requires-clause-passes : goal.close_once-requires-clause-passes
close_once-requires-clause-passes g c =
    let back = c.in-Err in
    subst (λ v. All (IsPassOf back.cluster) v.items) (sym back.ensures.back.2) (subst (λ (x : Cluster). All (IsPassOf x) c.args.passes.items) (sym back.ensures.back.0) c.requires.passes)
