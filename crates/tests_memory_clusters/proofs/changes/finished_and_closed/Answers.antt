use Rattle.std.proofs.Common.{sym, subst, All}
use Rattle.cluster.specs.declared.cluster.Cluster.{Cluster}
use Rattle.cluster.specs.declared.monitor.Monitor.{Monitor}
use Rattle.cluster.specs.Asks.{IsPassOf}
use Rattle.cluster.specs.Monitors.{Follows}
use Rattle.tests_memory_clusters.proofs.changes.finished_and_closed.Goals as goal

pub closed-requires-clause-monitor : goal.closed-requires-clause-monitor
closed-requires-clause-monitor g c =
    let back = c.in-Err-Unfinished-default-default-default in
    let began : Follows back.cluster.start back.monitor =
    subst (λ (m : Monitor). Follows back.cluster.start m) (sym back.ensures.back.1) (subst (λ (x : Cluster). Follows x.start c.args.monitor) (sym back.ensures.back.0) c.requires.monitor.1) in
    (c.finish.ensures.monitor, c.finish.ensures.follows back.cluster.start (c.is_left-stays.ensures.follows back.cluster.start began))

pub closed-requires-clause-passes : goal.closed-requires-clause-passes
closed-requires-clause-passes g c =
    let back = c.in-Err-Unfinished-default-default-default in
    subst (λ v. All (IsPassOf back.cluster) v.items) (sym back.ensures.back.2) (subst (λ (x : Cluster). All (IsPassOf x) c.args.passes.items) (sym back.ensures.back.0) c.requires.passes)
