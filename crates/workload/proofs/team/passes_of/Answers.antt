use Rattle.std.specs.Vec.Iter.{into_iter_items}
use Rattle.std.proofs.Common.{◌∷◌, sym, subst}
use Rattle.std.specs.Prelude.{All}
use Rattle.std.proofs.lemmas.List.Elements.{All-push, All-head, All-rest, All-same}
use Rattle.cluster.specs.declared.pass.Pass.{Pass}
use Rattle.cluster.specs.Asks.{IsPassOf}
use Rattle.workload.specs.declared.worker.Worker.{Worker}
use Rattle.workload.specs.Workers.{IsWorkerOf}
use Rattle.workload.proofs.team.passes_of.Goals as goal

pub loop-worker-preserved : goal.loop-worker-preserved
loop-worker-preserved c =
    let P : Worker → Type 0 = IsWorkerOf c.args.cluster.now in
    let Q : Pass → Type 0 = IsPassOf c.args.cluster.now in
    let next = c.in-Some.ensures.steps.0 in
    let inv = c.loop-worker.invariant in
    let own : P c.in-Some.worker = All-head P c.in-Some.worker (into_iter_items c.next.new.self) (All-same P (c.in-Some.worker ∷ (into_iter_items c.next.new.self)) (into_iter_items c.loop-worker.worker-iterator) (sym next) inv.rest) in record {
      kept = subst (All Q) (sym c.in_ok-push.ensures.items) (All-push Q c.loop-worker.passes.items c.in-Some.worker.pass inv.kept own);
      rest = All-rest P c.in-Some.worker (into_iter_items c.next.new.self) (into_iter_items c.loop-worker.worker-iterator) next inv.rest;
    }
