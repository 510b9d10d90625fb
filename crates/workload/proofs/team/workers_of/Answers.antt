use Rattle.std.specs.Vec.Iter.{into_iter_items}
use Rattle.std.proofs.Common.{◌∷◌, sym, subst}
use Rattle.std.specs.Prelude.{All, None}
use Rattle.std.proofs.lemmas.List.Elements.{All-push, All-head, All-rest, All-same}
use Rattle.cluster.specs.declared.pass.Pass.{Pass}
use Rattle.cluster.specs.Asks.{IsPassOf}
use Rattle.workload.specs.declared.worker.Worker.{Worker}
use Rattle.workload.specs.Workers.{IsWorkerOf}
use Rattle.workload.proofs.team.workers_of.Goals as goal

pub loop-pass-preserved : goal.loop-pass-preserved
loop-pass-preserved c =
    let P : Worker → Type 0 = IsWorkerOf c.args.cluster.now in
    let Q : Pass → Type 0 = IsPassOf c.args.cluster.now in
    let made : Worker = record { pass = c.in-Some.pass; done = 0; fault = None } in
    let next = c.in-Some.ensures.steps.0 in
    let inv = c.loop-pass.invariant in
    let own : Q c.in-Some.pass = All-head Q c.in-Some.pass (into_iter_items c.next.new.self) (All-same Q (c.in-Some.pass ∷ (into_iter_items c.next.new.self)) (into_iter_items c.loop-pass.pass-iterator) (sym next) inv.rest) in record {
      made = subst (All P) (sym c.in_ok-push.ensures.items) (All-push P c.loop-pass.workers.items made inv.made own);
      rest = All-rest Q c.in-Some.pass (into_iter_items c.next.new.self) (into_iter_items c.loop-pass.pass-iterator) next inv.rest;
    }
