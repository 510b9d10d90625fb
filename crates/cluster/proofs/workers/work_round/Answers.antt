use Rattle.std.proofs.Common.{◌≡◌, ◌<◌, arith, subst}
use Rattle.cluster.specs.Passes.{group_count}
use Rattle.cluster.specs.Workers.{HasDelivered}
use Rattle.cluster.proofs.Moved.{inside_of}
use Rattle.cluster.proofs.Rounds.{come_further, come_nowhere, came}
use Rattle.cluster.proofs.FirstFaults.{delivered_none, delivered_more}
use Rattle.cluster.proofs.workers.work_round.Goals as goal

pub loop-place-init : goal.loop-place-init
loop-place-init g c = record {
  pass = c.requires;
  come = come_nowhere c.args.pass.now;
  on = delivered_none c.args.cluster.now c.args.pass.now;
}

pub returns-in-Err-clause-worked : goal.returns-in-Err-clause-worked
returns-in-Err-clause-worked g c =
    let h = c.loop-place-test.true in
    let inside : c.loop-place.place < group_count c.args.cluster.now = omega arith in
    let w = c.in-Err.ensures.told.0 in
    came _ _ _ (come_further c.args.cluster.now c.loop-place.place c.args.pass.now c.loop-place.pass c.work_one.new.pass w.told (inside_of c.args.cluster.now c.loop-place.pass.seats c.loop-place.place c.loop-place.invariant.pass.seats.0 inside) c.loop-place.invariant.come w.turns)

pub returns-in-Err-clause-told : goal.returns-in-Err-clause-told
returns-in-Err-clause-told g c =
    let h = c.loop-place-test.true in
    let inside : c.loop-place.place < group_count c.args.cluster.now = omega arith in
    (c.loop-place.place, inside, c.loop-place.pass, c.loop-place.invariant.on, c.in-Err.ensures.told.0, c.in-Err.ensures.told.1)

pub loop-place-preserved : goal.loop-place-preserved
loop-place-preserved g c =
    let h = c.loop-place-test.true in
    let inside : c.loop-place.place < group_count c.args.cluster.now = omega arith in
    let told = c.in-Ok.ensures.told in
    let w = told.1 in record {
      pass = c.work_one.ensures.pass;
      come = come_further c.args.cluster.now c.loop-place.place c.args.pass.now c.loop-place.pass c.work_one.new.pass w.told (inside_of c.args.cluster.now c.loop-place.pass.seats c.loop-place.place c.loop-place.invariant.pass.seats.0 inside) c.loop-place.invariant.come w.turns;
      on = delivered_more c.args.cluster.now c.loop-place.place c.args.pass.now c.loop-place.pass c.work_one.new.pass told.0 c.loop-place.invariant.on w told.2;
    }

pub returns-clause-worked : goal.returns-clause-worked
returns-clause-worked g c = came _ _ _ c.loop-place.invariant.come

pub returns-clause-told : goal.returns-clause-told
returns-clause-told g c =
    let all : c.loop-place.place ≡ group_count c.args.cluster.now = let h = c.loop-place-test.false in omega arith in
    subst (λ n. HasDelivered c.args.cluster.now n c.args.pass.now c.loop-place.pass) all c.loop-place.invariant.on
