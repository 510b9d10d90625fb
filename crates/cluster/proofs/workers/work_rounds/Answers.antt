use Rattle.std.proofs.Common.{rules, ◌≤◌, ◌+◌, inl, inr, arith}
use Rattle.cluster.proofs.Rounds.{worked_nothing, worked_through, worked_more}
use Rattle.cluster.proofs.FirstFaults.{done_none, done_more}
use Rattle.cluster.proofs.workers.work_rounds.Goals as goal

pub loop-round-init : goal.loop-round-init
loop-round-init g c = record {
  pass = c.requires;
  worked = worked_nothing c.args.pass.now;
  on = done_none c.args.cluster.now c.args.pass.now;
}

pub returns-then-not-enter-clause-worked : goal.returns-then-not-enter-clause-worked
returns-then-not-enter-clause-worked g c =
    let h = c.loop-round-test.true in
    let far : c.loop-round.round ≤ c.args.rounds = omega arith in
    worked_more c.loop-round.round c.args.rounds c.args.pass.now c.loop-round.pass far c.loop-round.invariant.worked

pub returns-then-not-enter-clause-told : goal.returns-then-not-enter-clause-told
returns-then-not-enter-clause-told g c =
    let h = c.loop-round-test.true in (c.loop-round.round, c.loop-round.invariant.on, inr (omega arith, search rules))

pub returns-in-Err-clause-worked : goal.returns-in-Err-clause-worked
returns-in-Err-clause-worked g c =
    let h = c.loop-round-test.true in
    let far : c.loop-round.round + 1 ≤ c.args.rounds = omega arith in
    worked_more (c.loop-round.round + 1) c.args.rounds c.args.pass.now c.work_round.new.pass far (worked_through c.loop-round.round 1 c.args.pass.now c.loop-round.pass c.work_round.new.pass c.loop-round.invariant.worked c.work_round.ensures.worked)

pub returns-in-Err-clause-told : goal.returns-in-Err-clause-told
returns-in-Err-clause-told g c =
    let h = c.loop-round-test.true in (c.loop-round.round, omega arith, c.loop-round.pass, c.loop-round.invariant.on, c.in-Err.ensures.told)

pub loop-round-preserved : goal.loop-round-preserved
loop-round-preserved g c = record {
  pass = c.work_round.ensures.pass;
  worked = worked_through c.loop-round.round 1 c.args.pass.now c.loop-round.pass c.work_round.new.pass c.loop-round.invariant.worked c.work_round.ensures.worked;
  on = done_more c.args.cluster.now c.loop-round.round c.args.pass.now c.loop-round.pass c.work_round.new.pass c.loop-round.invariant.on c.in-Ok.ensures.told;
}

pub returns-clause-worked : goal.returns-clause-worked
returns-clause-worked g c =
    let h = c.loop-round-test.false in
    worked_more c.loop-round.round c.args.rounds c.args.pass.now c.loop-round.pass (omega arith) c.loop-round.invariant.worked

pub returns-clause-told : goal.returns-clause-told
returns-clause-told g c =
    let h = c.loop-round-test.false in (c.loop-round.round, c.loop-round.invariant.on, inl (omega arith))
