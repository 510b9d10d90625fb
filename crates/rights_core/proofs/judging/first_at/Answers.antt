use Rattle.std.proofs.Common.{◌≡◌, not, take, rules, arith}
use Rattle.std.proofs.lemmas.List.{take_all}
use Rattle.rights_core.proofs.Sampled.{other_verdict, sampled_more}
use Rattle.rights_core.proofs.judging.first_at.Goals as goal

pub loop-sample-preserved : goal.loop-sample-preserved
loop-sample-preserved c =
    let other : c.in_ok-judge_at.field-0 ≡ not c.args.verdict = other_verdict c.in_ok-judge_at.field-0 c.args.verdict c.if-branch-verdict.false in
    sampled_more c.args.rights.now c.args.target.now c.args.needs.now c.args.tick (not c.args.verdict) c.args.samples.now c.loop-sample.sample-index _ c.in_ok-judge_at.field-0 c.loop-sample-test.true (search rules) c.in_ok-judge_at.ensures other c.loop-sample.invariant

pub returns : goal.returns
returns c =
    let all : take c.loop-sample.sample-index c.args.samples.now ≡ c.args.samples.now = take_all c.loop-sample.sample-index c.args.samples.now (omega arith) in
    rw all at c.loop-sample.invariant
