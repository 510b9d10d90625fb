use Rattle.std.proofs.Common.{◌≡◌, not, rules}
use Rattle.rights_core.proofs.Sampled.{other_verdict, sampled_more}
use Rattle.gate_calls.proofs.Sampled.{at_all_of}
use Rattle.gate_calls.proofs.limited.LimitedRights.first_at.Goals as goal

pub loop-sample-preserved : goal.loop-sample-preserved
loop-sample-preserved c =
    let other : c.judge_at.result ≡ not c.args.verdict = other_verdict c.judge_at.result c.args.verdict c.if-judge_at-verdict.false in
    sampled_more c.args.self.now c.args.target.now c.args.needs.now c.args.tick (not c.args.verdict) c.as_slice-samples.result.now c.loop-sample.sample-index _ c.judge_at.result c.loop-sample-test.true (search rules) c.judge_at.ensures other c.loop-sample.invariant

pub returns : goal.returns
returns c =
    at_all_of c.self.inside.rights c.args.self.now c.args.target.now c.args.needs.now c.args.tick (not c.args.verdict) c.self.inside.samples.items c.as_slice-samples.result.now c.loop-sample.sample-index
    c.self.view_is c.as_slice-samples.ensures.value c.self.invariant.2 c.loop-sample-test.false c.loop-sample.invariant
