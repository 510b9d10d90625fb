use Rattle.std.proofs.Common.{◌≡◌, false}
use Rattle.rights_core.proofs.Sampled.{at_each}
use Rattle.rights_core.proofs.judging.judge_everywhere.Goals as goal

pub returns-in_default-3 : goal.returns-in_default-3
returns-in_default-3 c =
    let same : c.as_slice-samples.result.now ≡ c.in_ok-samples.samples.items = cc in
    let all = rw c.in_default-3.is at c.in_ok-allowed.ensures in
    at_each c.args.rights.now c.args.target.now c.args.needs.now c.args.tick false c.in_ok-samples.samples.items c.in_ok-samples.ensures.samples (rw same at all)
