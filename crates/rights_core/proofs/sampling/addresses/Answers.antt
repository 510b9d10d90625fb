use Rattle.std.proofs.Common.{◌≡◌, arith}
use Rattle.rights_core.proofs.Given.{all_decided, rights_more}
use Rattle.rights_core.proofs.sampling.addresses.Goals as goal

pub loop-rights-preserved : goal.loop-rights-preserved
loop-rights-preserved c =
    let now = c.in_ok-push_networks.ensures in
    rights_more c.args.all.now c.loop-rights.rights-index c.rights-item.result c.loop-rights.networks.items c.push_networks.new.list.items c.loop-rights-test.true c.rights-item.is now.keeps now.has c.loop-rights.invariant

pub returns-clause-samples : goal.returns-clause-samples
returns-clause-samples c =
    let same : c.as_slice.result.now ≡ c.loop-rights.networks.items = cc in
    all_decided c.loop-rights.networks.items c.as_slice.result.now _ c.args.all.now c.loop-rights.rights-index (omega arith) same c.in_ok-samples.ensures.samples c.loop-rights.invariant
