use Rattle.std.proofs.Common.{◌≡◌}
use Rattle.compare_text.proofs.Addressed.{samples_decide}
use Rattle.compare_text.proofs.widening.samples_of.Goals as goal

pub returns : goal.returns
returns c =
    let same : c.as_slice.result.now ≡ c.push_networks-2.new.list.items = cc in
    samples_decide c.push_networks.new.list.items c.push_networks-2.new.list.items c.args.old.now.grants c.args.new.now.grants _ c.in_ok-push_networks.ensures.has c.in_ok-push_networks-2.ensures.keeps
    c.in_ok-push_networks-2.ensures.has (rw same at c.in_ok-samples.ensures.samples)
