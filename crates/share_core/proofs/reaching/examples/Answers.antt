use Rattle.std.proofs.Common.{◌++◌, drop, ap, ◌∙◌, ◌+◌, arith}
use Rattle.std.specs.List.{filter_map}
use Rattle.share_core.specs.Meeting.{example_of}
use Rattle.share_core.specs.Sharing.{pairs}
use Rattle.share_core.proofs.Shares.{one_more}
use Rattle.std.proofs.lemmas.Grind.{common_steps}
use Rattle.share_core.proofs.reaching.examples.Goals as goal

pub loop-mine-preserved : goal.loop-mine-preserved
loop-mine-preserved c =
    ap (λ l. l ++ filter_map (example_of c.args.one.now c.args.other.now) (pairs (drop (c.loop-mine.mine-index + 1) c.args.ones.now) c.args.others.now)) c.in_ok-push_shared.ensures
    ∙ one_more c.args.one.now c.args.other.now c.args.ones.now c.args.others.now c.loop-mine.mine-index c.mine-item.result c.loop-mine.examples.items _ (omega arith) c.mine-item.is c.loop-mine.invariant

pub returns : goal.returns
returns c = grind (arith, common_steps)
