use Rattle.std.proofs.Common.{arith}
use Rattle.compare_text.specs.Pairs.{IsReadPairTold}
use Rattle.verdict_text.proofs.EachTold.{next_told, told_whole}
use Rattle.compare_text.proofs.compare_auth.told_pairs.Goals as goal

pub loop-pair-preserved : goal.loop-pair-preserved
loop-pair-preserved c =
    next_told (IsReadPairTold c.args.how) c.args.pairs.now c.loop-pair.pair-index c.pair-item.result _ _ _ _ _ _ (omega arith) c.pair-item.is c.loop-pair.invariant
    c.in_ok-told.ensures c.in_ok-push_told.ensures.text c.in_ok-push_told.ensures.fails

pub returns : goal.returns
returns c = told_whole (IsReadPairTold c.args.how) c.args.pairs.now c.loop-pair.pair-index _ _ c.loop-pair-test.false c.loop-pair.invariant
