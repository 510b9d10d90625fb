use Rattle.std.proofs.Common.{arith}
use Rattle.compare_text.specs.Pairs.{IsOldPair}
use Rattle.compare_text.proofs.PairsTold.{found_whole, next_found}
use Rattle.compare_text.proofs.pairs.old_pairs.Goals as goal

pub loop-entity-preserved : goal.loop-entity-preserved
loop-entity-preserved c =
    next_found (IsOldPair c.args.reader.now c.args.new.now) c.args.old.now c.loop-entity.entity-index c.entity-item.result _ _ _ (omega arith) c.entity-item.is c.loop-entity.invariant
    c.in_ok-found.ensures c.in_ok-push_found.ensures

pub returns : goal.returns
returns c = found_whole (IsOldPair c.args.reader.now c.args.new.now) c.args.old.now c.loop-entity.entity-index _ c.loop-entity-test.false c.loop-entity.invariant
