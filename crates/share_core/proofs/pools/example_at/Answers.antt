use Rattle.std.proofs.Common.{Some, sym, subst, arith}
use Rattle.share_core.specs.Sharing.{IsExampleAt}
use Rattle.share_core.proofs.InPools.{at_index, example_of, found_by, none_at, none_more, was_none, was_some}
use Rattle.share_core.proofs.pools.example_at.Goals as goal

pub returns-in-Some : goal.returns-in-Some
returns-in-Some c =
    let mine = c.mine-item.result in
    let found = found_by _ c.args.others.now c.in-Some.theirs.now (was_some c.partner_at.result c.in-Some.theirs c.in-Some.is _ c.partner_at.ensures) in
    subst (λ target. IsExampleAt c.args.pool.now c.args.ones.now c.args.one.now c.args.others.now c.args.other.now (Some target)) (sym c.in_ok-common_in.ensures)
    (example_of c.args.pool.now c.args.ones.now c.args.others.now c.args.one.now c.args.other.now c.loop-mine.mine-index found.0 mine c.in-Some.theirs.now
    (at_index c.args.ones.now c.loop-mine.mine-index mine (omega arith) c.mine-item.is) found.1 found.2)

pub loop-mine-preserved : goal.loop-mine-preserved
loop-mine-preserved c =
    none_more c.args.pool.now c.args.one.now c.args.other.now c.args.ones.now c.args.others.now c.loop-mine.mine-index c.mine-item.result
    (at_index c.args.ones.now c.loop-mine.mine-index c.mine-item.result (omega arith) c.mine-item.is)
    (was_none c.partner_at.result c.in_default.not-Some _ c.partner_at.ensures) c.loop-mine.invariant

pub returns : goal.returns
returns c = none_at c.args.pool.now c.args.one.now c.args.other.now c.args.ones.now c.args.others.now c.loop-mine.mine-index c.loop-mine-test.false c.loop-mine.invariant
