use Rattle.std.proofs.Common.{◌≡◌, true, false, is_some, arith}
use Rattle.rules_core.proofs.NarrowSteps.{IsSilent, lacks_found, lacks_not, silent_region}
use Rattle.rules_core.proofs.SoFar.{all_so_far, one_more}
use Rattle.rules_core.proofs.always.lacking_anywhere.Goals as goal

pub returns-then-is_some : goal.returns-then-is_some
returns-then-is_some c =
    let some : is_some c.in_ok-found.found ≡ true = cc in
    lacks_found c.args.entity.now.grants c.args.region.now c.loop-entry.entry-index c.entry-item.result c.in_ok-found.found (omega arith) c.entry-item.is some c.in_ok-found.ensures

pub loop-entry-preserved : goal.loop-entry-preserved
loop-entry-preserved c =
    let none : is_some c.in_ok-found.found ≡ false = cc in
    one_more (IsSilent c.args.entity.now.grants) c.args.region.now c.loop-entry.entry-index c.entry-item.result (omega arith) c.entry-item.is
    (lacks_not c.args.entity.now.grants c.entry-item.result c.in_ok-found.found none c.in_ok-found.ensures) c.loop-entry.invariant

pub returns : goal.returns
returns c =
    silent_region c.args.entity.now.grants c.args.region.now (all_so_far (IsSilent c.args.entity.now.grants) c.args.region.now c.loop-entry.entry-index (omega arith) c.loop-entry.invariant)
