use Rattle.std.proofs.Common.{option_copied, refl, arith}
use Rattle.rules_text.proofs.Checking.{all_checked, next_checked}
use Rattle.rules_text.proofs.checked.outcomes_of.Goals as goal

pub loop-line-preserved : goal.loop-line-preserved
loop-line-preserved g c =
    next_checked (option_copied c.args.pools) c.args.entities.now c.args.rules.now c.loop-line.line-index c.line-item.result c.loop-line.all.items _ _ (omega arith) c.line-item.is
    c.loop-line.invariant c.in_ok-push.ensures.items (refl, c.in_ok-outcome.ensures)

pub returns : goal.returns
returns g c =
    all_checked (option_copied c.args.pools) c.args.entities.now c.args.rules.now c.loop-line.line-index c.loop-line.all.items c.loop-line-test.false c.loop-line.invariant
