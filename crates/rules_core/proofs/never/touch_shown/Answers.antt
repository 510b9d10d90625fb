use Rattle.rules_core.proofs.Touching.{no_giver, shown_touch, some_giver}
use Rattle.rules_core.proofs.never.touch_shown.Goals as goal

pub returns-in-None : goal.returns-in-None
returns-in-None c =
    absurd (no_giver c.args.entity.now.grants c.grants.result.now c.args.target c.args.touch.now c.in_ok-needs.needs c.giver.result c.grants.ensures.grants c.in_ok-needs.ensures c.giver.ensures c.in-None.is
    c.requires.plain c.requires.allowed)

pub returns-in_ok-copy-in-Some : goal.returns-in_ok-copy-in-Some
returns-in_ok-copy-in-Some c =
    shown_touch c.args.entity.now.grants c.args.touch.now c.args.target c.in_ok-needs.needs _ c.in-Some.entry.now.0 c.in_ok-copy-in-Some.ensures c.in_ok-needs.ensures
    (some_giver c.args.entity.now.grants c.grants.result.now c.args.target c.in_ok-needs.needs c.giver.result c.in-Some.entry c.grants.ensures.grants c.giver.ensures c.in-Some.is)
