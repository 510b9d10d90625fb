use Rattle.std.proofs.Common.{option_copied}
use Rattle.rules_core.proofs.CrossingSteps.{never_met}
use Rattle.rules_core.proofs.never.may_meet.Goals as goal

pub returns-else-meet : goal.returns-else-meet
returns-else-meet c = λ none. never_met (option_copied c.args.pools) c.args.region.now.grants c.args.entity.now.grants (c.meet.ensures c.if-meet.false) (c.meet-else-meet.ensures none)
