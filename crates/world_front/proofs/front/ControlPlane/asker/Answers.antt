use Rattle.std.proofs.Common.{rules}
use Rattle.world_front.proofs.front.ControlPlane.asker.Goals as goal

pub returns-then-ask-session-clause-refused : goal.returns-then-ask-session-clause-refused
returns-then-ask-session-clause-refused c = search rules

pub returns-in_err-view-clause-refused : goal.returns-in_err-view-clause-refused
returns-in_err-view-clause-refused c = search rules

pub returns-clause-asked : goal.returns-clause-asked
returns-clause-asked c = search rules

pub returns-clause-refused : goal.returns-clause-refused
returns-clause-refused c = search rules
