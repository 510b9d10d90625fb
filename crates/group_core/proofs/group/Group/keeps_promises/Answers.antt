use Rattle.std.proofs.Common.{subst}
use Rattle.group_model.specs.Reached.{IsReached}
use Rattle.group_core.proofs.Reached.{reached_legal}
use Rattle.group_core.proofs.Asked.{reached_asked}
use Rattle.group_model.proofs.Twins.{reached_replicated}
use Rattle.group_core.proofs.Promises.{reached_answers, reached_sane, reached_fitting, reached_room, reached_intervals, reached_once}
use Rattle.group_core.proofs.group.Group.keeps_promises.Goals as goal

pub returns-clause-legal : goal.returns-clause-legal
returns-clause-legal c = reached_legal c.args.self.now (subst IsReached c.self.view_is c.self.invariant.reached)

pub returns-clause-replicated : goal.returns-clause-replicated
returns-clause-replicated c = reached_replicated c.args.self.now (subst IsReached c.self.view_is c.self.invariant.reached)

pub returns-clause-answered : goal.returns-clause-answered
returns-clause-answered c = reached_answers c.args.self.now (subst IsReached c.self.view_is c.self.invariant.reached)

pub returns-clause-asked : goal.returns-clause-asked
returns-clause-asked c = reached_asked c.args.self.now (subst IsReached c.self.view_is c.self.invariant.reached)

pub returns-clause-sane : goal.returns-clause-sane
returns-clause-sane c = reached_sane c.args.self.now (subst IsReached c.self.view_is c.self.invariant.reached)

pub returns-clause-fits : goal.returns-clause-fits
returns-clause-fits c = reached_fitting c.args.self.now (subst IsReached c.self.view_is c.self.invariant.reached)

pub returns-clause-requests : goal.returns-clause-requests
returns-clause-requests c = reached_room c.args.self.now (subst IsReached c.self.view_is c.self.invariant.reached)

pub returns-clause-intervals : goal.returns-clause-intervals
returns-clause-intervals c = reached_intervals c.args.self.now (subst IsReached c.self.view_is c.self.invariant.reached)

pub returns-clause-once : goal.returns-clause-once
returns-clause-once c = reached_once c.args.self.now (subst IsReached c.self.view_is c.self.invariant.reached)
