use Rattle.std.proofs.Common.{subst, arith}
use Rattle.group_model.specs.Reached.{IsReached}
use Rattle.group_core.proofs.Reached.{decided_few}
use Rattle.std.proofs.lemmas.Grind.{common_steps}
use Rattle.group_core.proofs.group.Group.audit.Goals as goal

pub returns-in_err-copy-clause-few : goal.returns-in_err-copy-clause-few
returns-in_err-copy-clause-few c = decided_few c.args.self.now (subst IsReached c.self.view_is c.self.invariant.reached)

pub returns-in_err-push-clause-few : goal.returns-in_err-push-clause-few
returns-in_err-push-clause-few c = decided_few c.args.self.now (subst IsReached c.self.view_is c.self.invariant.reached)

pub returns-clause-few : goal.returns-clause-few
returns-clause-few c = decided_few c.args.self.now (subst IsReached c.self.view_is c.self.invariant.reached)

pub returns-clause-items : goal.returns-clause-items
returns-clause-items c = grind (arith, common_steps)

pub loop-entry-preserved : goal.loop-entry-preserved
loop-entry-preserved c = grind (arith, common_steps)
