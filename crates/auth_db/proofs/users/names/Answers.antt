use Rattle.auth_db.proofs.Commute.{sorted_names, all_names}
use Rattle.std.proofs.Common.{arith}
use Rattle.std.proofs.lemmas.Grind.{common_steps}
use Rattle.auth_db.proofs.users.names.Goals as goal

pub returns-in_err-new-clause-sorted : goal.returns-in_err-new-clause-sorted
returns-in_err-new-clause-sorted c = sorted_names c.args.users.now.entries c.keys-name-items.ensures.ordered

pub returns-in_err-push-clause-sorted : goal.returns-in_err-push-clause-sorted
returns-in_err-push-clause-sorted c = sorted_names c.args.users.now.entries c.keys-name-items.ensures.ordered

pub returns-clause-names : goal.returns-clause-names
returns-clause-names c = all_names c.loop-name.names.items c.loop-name.name-iterator c.args.users.now.entries c.in-None.ensures.steps.0 c.loop-name.invariant

pub returns-clause-sorted : goal.returns-clause-sorted
returns-clause-sorted c = sorted_names c.args.users.now.entries c.keys-name-items.ensures.ordered

pub loop-name-preserved : goal.loop-name-preserved
loop-name-preserved c = grind (arith, common_steps)
