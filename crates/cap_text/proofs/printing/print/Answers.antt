use Rattle.cap_text.proofs.PrintedGrants.{printed_back}
use Rattle.std.proofs.Common.{arith}
use Rattle.std.proofs.lemmas.Grind.{common_steps}
use Rattle.cap_text.proofs.printing.print.Goals as goal

pub returns-in_err-push_grant-clause-back : goal.returns-in_err-push_grant-clause-back
returns-in_err-push_grant-clause-back c = printed_back c.args.list.now (rw (← c.grants.ensures.value) c.grants.ensures.few) (rw (← c.grants.ensures.value) c.grants.ensures.spellable)

pub returns-in_err-push_others-clause-back : goal.returns-in_err-push_others-clause-back
returns-in_err-push_others-clause-back c = printed_back c.args.list.now (rw (← c.grants.ensures.value) c.grants.ensures.few) (rw (← c.grants.ensures.value) c.grants.ensures.spellable)

pub returns-clause-back : goal.returns-clause-back
returns-clause-back c = printed_back c.args.list.now (rw (← c.grants.ensures.value) c.grants.ensures.few) (rw (← c.grants.ensures.value) c.grants.ensures.spellable)

pub returns-clause-form : goal.returns-clause-form
returns-clause-form c = grind (arith, common_steps)
