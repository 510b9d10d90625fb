use Rattle.group_model_whole.proofs.Sets.{set_is}
use Rattle.group_core.proofs.moves.other_set.Goals as goal

pub returns-then-same_set-clause-fits : goal.returns-then-same_set-clause-fits
returns-then-same_set-clause-fits c = set_is c.args.acting.now (rw (← c.as_slice-members.ensures.value) c.as_slice-members.ensures.few) (rw (← c.as_slice-members.ensures.value) c.as_slice-members.ensures.once)

pub returns-clause-fits : goal.returns-clause-fits
returns-clause-fits c = set_is c.args.acting.now (rw (← c.as_slice-members.ensures.value) c.as_slice-members.ensures.few) (rw (← c.as_slice-members.ensures.value) c.as_slice-members.ensures.once)
