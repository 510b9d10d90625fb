use Rattle.group_model.proofs.SameGroups.{same_step, same_run, same_settle, takes_last}
use Rattle.group_model.proofs.laws.groups_stay_the_same.Goals as goal

pub returns : goal.returns
returns c = record { steps = same_step; runs = same_run; settles = same_settle; submits = takes_last }
