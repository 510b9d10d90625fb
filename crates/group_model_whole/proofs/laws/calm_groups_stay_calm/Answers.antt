use Rattle.group_model_whole.proofs.CalmGroups.{begins_calm, steps_calm, settles_calm}
use Rattle.group_model_whole.proofs.Statements.{serving_keeps_count, waiting_keeps_count}
use Rattle.group_model_whole.proofs.laws.calm_groups_stay_calm.Goals as goal

pub returns : goal.returns
returns c = record {
  begins = begins_calm;
  steps = steps_calm;
  settles = settles_calm;
  served = serving_keeps_count;
  unserved = waiting_keeps_count;
}
