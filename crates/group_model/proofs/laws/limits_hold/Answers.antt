use Rattle.group_model.proofs.Refusals.{refused_leaves}
use Rattle.group_model.proofs.Twins.{reached_sets}
use Rattle.group_model.proofs.laws.limits_hold.Goals as goal

pub returns : goal.returns
returns c = record { sets = reached_sets; refused = refused_leaves }
