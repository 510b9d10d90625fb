use Rattle.group_model_whole.proofs.Refusals.{refused_leaves}
use Rattle.group_model_whole.proofs.Statements.{sets_fit}
use Rattle.group_model_whole.proofs.laws.limits_hold.Goals as goal

pub returns : goal.returns
returns c = record { sets = sets_fit; refused = refused_leaves }
