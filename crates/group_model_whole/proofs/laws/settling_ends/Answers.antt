use Rattle.group_model_whole.proofs.Statements.{settling}
use Rattle.group_model_whole.proofs.laws.settling_ends.Goals as goal

pub returns : goal.returns
returns c = settling
