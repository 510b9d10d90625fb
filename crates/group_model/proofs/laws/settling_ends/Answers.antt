use Rattle.group_model.proofs.Settling.{settling}
use Rattle.group_model.proofs.laws.settling_ends.Goals as goal

pub returns : goal.returns
returns c = settling
