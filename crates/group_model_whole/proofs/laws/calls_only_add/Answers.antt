use Rattle.group_model_whole.proofs.Statements.{only_adds}
use Rattle.group_model_whole.proofs.laws.calls_only_add.Goals as goal

pub returns : goal.returns
returns c = only_adds
