use Rattle.group_model.proofs.Statements.{only_adds}
use Rattle.group_model.proofs.laws.calls_only_add.Goals as goal

pub returns : goal.returns
returns c = only_adds
