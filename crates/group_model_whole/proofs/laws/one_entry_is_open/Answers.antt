use Rattle.group_model_whole.proofs.Statements.{one_open}
use Rattle.group_model_whole.proofs.laws.one_entry_is_open.Goals as goal

pub returns : goal.returns
returns c = one_open
