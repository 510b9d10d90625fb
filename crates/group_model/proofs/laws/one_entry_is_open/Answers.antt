use Rattle.group_model.proofs.Opens.{one_open}
use Rattle.group_model.proofs.laws.one_entry_is_open.Goals as goal

pub returns : goal.returns
returns c = one_open
