use Rattle.group_model_whole.proofs.AppendGroups.{appends_go}
use Rattle.group_model_whole.proofs.laws.appends_go_to_others.Goals as goal

pub returns : goal.returns
returns c = appends_go
