use Rattle.group_model.proofs.Appends.{appends_go}
use Rattle.group_model.proofs.laws.appends_go_to_others.Goals as goal

pub returns : goal.returns
returns c = appends_go
