use Rattle.group_model_whole.proofs.Statements.{were_submitted}
use Rattle.group_model_whole.proofs.laws.requests_were_submitted.Goals as goal

pub returns : goal.returns
returns c = were_submitted
