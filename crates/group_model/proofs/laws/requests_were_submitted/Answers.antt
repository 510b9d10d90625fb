use Rattle.group_model.proofs.Statements.{were_submitted}
use Rattle.group_model.proofs.laws.requests_were_submitted.Goals as goal

pub returns : goal.returns
returns c = were_submitted
