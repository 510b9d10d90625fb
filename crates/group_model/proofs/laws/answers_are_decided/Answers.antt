use Rattle.group_model.proofs.Statements.{answers_decided}
use Rattle.group_model.proofs.laws.answers_are_decided.Goals as goal

pub returns : goal.returns
returns c = answers_decided
