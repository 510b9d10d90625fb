use Rattle.group_model_whole.proofs.Statements.{answers_decided}
use Rattle.group_model_whole.proofs.laws.answers_are_decided.Goals as goal

pub returns : goal.returns
returns c = answers_decided
