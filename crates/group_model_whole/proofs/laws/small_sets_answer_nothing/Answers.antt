use Rattle.group_model_whole.proofs.SmallRuns.{small_opening}
use Rattle.group_model_whole.proofs.Statements.{answers_nothing}
use Rattle.group_model_whole.proofs.laws.small_sets_answer_nothing.Goals as goal

pub returns : goal.returns
returns c = record { waits = answers_nothing; opening = small_opening }
