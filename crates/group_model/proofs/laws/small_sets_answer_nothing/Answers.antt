use Rattle.group_model.proofs.Statements.{small_opening, answers_nothing}
use Rattle.group_model.proofs.laws.small_sets_answer_nothing.Goals as goal

pub returns : goal.returns
returns c = record { waits = answers_nothing; opening = small_opening }
