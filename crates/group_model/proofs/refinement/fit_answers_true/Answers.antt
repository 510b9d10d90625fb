use Rattle.group_model.proofs.Fitting.{fit_answers}
use Rattle.group_model.proofs.refinement.fit_answers_true.Goals as goal

pub returns : goal.returns
returns c = fit_answers
