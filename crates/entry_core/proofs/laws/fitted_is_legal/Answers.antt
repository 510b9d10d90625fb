use Rattle.entry_core.proofs.Fitting.{fitted_is_legal as law}
use Rattle.entry_core.proofs.laws.fitted_is_legal.Goals as goal

pub returns : goal.returns
returns c = law
