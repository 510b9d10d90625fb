use Rattle.entry_core.proofs.Fitting.{fit_of_nothing as law}
use Rattle.entry_core.proofs.laws.fit_of_nothing.Goals as goal

pub returns : goal.returns
returns c = law
