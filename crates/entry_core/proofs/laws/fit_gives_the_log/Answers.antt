use Rattle.entry_core.proofs.Fitting.{fit_gives_the_log as law}
use Rattle.entry_core.proofs.laws.fit_gives_the_log.Goals as goal

pub returns : goal.returns
returns c = law
