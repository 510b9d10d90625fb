use Rattle.place_core.proofs.Counted.{sixteen as law}
use Rattle.place_core.proofs.laws.daemons_are_sixteen.Goals as goal

pub returns : goal.returns
returns c = law
