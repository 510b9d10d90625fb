use Rattle.place_core.proofs.Counted.{acting_is as law}
use Rattle.place_core.proofs.laws.acting_is_the_ranking.Goals as goal

pub returns : goal.returns
returns c = law
