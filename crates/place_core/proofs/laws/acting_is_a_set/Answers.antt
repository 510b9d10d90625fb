use Rattle.place_core.proofs.Counted.{acting_set as law}
use Rattle.place_core.proofs.laws.acting_is_a_set.Goals as goal

pub returns : goal.returns
returns c = law
