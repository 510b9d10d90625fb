use Rattle.world_laws.proofs.AcceptedLaws.{intervals_are_the_maps as law}
use Rattle.world_laws.proofs.laws.intervals_are_the_maps.Goals as goal

pub returns : goal.returns
returns c = law
