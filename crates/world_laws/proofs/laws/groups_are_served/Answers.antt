use Rattle.world_laws.proofs.AcceptedLaws.{groups_are_served as law}
use Rattle.world_laws.proofs.laws.groups_are_served.Goals as goal

pub returns : goal.returns
returns c = law
