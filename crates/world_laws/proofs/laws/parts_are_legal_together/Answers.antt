use Rattle.world_front.proofs.Merge.{parts_are_legal_together as law}
use Rattle.world_laws.proofs.laws.parts_are_legal_together.Goals as goal

pub returns : goal.returns
returns c = law
