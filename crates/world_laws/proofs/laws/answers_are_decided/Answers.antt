use Rattle.world_core.proofs.Replied.{answers_are_decided as law}
use Rattle.world_laws.proofs.laws.answers_are_decided.Goals as goal

pub returns : goal.returns
returns c = law
