use Rattle.world_laws.proofs.RunLaws.{runs_tell as law}
use Rattle.world_laws.proofs.laws.runs_tell_the_audit.Goals as goal

pub returns : goal.returns
returns c = law
