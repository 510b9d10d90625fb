use Rattle.object_core.proofs.RemovedAttributes.{removed_is_gone as law}
use Rattle.object_core.proofs.laws.removed_is_gone.Goals as goal

pub returns : goal.returns
returns c = law
