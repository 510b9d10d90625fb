use Rattle.entry_core.proofs.Locality.{sealed_decide_alike as law}
use Rattle.entry_core.proofs.laws.groups_decide_apart.Goals as goal

pub returns : goal.returns
returns c = law
