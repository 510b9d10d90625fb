use Rattle.entry_core.proofs.Lawful.{others_are_left as law}
use Rattle.entry_core.proofs.laws.others_are_left.Goals as goal

pub returns : goal.returns
returns c = law
