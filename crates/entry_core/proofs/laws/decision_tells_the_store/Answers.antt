use Rattle.entry_core.proofs.Lawful.{decision_tells_the_store as law}
use Rattle.entry_core.proofs.laws.decision_tells_the_store.Goals as goal

pub returns : goal.returns
returns c = law
