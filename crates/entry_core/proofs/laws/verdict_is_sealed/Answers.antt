use Rattle.entry_core.proofs.Lawful.{verdict_is_sealed as law}
use Rattle.entry_core.proofs.laws.verdict_is_sealed.Goals as goal

pub returns : goal.returns
returns c = law
