use Rattle.entry_core.proofs.FoundEntries.{find_tells as law}
use Rattle.entry_core.proofs.laws.find_tells.Goals as goal

pub returns : goal.returns
returns c = law
