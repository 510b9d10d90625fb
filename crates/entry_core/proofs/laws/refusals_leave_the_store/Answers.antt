use Rattle.entry_core.proofs.Lawful.{refusals_leave_the_store as law}
use Rattle.entry_core.proofs.laws.refusals_leave_the_store.Goals as goal

pub returns : goal.returns
returns c = law
