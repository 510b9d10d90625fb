use Rattle.std.proofs.Common.{rules}
use Rattle.cap_text.proofs.fault_text.CapFaultDisplay.fmt.Goals as goal

pub returns-clause-writes : goal.returns-clause-writes
returns-clause-writes g c = search rules
