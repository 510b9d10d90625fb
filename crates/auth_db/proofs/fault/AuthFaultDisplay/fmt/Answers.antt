use Rattle.std.proofs.Common.{rules}
use Rattle.auth_db.proofs.fault.AuthFaultDisplay.fmt.Goals as goal

pub returns-in-BadCaps-clause-writes : goal.returns-in-BadCaps-clause-writes
returns-in-BadCaps-clause-writes g c = search rules
