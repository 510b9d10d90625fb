use Rattle.std.proofs.Common.{rules}
use Rattle.compare_core.proofs.calls.name_of_call.Goals as goal

pub returns-in-None : goal.returns-in-None
returns-in-None c = search rules
