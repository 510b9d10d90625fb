use Rattle.std.proofs.Common.{rules}
use Rattle.peer_core.proofs.state.State.leads.Goals as goal

pub returns-then-is_primary : goal.returns-then-is_primary
returns-then-is_primary c = search rules
