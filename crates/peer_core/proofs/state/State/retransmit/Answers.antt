use Rattle.std.proofs.Common.{rules}
use Rattle.peer_core.proofs.state.State.retransmit.Goals as goal

pub returns : goal.returns
returns c = search rules
