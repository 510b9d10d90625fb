use Rattle.std.proofs.Common.{rules}
use Rattle.peer_core.proofs.choice.is_better.Goals as goal

pub returns-then-offered-size : goal.returns-then-offered-size
returns-then-offered-size c = search rules
