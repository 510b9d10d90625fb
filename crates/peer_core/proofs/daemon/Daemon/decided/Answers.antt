use Rattle.std.proofs.Common.{rules}
use Rattle.peer_core.proofs.daemon.Daemon.decided.Goals as goal

pub returns-in-Active-Some : goal.returns-in-Active-Some
returns-in-Active-Some c = search rules
