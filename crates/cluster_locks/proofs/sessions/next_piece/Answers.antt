use Rattle.std.proofs.Common.{rules}
use Rattle.cluster_locks.proofs.sessions.next_piece.Goals as goal

pub returns-clause-piece : goal.returns-clause-piece
returns-clause-piece c = search rules

pub returns-clause-room : goal.returns-clause-room
returns-clause-room c = search rules
