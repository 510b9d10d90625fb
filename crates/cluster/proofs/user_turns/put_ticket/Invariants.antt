use Rattle.std.proofs.Common.{◌≡◌}
use Rattle.cluster.proofs.OwnNumbers.{NoneBefore}
use Rattle.cluster.proofs.user_turns.put_ticket.Given as goal

abbrev pub invariant-loop-k : goal.invariant-loop-k
invariant-loop-k l = record {
  same : l.sessions ≡ l.initial.sessions;
  none : NoneBefore l.initial.sessions l.number l.k;
}
