use Rattle.std.proofs.Common.{◌≡◌, ◌+◌, drop}
use Rattle.group_messages.specs.ActingSets.{covers}
use Rattle.peer_core.specs.Choice.{is_informed}
use Rattle.peer_core.proofs.state.State.covers.Given as goal

abbrev pub invariant-loop-members : goal.invariant-loop-members
invariant-loop-members l = record {
  number : l.interval ≡ l.members-index + 1;
  rest : covers l.self.min_size l.base (is_informed l.self l.informed) l.interval (drop l.members-index l.members-items) ≡ covers l.self.min_size l.base (is_informed l.self l.informed) 1 l.members-items;
}
