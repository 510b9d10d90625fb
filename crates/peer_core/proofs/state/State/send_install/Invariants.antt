use Rattle.std.proofs.Common.{◌≡◌, ◌==◌, ◌++◌, not, map, take}
use Rattle.std.specs.List.{filter}
use Rattle.entry_core.specs.Log.{is_in}
use Rattle.group_messages.specs.Beginnings.{count_at}
use Rattle.peer_core.specs.Copy.{install_from}
use Rattle.peer_core.specs.Fittings.{becomes}
use Rattle.peer_core.proofs.state.State.send_install.Given as goal

abbrev pub invariant-loop-member : goal.invariant-loop-member
invariant-loop-member l =
    l.sent ≡ l.fn.sent ++ map (λ m. install_from l.self (becomes l.fitting) m (count_at l.common m)) (filter (λ m. not (is_in l.done m)) (filter (λ m. not (m == l.self.number)) (take l.member-index l.member-items)))
