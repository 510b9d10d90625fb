use Rattle.std.proofs.Common.{◌≡◌, ◌++◌, not, map, take}
use Rattle.std.specs.List.{filter}
use Rattle.peer_core.specs.Types.{Osd}
use Rattle.peer_core.specs.ActingSets.{is_asked}
use Rattle.peer_core.specs.Choice.{is_informed}
use Rattle.peer_core.specs.Steps.{send}
use Rattle.peer_core.specs.Copy.{query}
use Rattle.peer_core.proofs.state.State.query.Given as goal

abbrev pub invariant-loop-daemon : goal.invariant-loop-daemon
invariant-loop-daemon l =
    l.sent ≡ l.fn.sent ++ map (λ d. send l.self (Osd d) (query l.self)) (filter (λ d. not (is_informed l.self l.informed d)) (filter (λ d. is_asked l.self d) (take l.daemon-index l.daemons)))
