use Rattle.std.proofs.Common.{◌≡◌, ◌==◌, not, map, take}
use Rattle.std.specs.List.{filter}
use Rattle.group_messages.specs.Beginnings.{common_of}
use Rattle.peer_core.specs.Fittings.{becomes}
use Rattle.peer_core.proofs.state.State.commons_of.Given as goal

abbrev pub invariant-loop-member : goal.invariant-loop-member
invariant-loop-member l =
    l.common ≡ map (λ m. record { member = m; count = common_of l.informed l.fitting.log.now (becomes l.fitting) m }) (filter (λ m. not (m == l.self.number)) (take l.member-index l.member-items))
