use Rattle.std.proofs.Common.{◌≡◌, ◌+◌, drop, map}
use Rattle.group_messages.specs.Types.{Sealed}
use Rattle.group_messages.specs.Beginnings.{common}
use Rattle.group_messages.proofs.beginnings.alike_requests.Given as goal

abbrev pub invariant-loop-place : goal.invariant-loop-place
invariant-loop-place l = common (map (λ (s : Sealed). s.id) l.part) (map (λ (s : Sealed). s.id) l.others) ≡ l.place + common (drop l.place (map (λ (s : Sealed). s.id) l.part)) (drop l.place (map (λ (s : Sealed). s.id) l.others))
