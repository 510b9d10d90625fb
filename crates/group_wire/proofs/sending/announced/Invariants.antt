use Rattle.std.proofs.Common.{◌≡◌, take, map}
use Rattle.group_model.specs.Types.{Interval}
use Rattle.group_model.specs.Group.{to_daemon}
use Rattle.group_wire.proofs.sending.announced.Given as goal

abbrev pub invariant-loop-member : goal.invariant-loop-member
invariant-loop-member l = l.sent.items ≡ map (λ d. to_daemon d (Interval l.sets)) (take l.member-index l.member-items)
