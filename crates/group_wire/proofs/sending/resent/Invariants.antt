use Rattle.std.proofs.Common.{◌≡◌, take, map, filter_map, slice_get}
use Rattle.group_model.specs.Types.{Request}
use Rattle.group_model.specs.Group.{to_daemon}
use Rattle.group_wire.proofs.sending.resent.Given as goal

abbrev pub invariant-loop-place : goal.invariant-loop-place
invariant-loop-place l = l.sent.items ≡ map (to_daemon l.first) (map Request (filter_map (slice_get l.ledger.requests) (take l.place-index l.place-items)))
