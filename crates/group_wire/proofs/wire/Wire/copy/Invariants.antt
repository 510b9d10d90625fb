use Rattle.std.proofs.Common.{◌≡◌, take}
use Rattle.group_wire.proofs.wire.Wire.copy.Given as goal

abbrev pub invariant-loop-message : goal.invariant-loop-message
invariant-loop-message l = l.sent ≡ take l.message-index l.message-items
