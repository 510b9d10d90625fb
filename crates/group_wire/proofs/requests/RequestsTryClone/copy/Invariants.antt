use Rattle.std.proofs.Common.{◌≡◌, take}
use Rattle.group_wire.proofs.requests.RequestsTryClone.copy.Given as goal

abbrev pub invariant-loop-request : goal.invariant-loop-request
invariant-loop-request l = l.all ≡ take l.request-index l.request-items
