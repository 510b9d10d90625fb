use Rattle.std.proofs.Common.{◌≡◌, take}
use Rattle.peer_core.proofs.choice.copy_requests.Given as goal

abbrev pub invariant-loop-request : goal.invariant-loop-request
invariant-loop-request l = l.copy ≡ take l.request-index l.part
