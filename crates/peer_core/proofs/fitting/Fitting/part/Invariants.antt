use Rattle.std.proofs.Common.{◌≡◌, ◌++◌, take}
use Rattle.peer_core.proofs.fitting.Fitting.part.Given as goal

abbrev pub invariant-loop-request : goal.invariant-loop-request
invariant-loop-request l = l.part ≡ l.initial.part ++ take l.request-index l.request-items
