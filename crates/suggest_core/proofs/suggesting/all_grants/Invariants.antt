use Rattle.std.proofs.Common.{take}
use Rattle.suggest_core.specs.Parts.{HasCalls, HasMoving}
use Rattle.suggest_core.proofs.suggesting.all_grants.Given as goal

-- the flags of the requests so far
abbrev pub invariant-loop-request : goal.invariant-loop-request
invariant-loop-request l = HasMoving l.grain l.seen (take l.request-index l.seen) l.grants.items

-- and the methods of the requests so far
abbrev pub invariant-loop-request-2 : goal.invariant-loop-request-2
invariant-loop-request-2 l = HasCalls l.grain l.seen (take l.request-index l.seen) l.grants.items
