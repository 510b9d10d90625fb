use Rattle.std.proofs.Common.{All, take}
use Rattle.log_text.specs.Suggested.{Allows}
use Rattle.log_text.proofs.suggested.allows_each.Given as goal

-- each request so far is allowed
abbrev pub invariant-loop-request : goal.invariant-loop-request
invariant-loop-request l = All (Allows l.rights) (take l.request-index l.seen)
