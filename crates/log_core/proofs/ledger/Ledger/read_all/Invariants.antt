use Rattle.std.proofs.Common.{◌≡◌, List, take}
use Rattle.log_core.specs.declared.line.Line.{Line}
use Rattle.log_core.specs.Ledger.{HasRead, behind, new_from}
use Rattle.log_core.proofs.ledger.Ledger.read_all.Given as goal

-- the lines so far are read
abbrev pub invariant-loop-line : goal.invariant-loop-line
invariant-loop-line l = (before : List Line) → HasRead before l.initial.self → (l.requests.items ≡ new_from before (take l.line-index l.lines)) × HasRead (behind before (take l.line-index l.lines)) l.self
