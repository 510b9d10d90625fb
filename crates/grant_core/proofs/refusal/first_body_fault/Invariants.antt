use Rattle.std.proofs.Common.{◌≡◌, ◌+◌, drop}
use Rattle.grant_core.specs.Refusal.{first_fault, body_fault}
use Rattle.grant_core.specs.Table.{table_of}
use Rattle.grant_core.proofs.refusal.first_body_fault.Given as goal

-- the grants so far have no fault, so the first is among the rest
abbrev pub invariant-loop-i : goal.invariant-loop-i
invariant-loop-i l = first_fault (body_fault (table_of l.profiles.entries)) (1 + l.i) (drop l.i l.body) ≡ first_fault (body_fault (table_of l.profiles.entries)) 1 l.body
