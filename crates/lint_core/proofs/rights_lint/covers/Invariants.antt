use Rattle.std.proofs.Common.{true, take, All}
use Rattle.lint_core.specs.Lint.{AllowsAll}
use Rattle.lint_core.specs.RightsLint.{part}
use Rattle.lint_core.proofs.rights_lint.covers.Given as goal

-- at the tickets so far the other grant allows all that this one allows
abbrev pub invariant-loop-ticket : goal.invariant-loop-ticket
invariant-loop-ticket l = All (λ t. AllowsAll (part true l.other t.grants) (part true l.number t.grants)) (take l.ticket-index l.tickets)
