use Rattle.std.proofs.Common.{false, take, All}
use Rattle.lint_core.specs.Lint.{AllowsAll}
use Rattle.lint_core.specs.RightsLint.{part}
use Rattle.lint_core.proofs.rights_lint.is_redundant.Given as goal

-- at the tickets so far the others allow all
abbrev pub invariant-loop-ticket : goal.invariant-loop-ticket
invariant-loop-ticket l = All (λ t. AllowsAll (part false l.number t.grants) t.grants) (take l.ticket-index l.tickets)
