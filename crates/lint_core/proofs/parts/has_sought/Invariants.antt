use Rattle.std.proofs.Common.{◌≡◌, length}
use Rattle.lint_core.specs.RightsLint.{some_of}
use Rattle.lint_core.specs.Sought.{is_sought}
use Rattle.lint_core.proofs.parts.has_sought.Given as goal

-- none of the grants so far is looked for
abbrev pub invariant-loop-entry : goal.invariant-loop-entry
invariant-loop-entry l = some_of (is_sought l.sought) l.number l.rights.grants ≡ some_of (is_sought l.sought) l.number l.rest

abbrev pub decreases-loop-entry : goal.decreases-loop-entry
decreases-loop-entry l = length l.rest
