use Rattle.std.proofs.Common.{◌≡◌, ℕ, Some, length}
use Rattle.std.specs.List.{slice_get}
use Rattle.lint_core.specs.Lint.{IsStanding}
use Rattle.lint_core.specs.declared.findings.Standing.{Standing}
use Rattle.lint_core.proofs.findings.standings.Given as goal

-- how each grant so far stands
abbrev pub invariant-loop-place : goal.invariant-loop-place
invariant-loop-place l =
    (length l.standings.items ≡ l.place) × ((place : ℕ) (standing : Standing) → slice_get l.standings.items place ≡ Some standing → IsStanding l.table l.grants place standing)
