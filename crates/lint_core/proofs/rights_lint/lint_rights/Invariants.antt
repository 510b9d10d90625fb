use Rattle.std.proofs.Common.{◌≡◌, ◌+◌, ℕ, Some, length, option_copied}
use Rattle.std.specs.List.{slice_get}
use Rattle.lint_core.specs.RightsLint.{IsLintIn}
use Rattle.lint_core.specs.declared.rights_lint.GrantLint.{GrantLint}
use Rattle.lint_core.proofs.rights_lint.lint_rights.Given as goal

-- what is found of each grant so far
abbrev pub invariant-loop-place : goal.invariant-loop-place
invariant-loop-place l =
    (length l.all.items ≡ l.place) × ((place : ℕ) (found : GrantLint) → slice_get l.all.items place ≡ Some found → IsLintIn (option_copied l.pools) l.rights l.count (place + 1) found)
