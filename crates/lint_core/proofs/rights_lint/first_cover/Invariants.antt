use Rattle.lint_core.specs.RightsLint.{NoneCovers}
use Rattle.lint_core.proofs.rights_lint.first_cover.Given as goal

-- no grant so far covers the one of the number
abbrev pub invariant-loop-place : goal.invariant-loop-place
invariant-loop-place l = NoneCovers l.rights l.number l.place
