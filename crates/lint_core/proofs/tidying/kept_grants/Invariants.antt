use Rattle.lint_core.specs.Parts.{IsTidyFrom}
use Rattle.lint_core.proofs.tidying.kept_grants.Given as goal

abbrev pub invariant-loop-place : goal.invariant-loop-place
invariant-loop-place l = IsTidyFrom l.table l.grants l.place l.kept.items
