use Rattle.std.proofs.Common.{ℕ, ◌<◌}
use Rattle.lint_core.specs.Lint.{Covers}
use Rattle.lint_core.proofs.findings.first_cover.Given as goal

-- no grant so far covers the one at the place
abbrev pub invariant-loop-other : goal.invariant-loop-other
invariant-loop-other l = (earlier : ℕ) → earlier < l.other → ¬ Covers l.table l.grants l.place earlier
