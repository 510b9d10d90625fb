use Rattle.std.proofs.Common.{◌≡◌, ℕ, Some, List, subst, sym, arith}
use Rattle.std.specs.List.{slice_get}
use Rattle.lint_core.specs.Lint.{IsStanding}
use Rattle.lint_core.specs.declared.findings.Standing.{Standing}
use Rattle.lint_core.proofs.Steps.{each_more}
use Rattle.lint_core.proofs.findings.standings.Goals as goal

pub loop-place-preserved : goal.loop-place-preserved
loop-place-preserved c =
    let pushed = c.in_ok-push.ensures.items in (
      omega (arith, c.in_ok-push.ensures.len, c.loop-place.invariant.0),
      subst (λ (all : List Standing). (place : ℕ) (standing : Standing) → slice_get all place ≡ Some standing → IsStanding c.args.table.now c.args.grants.now place standing) (sym pushed)
          (each_more (IsStanding c.args.table.now c.args.grants.now) c.loop-place.standings.items c.in_ok-standing_at.field-0 c.loop-place.invariant.1
          (subst (λ n. IsStanding c.args.table.now c.args.grants.now n c.in_ok-standing_at.field-0) (sym c.loop-place.invariant.0) c.in_ok-standing_at.ensures)),
    )
