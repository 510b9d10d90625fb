use Rattle.std.proofs.Common.{◌≡◌, ◌+◌, ℕ, Some, List, length, option_copied, subst, sym, arith}
use Rattle.std.specs.List.{slice_get}
use Rattle.lint_core.specs.RightsLint.{IsLintIn}
use Rattle.lint_core.specs.declared.rights_lint.GrantLint.{GrantLint}
use Rattle.lint_core.proofs.Everywhere.{each_next}
use Rattle.lint_core.proofs.rights_lint.lint_rights.Goals as goal

pub loop-place-preserved : goal.loop-place-preserved
loop-place-preserved c =
    let P : ℕ → GrantLint → Type 0 = λ place found. IsLintIn (option_copied c.args.pools) c.args.rights.now c.args.count (place + 1) found in
    let pushed = c.in_ok-push.ensures.items in (
      omega (arith, c.in_ok-push.ensures.len, c.loop-place.invariant.0),
      subst (λ (all : List GrantLint). (place : ℕ) (found : GrantLint) → slice_get all place ≡ Some found → P place found) (sym pushed)
          (each_next P c.loop-place.all.items c.in_ok-lint_of.field-0 c.loop-place.invariant.1
          (subst (λ n. P n c.in_ok-lint_of.field-0) (sym c.loop-place.invariant.0) c.in_ok-lint_of.ensures)),
    )

pub returns : goal.returns
returns c =
    let whole : length c.loop-place.all.items ≡ c.args.count = omega (arith, c.loop-place.invariant.0) in
    record { all_of_them = whole; each = c.loop-place.invariant.1 }
