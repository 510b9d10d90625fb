use Rattle.std.proofs.Common.{ℕ, ◌+◌, below_more, refl, sym, ◌∙◌, arith}
use Rattle.std.proofs.lemmas.Bool.{false≢true}
use Rattle.lint_core.specs.RightsLint.{CoversIn}
use Rattle.lint_core.proofs.rights_lint.first_cover.Goals as goal

pub returns-then-branch : goal.returns-then-branch
returns-then-branch c = record {
  place = c.loop-place.place;
  is = refl;
  within = c.loop-place-test.true;
  covers = c.in_ok-covers.ensures.0 c.if-branch.true;
  first = c.loop-place.invariant;
}

pub loop-place-preserved : goal.loop-place-preserved
loop-place-preserved c =
    let here : ¬ CoversIn c.args.rights.now c.args.number (c.loop-place.place + 1) = λ covers. false≢true (sym c.if-branch.false ∙ c.in_ok-covers.ensures.1 covers) in
    below_more _ _ c.loop-place.invariant here

pub returns : goal.returns
returns c = λ place within. c.loop-place.invariant place (omega arith)
