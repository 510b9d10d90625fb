use Rattle.std.proofs.Common.{sym, ◌∙◌}
use Rattle.std.proofs.lemmas.Bool.{false≢true}
use Rattle.lint_core.proofs.Everywhere.{first_covers, none_covers}
use Rattle.lint_core.proofs.rights_lint.standing_of.Goals as goal

pub returns-then-not-branch : goal.returns-then-not-branch
returns-then-not-branch c = λ redundant. false≢true (sym c.if-not-branch.true ∙ c.in_ok-is_redundant.ensures.1 redundant)

pub returns-in-None : goal.returns-in-None
returns-in-None c = (c.in_ok-is_redundant.ensures.0 c.if-not-branch.false, none_covers c.args.rights.now c.args.count c.args.number _ c.in_ok-first_cover.ensures c.in-None.is)

pub returns-in-Some : goal.returns-in-Some
returns-in-Some c = (c.in_ok-is_redundant.ensures.0 c.if-not-branch.false, first_covers c.args.rights.now c.args.count c.args.number _ c.in-Some.found c.in_ok-first_cover.ensures c.in-Some.is)
