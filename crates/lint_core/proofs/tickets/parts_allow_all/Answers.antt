use Rattle.std.proofs.Common.{IfOk, IsTrue, ◌↔◌, subst}
use Rattle.lint_core.specs.Lint.{AllowsAll}
use Rattle.lint_core.proofs.tickets.parts_allow_all.Goals as goal

pub returns : goal.returns
returns c = subst (λ grants. IfOk c.allows_all.result (λ all. IsTrue all ↔ AllowsAll grants c.args.whole.now.grants)) c.in_ok-parts.ensures c.allows_all.ensures
