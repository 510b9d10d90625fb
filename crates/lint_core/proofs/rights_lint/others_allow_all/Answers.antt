use Rattle.lint_core.proofs.Everywhere.{others_answer}
use Rattle.lint_core.proofs.rights_lint.others_allow_all.Goals as goal

pub returns : goal.returns
returns c = others_answer c.args.number c.args.ticket.now.grants _ _ c.in_ok-all.all c.in_ok-all.ensures c.in_ok-others.ensures c.in_ok-own.ensures
