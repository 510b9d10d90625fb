use Rattle.lint_core.proofs.Allowed.{rest_answer}
use Rattle.lint_core.proofs.tickets.parts_allow_rest.Goals as goal

pub returns : goal.returns
returns c =
    rest_answer c.args.table.now c.args.front.now c.args.middle.now c.args.behind.now _ _ c.in_ok-all.all
    c.in_ok-all.ensures c.in_ok-parts.ensures c.in_ok-own.ensures
