use Rattle.std.proofs.Common.{◌≡◌, [], IsTrue, arith}
use Rattle.std.proofs.lemmas.Grind.{common_steps}
use Rattle.lint_core.proofs.Allowed.{all_from_silent, silent_from_all}
use Rattle.lint_core.proofs.tickets.allows_all.Goals as goal

pub returns : goal.returns
returns c =
    let none : IsTrue c.is_empty.result → c.in_ok-widening.field-0.items ≡ [] = grind (arith, common_steps) in
    let some : c.in_ok-widening.field-0.items ≡ [] → IsTrue c.is_empty.result = grind (arith, common_steps) in (
      λ empty. all_from_silent c.args.ticket.now.grants c.args.other.now.grants (c.in_ok-widening.ensures.empty.0 (none empty)),
      λ all. some (c.in_ok-widening.ensures.empty.1 (silent_from_all c.args.ticket.now.grants c.args.other.now.grants all)),
    )
