use Rattle.std.proofs.Common.{◌≡◌, [], IsTrue, arith, refl, subst}
use Rattle.std.proofs.lemmas.Grind.{common_steps}
use Rattle.compare_core.specs.Widening.{Widens}
use Rattle.share_text.proofs.EveryObject.{reaches_all}
use Rattle.share_text.proofs.everywhere.reads_and_writes_all.Goals as goal

pub returns : goal.returns
returns c =
    let none : IsTrue c.is_empty.result → c.in_ok-denied.denied.items ≡ [] = grind (arith, common_steps) in
    let some : c.in_ok-denied.denied.items ≡ [] → IsTrue c.is_empty.result = grind (arith, common_steps) in
    reaches_all c.args.ticket.now.grants c.args.ticket.now.grants c.in_ok-every.every.grants c.is_empty.result refl c.in_ok-every.ensures
    (λ empty. c.in_ok-denied.ensures.empty.0 (none empty)) (λ all. some (c.in_ok-denied.ensures.empty.1 all))
