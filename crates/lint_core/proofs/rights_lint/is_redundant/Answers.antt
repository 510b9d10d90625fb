use Rattle.std.proofs.Common.{◌≡◌, false, refl, take, arith}
use Rattle.std.proofs.lemmas.List.{take_all}
use Rattle.std.proofs.lemmas.List.Elements.{All-more}
use Rattle.lint_core.specs.Lint.{AllowsAll}
use Rattle.lint_core.specs.RightsLint.{IsRedundantIn, part}
use Rattle.lint_core.proofs.Allowed.{answer_no, answer_yes}
use Rattle.lint_core.proofs.Everywhere.{not_redundant, redundant, said_no, said_yes}
use Rattle.lint_core.proofs.rights_lint.is_redundant.Goals as goal

pub returns-then-not-branch : goal.returns-then-not-branch
returns-then-not-branch c =
    let t = c.ticket-item.result in
    let fails : ¬ AllowsAll (part false c.args.number t.grants) t.grants =
    answer_no (part false c.args.number t.grants) t.grants _ _ c.in_ok-others_allow_all.field-0 c.in_ok-others_allow_all.ensures refl refl c.if-not-branch.true in
    said_no (IsRedundantIn c.args.rights.now c.args.number)
    (not_redundant c.args.rights.now c.args.tickets.now c.args.number c.requires c.loop-ticket.ticket-index t c.loop-ticket-test.true c.ticket-item.is fails)

pub loop-ticket-preserved : goal.loop-ticket-preserved
loop-ticket-preserved c =
    let t = c.ticket-item.result in
    let holds : AllowsAll (part false c.args.number t.grants) t.grants =
    answer_yes (part false c.args.number t.grants) t.grants _ _ c.in_ok-others_allow_all.field-0 c.in_ok-others_allow_all.ensures refl refl c.if-not-branch.false in
    All-more (λ t. AllowsAll (part false c.args.number t.grants) t.grants) c.args.tickets.now c.loop-ticket.ticket-index t c.loop-ticket-test.true c.loop-ticket.invariant (rw (← c.ticket-item.is) holds)

pub returns : goal.returns
returns c =
    let all : take c.loop-ticket.ticket-index c.args.tickets.now ≡ c.args.tickets.now = take_all c.loop-ticket.ticket-index c.args.tickets.now (omega arith) in
    said_yes (IsRedundantIn c.args.rights.now c.args.number) (redundant c.args.rights.now c.args.tickets.now c.args.number c.requires (rw all at c.loop-ticket.invariant))
