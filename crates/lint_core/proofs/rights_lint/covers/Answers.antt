use Rattle.std.proofs.Common.{◌≡◌, true, take, arith}
use Rattle.std.proofs.lemmas.List.{take_all}
use Rattle.std.proofs.lemmas.List.Elements.{All-more}
use Rattle.lint_core.specs.Lint.{AllowsAll}
use Rattle.lint_core.specs.RightsLint.{CoversIn, part}
use Rattle.lint_core.proofs.Allowed.{answer_no, answer_yes}
use Rattle.lint_core.proofs.Everywhere.{covering, not_covering, said_no, said_yes}
use Rattle.lint_core.proofs.rights_lint.covers.Goals as goal

pub returns-then-other-number : goal.returns-then-other-number
returns-then-other-number c = said_no (CoversIn c.args.rights.now c.args.number c.args.other) (λ covers. covers.0 c.if-other-number.true)

pub returns-then-not-branch : goal.returns-then-not-branch
returns-then-not-branch c =
    let t = c.ticket-item.result in
    let fails : ¬ AllowsAll (part true c.args.other t.grants) (part true c.args.number t.grants) =
    answer_no (part true c.args.other t.grants) (part true c.args.number t.grants) _ _ c.in_ok-allows_all.field-0 c.in_ok-allows_all.ensures c.in_ok-covering.ensures c.in_ok-own.ensures c.if-not-branch.true in
    said_no (CoversIn c.args.rights.now c.args.number c.args.other)
    (not_covering c.args.rights.now c.args.tickets.now c.args.number c.args.other c.requires c.loop-ticket.ticket-index t c.loop-ticket-test.true c.ticket-item.is fails)

pub loop-ticket-preserved : goal.loop-ticket-preserved
loop-ticket-preserved c =
    let t = c.ticket-item.result in
    let holds : AllowsAll (part true c.args.other t.grants) (part true c.args.number t.grants) =
    answer_yes (part true c.args.other t.grants) (part true c.args.number t.grants) _ _ c.in_ok-allows_all.field-0 c.in_ok-allows_all.ensures c.in_ok-covering.ensures c.in_ok-own.ensures c.if-not-branch.false in
    All-more (λ t. AllowsAll (part true c.args.other t.grants) (part true c.args.number t.grants)) c.args.tickets.now c.loop-ticket.ticket-index t c.loop-ticket-test.true c.loop-ticket.invariant (rw (← c.ticket-item.is) holds)

pub returns : goal.returns
returns c =
    let all : take c.loop-ticket.ticket-index c.args.tickets.now ≡ c.args.tickets.now = take_all c.loop-ticket.ticket-index c.args.tickets.now (omega arith) in
    said_yes (CoversIn c.args.rights.now c.args.number c.args.other)
    (covering c.args.rights.now c.args.tickets.now c.args.number c.args.other c.requires c.if-other-number.false (rw all at c.loop-ticket.invariant))
