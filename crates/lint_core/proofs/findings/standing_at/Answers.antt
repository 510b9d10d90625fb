use Rattle.std.proofs.Common.{ap}
use Rattle.std.specs.List.{remove}
use Rattle.grant_core.specs.Flat.{flat}
use Rattle.lint_core.specs.Lint.{AllowsAll}
use Rattle.lint_core.proofs.Allowed.{answer_no, answer_yes}
use Rattle.lint_core.proofs.Steps.{covered, uncovered}
use Rattle.lint_core.proofs.Sublists.{around, redundant_by, only, removed, without}
use Rattle.lint_core.proofs.findings.standing_at.Goals as goal

pub parts_allow_rest-requires-clause-parts : goal.parts_allow_rest-requires-clause-parts
parts_allow_rest-requires-clause-parts c = without c.args.table.now c.args.grants.now c.args.place c.requires.expands

pub parts_allow_rest-requires-clause-middle : goal.parts_allow_rest-requires-clause-middle
parts_allow_rest-requires-clause-middle c = only c.args.table.now c.args.grants.now c.args.place c.requires.expands

pub returns-then-not-branch : goal.returns-then-not-branch
returns-then-not-branch c = λ redundant.
    answer_no (flat c.args.table.now (remove c.args.grants.now c.args.place)) (flat c.args.table.now c.args.grants.now) _ _ c.in_ok-parts_allow_rest.field-0
    c.in_ok-parts_allow_rest.ensures (ap (flat c.args.table.now) (removed c.args.grants.now c.args.place)) (ap (flat c.args.table.now) (around c.args.grants.now c.args.place))
    c.if-not-branch.true redundant.0

pub returns-in-None : goal.returns-in-None
returns-in-None c =
    let all : AllowsAll (flat c.args.table.now (remove c.args.grants.now c.args.place)) (flat c.args.table.now c.args.grants.now) =
    answer_yes (flat c.args.table.now (remove c.args.grants.now c.args.place)) (flat c.args.table.now c.args.grants.now) _ _ c.in_ok-parts_allow_rest.field-0
    c.in_ok-parts_allow_rest.ensures (ap (flat c.args.table.now) (removed c.args.grants.now c.args.place)) (ap (flat c.args.table.now) (around c.args.grants.now c.args.place)) c.if-not-branch.false in
    (redundant_by c.args.table.now c.args.grants.now c.args.place all, uncovered c.args.table.now c.args.grants.now c.args.place _ c.in_ok-first_cover.ensures c.in-None.is)

pub returns-in-Some : goal.returns-in-Some
returns-in-Some c =
    let all : AllowsAll (flat c.args.table.now (remove c.args.grants.now c.args.place)) (flat c.args.table.now c.args.grants.now) =
    answer_yes (flat c.args.table.now (remove c.args.grants.now c.args.place)) (flat c.args.table.now c.args.grants.now) _ _ c.in_ok-parts_allow_rest.field-0
    c.in_ok-parts_allow_rest.ensures (ap (flat c.args.table.now) (removed c.args.grants.now c.args.place)) (ap (flat c.args.table.now) (around c.args.grants.now c.args.place)) c.if-not-branch.false in
    (redundant_by c.args.table.now c.args.grants.now c.args.place all, covered c.args.table.now c.args.grants.now c.args.place _ c.in-Some.number c.in_ok-first_cover.ensures c.in-Some.is)
