use Rattle.std.proofs.Common.{below_more, arith}
use Rattle.grant_core.specs.Flat.{flat}
use Rattle.lint_core.specs.Lint.{Covers, alone}
use Rattle.lint_core.proofs.Allowed.{answer_no}
use Rattle.lint_core.proofs.Sublists.{only}
use Rattle.lint_core.proofs.findings.first_cover.Goals as goal
use Rattle.lint_core.proofs.findings.first_cover.Goals.{else-other-place-via-then-other-place+in_ok-allows_all+else-branch, else-other-place-via-else-other-place}

pub part_ticket-requires : goal.part_ticket-requires
part_ticket-requires c = only c.args.table.now c.args.grants.now c.args.place c.requires.expands

pub part_ticket-requires-in-loop-other : goal.part_ticket-requires-in-loop-other
part_ticket-requires-in-loop-other c = only c.args.table.now c.args.grants.now c.loop-other.other c.requires.expands

pub loop-other-preserved : goal.loop-other-preserved
loop-other-preserved c =
    let here : ¬ Covers c.args.table.now c.args.grants.now c.args.place c.loop-other.other =
    elim c.else-other-place.branch [
      | else-other-place-via-then-other-place+in_ok-allows_all+else-branch w ↦ λ covers.
          answer_no (flat c.args.table.now (alone c.args.grants.now c.loop-other.other)) (flat c.args.table.now (alone c.args.grants.now c.args.place)) _ _ _
          w.in_ok-allows_all.ensures c.in_ok-ticket.ensures c.in_ok-own.ensures w.if-branch.false covers.1
      | else-other-place-via-else-other-place w ↦ λ covers. covers.0 w.if-other-place.false
    ] in
    below_more _ _ c.loop-other.invariant here

pub returns : goal.returns
returns c = λ other within. c.loop-other.invariant other (omega arith)
