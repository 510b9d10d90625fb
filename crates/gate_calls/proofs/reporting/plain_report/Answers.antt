use Rattle.std.proofs.Common.{true, false, sym, ap, ◌∙◌}
use Rattle.request_types.specs.Text.{report_text}
use Rattle.gate_calls.proofs.Plain.{plain_answers, same_report}
use Rattle.gate_calls.proofs.reporting.plain_report.Goals as goal

pub returns-then-judge : goal.returns-then-judge
returns-then-judge c = plain_answers c.args.ticket.now c.args.target.now c.args.needs.now c.args.tick true (rw c.if-judge.true at c.judge.ensures)

pub returns : goal.returns
returns c = (
  plain_answers c.args.ticket.now c.args.target.now c.args.needs.now c.args.tick false (rw c.if-judge.false at c.judge.ensures),
  c.in_ok-ticket_report.ensures ∙ sym (ap report_text (same_report c.args.ticket.now c.args.target.now c.args.needs.now c.args.tick)),
)
