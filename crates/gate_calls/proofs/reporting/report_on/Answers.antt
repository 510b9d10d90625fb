use Rattle.std.proofs.Common.{rules}
use Rattle.gate_calls.proofs.Answered.{report_plain, report_limited}
use Rattle.gate_calls.proofs.reporting.report_on.Goals as goal

pub returns-in-Plain : goal.returns-in-Plain
returns-in-Plain c =
    report_plain c.args.caps.now c.grants.result.now c.in-Plain.ticket c.args.request.now c.args.applications.now c.args.calls.now _ _ c.in_ok-plain_report-in-Plain.field-0
    c.grants.ensures c.in-Plain.is (search rules) (search rules) c.in_ok-plain_report-in-Plain.ensures

pub returns : goal.returns
returns c =
    report_limited c.args.caps.now c.grants.result.now c.in-Limited.limited c.args.request.now c.args.applications.now c.args.calls.now _ _ c.origin_for-origin.result c.in_ok-limited_report-in-Limited.field-0
    c.grants.ensures c.in-Limited.is c.origin_for-origin.ensures (search rules) (search rules) c.in_ok-limited_report-in-Limited.ensures
