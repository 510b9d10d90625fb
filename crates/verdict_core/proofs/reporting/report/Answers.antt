use Rattle.std.proofs.Common.{◌≡◌, map, ap, ◌∙◌, arith}
use Rattle.std.proofs.lemmas.Grind.{common_steps}
use Rattle.verdict_core.specs.Verdict.{report_of}
use Rattle.verdict_core.proofs.Reports.{lines_of_step, paths-report_of}
use Rattle.verdict_core.proofs.reporting.report.Goals as goal

pub loop-entry-preserved : goal.loop-entry-preserved
loop-entry-preserved c =
    lines_of_step c.grants-entry-items.result.now c.loop-entry.entry-index c.entry-item.result c.is_expired-expired.result c.args.target.now c.args.needs.now c.first_failure-condition.result _ _
    (omega arith) c.entry-item.is c.first_failure-condition.ensures c.loop-entry.invariant c.in_ok-push_line.ensures

pub returns-clause-paths : goal.returns-clause-paths
returns-clause-paths c =
    let all : c.from_lines.result ≡ report_of c.args.ticket.now c.args.target.now c.args.needs.now c.args.tick = grind (arith, common_steps) in
    ap (map (λ line. line.0)) all ∙ paths-report_of c.args.ticket.now c.args.target.now c.args.needs.now c.args.tick c.requires

pub returns-clause-report : goal.returns-clause-report
returns-clause-report c = grind (arith, common_steps)
