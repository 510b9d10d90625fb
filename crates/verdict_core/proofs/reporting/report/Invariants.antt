use Rattle.std.proofs.Common.{◌≡◌, take}
use Rattle.verdict_core.proofs.Reports.{lines_of}
use Rattle.verdict_core.proofs.reporting.report.Given as goal

abbrev pub invariant-loop-entry : goal.invariant-loop-entry
invariant-loop-entry l = l.lines.items ≡ lines_of (take l.entry-index l.entry-items) l.expired l.target l.needs
