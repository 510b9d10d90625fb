use Rattle.std.proofs.Common.{rules}
use Rattle.verdict_core.proofs.indexed.IndexedTicket.report.Goals as goal

pub returns-clause-report : goal.returns-clause-report
returns-clause-report c = search rules

pub returns-clause-paths : goal.returns-clause-paths
returns-clause-paths c = search rules
