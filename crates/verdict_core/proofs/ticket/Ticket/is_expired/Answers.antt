use Rattle.std.proofs.Common.{rules}
use Rattle.verdict_core.proofs.ticket.Ticket.is_expired.Goals as goal

pub returns-in-Some : goal.returns-in-Some
returns-in-Some c = search rules
