use Rattle.std.proofs.Common.{sym}
use Rattle.auth_db.proofs.db.AuthDb.ticket.Goals as goal

pub returns-in-Ok-clause-ticket : goal.returns-in-Ok-clause-ticket
returns-in-Ok-clause-ticket c = rw (← c.self.view_is) (c.in-Some.caps.now, sym c.in-Some.ensures, c.in-Ok.ensures)
