use Rattle.auth_db.proofs.Judging.{is_ticket}
use Rattle.auth_db.proofs.osd_texts.osd_ticket.Goals as goal

pub returns-in-Ok : goal.returns-in-Ok
returns-in-Ok c = is_ticket c.args.table.now c.args.osd.now _ c.as_str.result.now c.in-Ok.tree c.args.until c.of.result c.in-Some.is c.as_str.ensures c.in-Ok.ensures.tree c.of.ensures
