use Rattle.share_text.proofs.Lives.{bare_ticket}
use Rattle.share_text.proofs.live.own_ticket.Goals as goal

pub returns : goal.returns
returns c = bare_ticket c.args.rights.now c.in-Some.ticket.now c.requires c.in-Some.ensures
