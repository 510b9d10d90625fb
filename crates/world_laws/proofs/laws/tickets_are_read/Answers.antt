use Rattle.world_front.proofs.Tickets.{tickets_are_read as law}
use Rattle.world_laws.proofs.laws.tickets_are_read.Goals as goal

pub returns : goal.returns
returns c = law
