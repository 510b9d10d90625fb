use Rattle.std.proofs.Common.{◌≡◌, take, map}
use Rattle.rights_core.specs.Rights.{ticket_at}
use Rattle.rights_core.proofs.sampling.tickets.Given as goal

abbrev pub invariant-loop-address : goal.invariant-loop-address
invariant-loop-address l = l.tickets.items ≡ map (ticket_at l.rights) (take l.address-index l.addresses)
