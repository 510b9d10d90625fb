use Rattle.std.proofs.Common.{◌≡◌, false}
use Rattle.rights_core.specs.Rights.{Rights, has_networks, with_networks}
use Rattle.rights_core.proofs.Given.{every_address}
use Rattle.rights_core.proofs.rights.Rights.as_ticket.Goals as goal

pub returns-else-has_networks : goal.returns-else-has_networks
returns-else-has_networks c =
    let view : c.args.self.now ≡ record { grants = with_networks c.self.inside.ticket.grants c.self.inside.networks.items; until = c.self.inside.ticket.until } = cc in
    let none : has_networks c.args.self.now.grants ≡ false = cc (c.if-has_networks.ensures) in
    every_address c.args.self.now c.self.inside.ticket c.self.inside.networks.items view none
