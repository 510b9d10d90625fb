use Rattle.std.proofs.Common.{◌≡◌}
use Rattle.rights_core.specs.Rights.{with_networks}
use Rattle.rights_core.proofs.Given.{every_address}
use Rattle.rights_core.proofs.rights.Rights.into_ticket.Goals as goal

pub returns : goal.returns
returns c =
    let view : c.args.self ≡ record { grants = with_networks c.self.inside.ticket.grants c.self.inside.networks.items; until = c.self.inside.ticket.until } = cc in
    every_address c.args.self c.self.inside.ticket c.self.inside.networks.items view c.requires
