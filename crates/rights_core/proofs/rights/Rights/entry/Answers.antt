use Rattle.std.proofs.Common.{◌≡◌, None}
use Rattle.std.specs.List.{slice_get}
use Rattle.std.specs.Option.{unwrap_or}
use Rattle.rights_core.specs.Rights.{with_networks}
use Rattle.rights_core.proofs.Given.{entry_found, entry_missing}
use Rattle.rights_core.proofs.rights.Rights.entry.Goals as goal

pub returns-in-Some : goal.returns-in-Some
returns-in-Some c =
    let view : c.args.self.now.grants ≡ with_networks c.self.inside.ticket.grants c.self.inside.networks.items = cc in
    let network : c.network_at-network.result ≡ unwrap_or (slice_get c.self.inside.networks.items c.args.index) None = cc in
    let item = c.in-Some.ensures.lookup.3 in
    entry_found c.args.self.now.grants c.self.inside.ticket.grants c.grants.result.now c.self.inside.networks.items c.args.index c.in-Some.entry.now c.network_at-network.result view c.grants.ensures.grants item.0 (item.1 c.in-Some.entry.now) network

pub returns-in-None : goal.returns-in-None
returns-in-None c =
    let view : c.args.self.now.grants ≡ with_networks c.self.inside.ticket.grants c.self.inside.networks.items = cc in
    entry_missing c.args.self.now.grants c.self.inside.ticket.grants c.grants.result.now c.self.inside.networks.items c.args.index view c.grants.ensures.grants c.in-None.ensures.lookup.3
