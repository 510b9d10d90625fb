-- Statement: contracts of public calls use it.
-- The networks of grants among some list of networks, and the grants that an address has, or that some address has.
use Rattle.std.specs.Prelude.{ℕ, List, [], ◌∷◌, Option, None, Some, if◌then◌else◌}
use Rattle.std.specs.List.{Contains}
use Rattle.cap_grants.specs.declared.grant.AllowGrant.{AllowGrant}
use Rattle.network_core.specs.declared.address.Address.{Address}
use Rattle.network_core.specs.declared.network.Network.{Network}
use Rattle.rights_core.specs.Reports.{is_reached}
use Rattle.rights_core.specs.Rights.{NetworkGrant}

abbrev pub HasNetwork : List Network → Option Network → Type 0
HasNetwork networks None = Unit {0}
HasNetwork networks (Some network) = Contains networks network

-- the list has the network of each grant
abbrev pub HasNetworks : List Network → List NetworkGrant → Type 0
HasNetworks networks [] = Unit {0}
HasNetworks networks (entry ∷ entries) = HasNetwork networks entry.network × HasNetworks networks entries

-- the grants that the address has, or that some address has if none is given, in order
abbrev pub reached : List NetworkGrant → Option Address → List (List ℕ × AllowGrant)
reached [] from = []
reached (entry ∷ entries) from = if is_reached entry.network from then (entry.path, entry.grant) ∷ reached entries from else reached entries from
