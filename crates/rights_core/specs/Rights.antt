-- Statement: contracts of public calls use it.
-- What an entity may do at an address.
-- Source: Ceph User Management, "Authorization capabilities": a grant with a network is for requests from that network.
use Rattle.std.specs.Prelude.{ℕ, List, [], ◌∷◌, Bool, true, false, not, ◌||◌, Option, None, Some, if◌then◌else◌}
use Rattle.cap_grants.specs.declared.grant.AllowGrant.{AllowGrant}
use Rattle.network_core.specs.declared.address.Address.{Address}
use Rattle.network_core.specs.declared.network.Network.{Network}
use Rattle.network_core.specs.Network.{is_never, matches}
use Rattle.verdict_core.specs.Ticket.{Ticket}

-- a grant with its path, for the addresses of a network, or for all where it has none
pub record NetworkGrant : Type 0 where
  pub path : List ℕ
  pub network : Option Network
  pub grant : AllowGrant

-- the grants, and the first tick at which they hold no more
pub record Rights : Type 0 where
  pub grants : List NetworkGrant
  pub until : Option ℕ

-- a grant without a network is for every address, any other for those that its network matches
abbrev pub is_for : Option Network → Address → Bool
is_for None a = true
is_for (Some network) a = matches network a

-- the grants that an address has, in order
abbrev pub grants_at : List NetworkGrant → Address → List (List ℕ × AllowGrant)
grants_at [] a = []
grants_at (entry ∷ entries) a = if is_for entry.network a then (entry.path, entry.grant) ∷ grants_at entries a else grants_at entries a

-- the ticket that an address has
abbrev pub ticket_at : Rights → Address → Ticket
ticket_at rights a = record { grants = grants_at rights.grants a; until = rights.until }

-- whether a grant with this network, or with none, is for some address: every network but `Never` matches one
abbrev pub is_live : Option Network → Bool
is_live None = true
is_live (Some network) = not (is_never network)

-- the grants that some address has, in order
abbrev pub live_grants : List NetworkGrant → List (List ℕ × AllowGrant)
live_grants [] = []
live_grants (entry ∷ entries) = if is_live entry.network then (entry.path, entry.grant) ∷ live_grants entries else live_grants entries

-- the ticket of the grants that some address has
abbrev pub live_ticket : Rights → Ticket
live_ticket rights = record { grants = live_grants rights.grants; until = rights.until }

abbrev pub has_network : Option Network → Bool
has_network None = false
has_network (Some network) = true

-- whether some grant has a network
abbrev pub has_networks : List NetworkGrant → Bool
has_networks [] = false
has_networks (entry ∷ entries) = has_network entry.network || has_networks entries

-- grants with networks beside them: one for each grant, none for those at the end that have no place there
abbrev pub with_networks : List (List ℕ × AllowGrant) → List (Option Network) → List NetworkGrant
with_networks [] networks = []
with_networks (g ∷ gs) [] = record { path = g.0; network = None; grant = g.1 } ∷ with_networks gs []
with_networks (g ∷ gs) (n ∷ ns) = record { path = g.0; network = n; grant = g.1 } ∷ with_networks gs ns
