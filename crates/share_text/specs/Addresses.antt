-- Statement: contracts of public calls use it.
-- What rights whose grants have networks share, over all addresses.
-- Source: this project. A request may come from any address, so rights share what they share from some address of each.
use Rattle.std.specs.Prelude.{◌↔◌, List, [], ◌∷◌, Option, None, Some}
use Rattle.network_core.specs.declared.address.Address.{Address}
use Rattle.network_core.specs.declared.network.Network.{Network}
use Rattle.network_core.specs.declared.network.Network.TheVariants.{Never, Range}
use Rattle.network_core.specs.Address.{IsAddress}
use Rattle.rights_core.specs.Rights.{NetworkGrant, grants_at, live_grants}
use Rattle.share_core.specs.declared.pools.Pool.{Pool}
use Rattle.share_text.specs.Kinds.{ShareWithin}
use Rattle.share_text.specs.declared.kind.Kind.{Kind}

-- the number that a network begins with fits its type
abbrev pub IsNetwork : Option Network → Type 0
IsNetwork None = Unit {0}
IsNetwork (Some Never) = Unit {0}
IsNetwork (Some (Range base length)) = IsAddress base

abbrev pub AreNetworks : List NetworkGrant → Type 0
AreNetworks [] = Unit {0}
AreNetworks (entry ∷ entries) = IsNetwork entry.network × AreNetworks entries

-- what the ones have at some address and what the others have at some address share something of a kind
abbrev pub ShareFrom : Option (List Pool) → Kind → List NetworkGrant → List NetworkGrant → Type 0
ShareFrom pools kind ones others =
    (a b : Address) × IsAddress a × IsAddress b × ShareWithin pools kind (grants_at ones a) (grants_at others b)

-- the grants that some address has share something of a kind exactly where two addresses do
abbrev pub SharesAreFromAddresses : Type 0
SharesAreFromAddresses =
    (pools : Option (List Pool)) (kind : Kind) (ones others : List NetworkGrant) → AreNetworks ones → AreNetworks others
    → ShareWithin pools kind (live_grants ones) (live_grants others) ↔ ShareFrom pools kind ones others
