-- Statement: contracts of public calls use it.
-- Finitely many addresses that decide a question over all addresses.
-- Source: this project. A network's addresses are consecutive, so which networks match changes only at the first address of a
-- network and at the one behind its last.
use Rattle.std.specs.Prelude.{◌≡◌, List, All}
use Rattle.std.specs.List.{Contains}
use Rattle.network_core.specs.declared.address.Address.{Address}
use Rattle.network_core.specs.declared.network.Network.{Network}
use Rattle.network_core.specs.Address.{IsAddress}
use Rattle.network_core.specs.Network.{matches}

-- the same of these networks match both addresses
abbrev pub AreAlike : List Network → Address → Address → Type 0
AreAlike networks a b = All (λ network. matches network a ≡ matches network b) networks

-- the samples are addresses, and for each address there is a sample that exactly the same networks match
pub record AreSamples (networks : List Network) (samples : List Address) : Type 0 where
  pub are_addresses : All IsAddress samples
  pub stand : (a : Address) → IsAddress a → (sample : Address) × Contains samples sample × AreAlike networks sample a
