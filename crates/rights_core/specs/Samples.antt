-- Statement: contracts of public calls use it.
-- Addresses that decide a question about several rights over all addresses.
use Rattle.std.specs.Prelude.{◌≡◌, List, All}
use Rattle.std.specs.List.{Contains}
use Rattle.network_core.specs.declared.address.Address.{Address}
use Rattle.network_core.specs.Address.{IsAddress}
use Rattle.rights_core.specs.Rights.{Rights, ticket_at}

-- each of the rights has the same ticket at both addresses
abbrev pub HaveSame : List Rights → Address → Address → Type 0
HaveSame all a b = All (λ rights. ticket_at rights a ≡ ticket_at rights b) all

-- the samples are addresses, and for each address there is a sample at which each of the rights has the same ticket
pub record DecideFor (all : List Rights) (samples : List Address) : Type 0 where
  pub are_addresses : All IsAddress samples
  pub stand : (a : Address) → IsAddress a → (sample : Address) × Contains samples sample × HaveSame all sample a
