-- Refinement: only contracts inside the crate use it.
-- Where a network begins and ends.
use Rattle.std.specs.Prelude.{ℕ, ◌+◌, ◌-◌, ◌*◌, ◌^◌, ◌<◌, List}
use Rattle.std.specs.List.{Contains}
use Rattle.network_core.specs.declared.address.Address.{Address}
use Rattle.network_core.specs.declared.address.Address.TheVariants.{V4, V6}
use Rattle.network_core.specs.declared.network.Network.{Network}
use Rattle.network_core.specs.declared.network.Network.TheVariants.{Never, Range}
use Rattle.network_core.specs.Address.{width}
use Rattle.network_core.specs.Network.{first_bits}

-- the address of the same family with this number
abbrev pub with_number : Address → ℕ → Address
with_number (V4 m) n = V4 n
with_number (V6 m) n = V6 n

-- the number of the network's first address
abbrev pub first_number : Address → ℕ → ℕ
first_number base length = first_bits length base * 2 ^ (width base - length)

-- the number behind that of the network's last address
abbrev pub behind_number : Address → ℕ → ℕ
behind_number base length = (first_bits length base + 1) * 2 ^ (width base - length)

-- the samples have the network's first address, and the one behind its last if there is one
abbrev pub HasEdges : List Address → Network → Type 0
HasEdges samples Never = Unit {0}
HasEdges samples (Range base length) =
    Contains samples (with_number base (first_number base length))
    × (behind_number base length < 2 ^ width base → Contains samples (with_number base (behind_number base length)))
