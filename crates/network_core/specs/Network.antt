-- Statement: contracts of public calls use it.
-- Networks: the texts that write them, and the addresses that they match.
-- Source: measured on Ceph 16.2.15.
use Rattle.std.specs.Prelude.{◌≡◌, ℕ, ◌-◌, ◌/◌, ◌%◌, ◌^◌, List, ◌∷◌, ◌++◌, Bool, true, false, ◌&&◌, ◌==◌, min}
use Rattle.std.specs.Str.Parse.{IsNumeral, digits_value}
use Rattle.network_core.specs.declared.address.Address.{Address}
use Rattle.network_core.specs.declared.address.Address.TheVariants.{V4, V6}
use Rattle.network_core.specs.declared.network.Network.{Network}
use Rattle.network_core.specs.declared.network.Network.TheVariants.{Never, Range}
use Rattle.network_core.specs.Address.{width, number, IsAddressText}

-- the first bits of an address, as a number; all of them where it has fewer
abbrev pub first_bits : ℕ → Address → ℕ
first_bits length a = number a / 2 ^ (width a - length)

abbrev pub is_same_family : Address → Address → Bool
is_same_family (V4 m) (V4 n) = true
is_same_family (V4 m) (V6 n) = false
is_same_family (V6 m) (V4 n) = false
is_same_family (V6 m) (V6 n) = true

-- whether a network matches an address: both are of one family and have the same first bits
abbrev pub matches : Network → Address → Bool
matches Never a = false
matches (Range base length) a = is_same_family base a && (first_bits length base == first_bits length a)

-- what decimal digits say of a length: 2^63 - 1 where they write more, and of that the last 32 bits
abbrev pub length_value : List ℕ → ℕ
length_value digits = min 9223372036854775807 (digits_value 10 digits) % 4294967296

-- the text writes this network: an address, a slash and a decimal length, which may have leading zeros and is the family's
-- width where it is more
pub record IsNetworkText (text : List ℕ) (base : Address) (length : ℕ) : Type 0 where
  pub before : List ℕ
  pub digits : List ℕ
  pub spelled : text ≡ before ++ 47 ∷ digits
  pub is_address : IsAddressText before base
  pub is_numeral : IsNumeral 10 digits
  pub value : length ≡ min (width base) (length_value digits)

-- what a text is read as: the network that it writes, or one that never matches where it writes none
abbrev pub IsReading : List ℕ → Network → Type 0
IsReading text Never = (base : Address) (length : ℕ) → ¬ (IsNetworkText text base length)
IsReading text (Range base length) = IsNetworkText text base length

abbrev pub is_never : Network → Bool
is_never Never = true
is_never (Range base length) = false
