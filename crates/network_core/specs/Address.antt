-- Statement: contracts of public calls use it.
-- Addresses as numbers, and the texts that write them.
-- Source: inet_pton(3), which reads the dotted form of IPv4 and the text form of RFC 4291 (2.2); RFC 5952 for what is printed.
use Rattle.std.specs.Prelude.{◌≡◌, ℕ, ◌<◌, ◌^◌, List}
use Rattle.std.specs.Int.{w32, w128, to_be_bytes}
use Rattle.std.specs.declared.net.ipv4_addr.Ipv4Addr.{Ipv4Addr}
use Rattle.std.specs.declared.net.ipv6_addr.Ipv6Addr.{Ipv6Addr}
use Rattle.std.specs.Net.Addr.{ipv4_bits, ipv6_bits, segments_of}
use Rattle.std.specs.Net.Grammar.{IsIpv4Text, IsIpv6Text}
use Rattle.std.specs.Net.Text.{ipv4_text, ipv6_text}
use Rattle.network_core.specs.declared.address.Address.{Address}
use Rattle.network_core.specs.declared.address.Address.TheVariants.{V4, V6}

-- how many bits the addresses of its family have
abbrev pub width : Address → ℕ
width (V4 n) = 32
width (V6 n) = 128

-- its bits as a number, the first bit the highest
abbrev pub number : Address → ℕ
number (V4 n) = n
number (V6 n) = n

-- the number has that many bits
abbrev pub IsAddress : Address → Type 0
IsAddress a = number a < 2 ^ width a

-- the text writes the address: four decimal numbers below 256 without leading zeros and with dots between them, or the
-- eight groups of IPv6, of which `::` stands for one or more and a dotted IPv4 address for the last two
abbrev pub IsAddressText : List ℕ → Address → Type 0
IsAddressText text (V4 n) = (ip : Ipv4Addr) × IsIpv4Text text ip × (n ≡ ipv4_bits ip)
IsAddressText text (V6 n) = (ip : Ipv6Addr) × IsIpv6Text text ip × (n ≡ ipv6_bits ip)

-- what is printed
abbrev pub address_text : Address → List ℕ
address_text (V4 n) = ipv4_text (to_be_bytes w32 n)
address_text (V6 n) = ipv6_text (segments_of (to_be_bytes w128 n))
