use Rattle.std.proofs.Common.{◌≡◌, ap, sym, ◌∙◌}
use Rattle.std.specs.Net.Addr.{IsIpv4OfBits, IsIpv6OfBits}
use Rattle.std.specs.Net.Text.{ipv4_text, ipv6_text}
use Rattle.network_core.specs.Address.{address_text}
use Rattle.network_core.proofs.address.AddressDisplay.fmt.Goals as goal

pub returns-in-V4-clause-writes : goal.returns-in-V4-clause-writes
unfolding IsIpv4OfBits
returns-in-V4-clause-writes g c = λ plain ok. rw (ap address_text c.in-V4.is, ← ap ipv4_text c.from_bits.ensures) (c.fmt.ensures.writes plain ok)

pub returns-in-V6-clause-writes : goal.returns-in-V6-clause-writes
unfolding IsIpv6OfBits
returns-in-V6-clause-writes g c = λ plain ok. rw (ap address_text c.in-V6.is, ← ap ipv6_text c.from_bits-in-V6.ensures) (c.fmt-in-V6.ensures.writes plain ok)
