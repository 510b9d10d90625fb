use Rattle.std.proofs.Common.{ℕ, List}
use Rattle.std.specs.declared.net.ip_addr.IpAddr.{IpAddr}
use Rattle.std.specs.declared.net.ip_addr.IpAddr.TheVariants as Ip
use Rattle.std.specs.Net.Grammar.{IsIpText}
use Rattle.network_core.specs.declared.address.Address.{Address}
use Rattle.network_core.specs.declared.address.Address.TheVariants.{V4, V6}
use Rattle.network_core.specs.Address.{IsAddressText}
use Rattle.network_core.proofs.address.Address.parse.Goals as goal

writes_none : (text : List ℕ) → ((ip : IpAddr) → ¬ (IsIpText text ip)) → (a : Address) → ¬ (IsAddressText text a)
writes_none text none (V4 n) h = none (Ip.V4 h.0) h.1
writes_none text none (V6 n) h = none (Ip.V6 h.0) h.1

pub returns-in-Err : goal.returns-in-Err
returns-in-Err c = writes_none c.args.text.now c.in-Err.ensures
