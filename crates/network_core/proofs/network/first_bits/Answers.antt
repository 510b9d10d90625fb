use Rattle.std.proofs.Common.{sym, arith}
use Rattle.network_core.proofs.Widths.{no_bits}
use Rattle.network_core.proofs.network.first_bits.Goals as goal

pub returns-then-behind : goal.returns-then-behind
returns-then-behind c = sym (no_bits c.args.address.now c.args.length c.saturating_sub-behind.result (omega arith) (omega arith) c.if-behind.true)
