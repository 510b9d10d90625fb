use Rattle.std.proofs.Common.{sym, arith}
use Rattle.network_core.proofs.Widths.{first_of_all}
use Rattle.network_core.proofs.sampling.edges.Goals as goal

pub returns-then-behind-clause-first : goal.returns-then-behind-clause-first
returns-then-behind-clause-first c = sym (first_of_all c.args.base.now c.args.length c.saturating_sub-behind.result (omega arith) (omega arith) c.if-behind.true)
