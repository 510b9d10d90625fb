use Rattle.std.proofs.Common.{arith, rules}
use Rattle.flow_core.proofs.Ordered.{rising_sorted}
use Rattle.std.proofs.lemmas.Grind.{common_steps}
use Rattle.flow_core.proofs.chains.in_order.Goals as goal

pub returns-clause-rising : goal.returns-clause-rising
returns-clause-rising c =
    rising_sorted c.sort_unstable_keys.new.self.entries c.loop-end.listed.items (search rules) c.in_ok-sort_unstable_keys.ensures.sorted c.in_ok-sort_unstable_keys.ensures.unique

pub loop-end-preserved : goal.loop-end-preserved
loop-end-preserved c = grind (arith, common_steps)
