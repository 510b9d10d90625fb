use Rattle.std.proofs.Common.{◌-◌}
use Rattle.verdict_core.specs.Chains.{AreChained}
use Rattle.verdict_core.specs.Kinds.{chains_of}
use Rattle.verdict_core.proofs.chains.Chains.by.Given as goal

abbrev pub invariant-loop-done : goal.invariant-loop-done
invariant-loop-done l = AreChained (l.count - l.done) (chains_of l.kinds.items l.grants) l.first.items l.next.items
