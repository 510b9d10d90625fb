use Rattle.std.proofs.Common.{option_copied}
use Rattle.verdict_core.specs.Chains.{NoneOfPairs}
use Rattle.verdict_core.proofs.chains.Chains.pairs_give.Given as goal

abbrev pub invariant-loop-pair : goal.invariant-loop-pair
invariant-loop-pair g l = NoneOfPairs l.pair-index l.pair-items l.app.application l.front l.self.kinds.items l.grants l.target l.needs (option_copied l.call)
