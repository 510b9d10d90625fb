use Rattle.std.proofs.Common.{◌≡◌, ◌<◌, ◌-◌, length, option_copied, get_or}
use Rattle.verdict_core.specs.Kinds.{chains_of}
use Rattle.verdict_core.specs.Chains.{NoneBefore}
use Rattle.verdict_core.proofs.chains.Chains.chain_gives.Given as goal

-- so far no grant of the chain gives it, and the next place is of the chain
abbrev pub invariant-loop-place : goal.invariant-loop-place
invariant-loop-place g l = record {
  none : NoneBefore l.self.kinds.items l.place l.grants l.chain l.target l.needs (option_copied l.call);
  same : l.place < length l.grants → get_or (chains_of l.self.kinds.items l.grants) l.place 0 ≡ l.chain;
}

abbrev pub decreases-loop-place : goal.decreases-loop-place
decreases-loop-place g l = length l.grants - l.place
