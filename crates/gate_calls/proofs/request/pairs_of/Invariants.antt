use Rattle.std.proofs.Common.{◌≡◌, map, take}
use Rattle.gate_calls.specs.Border as spec
use Rattle.gate_calls.proofs.request.pairs_of.Given as goal

abbrev pub invariant-loop-pair : goal.invariant-loop-pair
invariant-loop-pair l = l.made.items ≡ map spec.pair_of (take l.pair-index l.pairs)
