use Rattle.std.proofs.Common.{◌≡◌, map, take}
use Rattle.gate_calls.specs.Border as spec
use Rattle.gate_calls.proofs.request.calls_of.Given as goal

abbrev pub invariant-loop-call : goal.invariant-loop-call
invariant-loop-call l = l.made.items ≡ map spec.call_of (take l.call-index l.calls)
