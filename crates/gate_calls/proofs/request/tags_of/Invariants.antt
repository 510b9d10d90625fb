use Rattle.std.proofs.Common.{◌≡◌, map, take}
use Rattle.gate_calls.specs.Border as spec
use Rattle.gate_calls.proofs.request.tags_of.Given as goal

abbrev pub invariant-loop-application : goal.invariant-loop-application
invariant-loop-application l = l.made.items ≡ map spec.tags_of (take l.application-index l.applications)
