use Rattle.std.proofs.Common.{◌≡◌, take}
use Rattle.std.specs.List.{filter_map}
use Rattle.object_core.specs.Needs.{call_of}
use Rattle.object_core.proofs.needs.calls_of.Given as goal

abbrev pub invariant-loop-op : goal.invariant-loop-op
invariant-loop-op l = l.calls.items ≡ filter_map call_of (take l.op-index l.ops)
