use Rattle.std.proofs.Common.{◌≡◌, ◌++◌, map}
use Rattle.flow_core.specs.Searching.{entry_of}
use Rattle.flow_core.proofs.chains.in_order.Given as goal

-- what is listed and what is still to come are the entries in order
abbrev pub invariant-loop-end : goal.invariant-loop-end
invariant-loop-end l = map entry_of l.listed.items ++ l.end-iterator ≡ l.initial.end-iterator
