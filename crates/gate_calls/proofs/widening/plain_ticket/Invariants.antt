use Rattle.std.proofs.Common.{◌≡◌, take}
use Rattle.gate_calls.proofs.widening.plain_ticket.Given as goal

abbrev pub invariant-loop-entry : goal.invariant-loop-entry
invariant-loop-entry l = l.grants.items ≡ take l.entry-index l.entries
