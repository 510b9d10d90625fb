use Rattle.std.proofs.Common.{◌≡◌, ◌≤◌, ◌+◌, ◌++◌, length}
use Rattle.rights_core.specs.Given.{reached}
use Rattle.rights_core.specs.Rights.{with_networks}
use Rattle.rights_core.proofs.rights.Rights.ticket_from.Given as goal

abbrev pub invariant-loop-entry : goal.invariant-loop-entry
invariant-loop-entry l = record {
  given : l.given.items ++ reached (with_networks l.grants l.networks) l.from ≡ reached l.self.grants l.from;
  few : length l.given.items + length l.grants ≤ 16384;
}

abbrev pub decreases-loop-entry : goal.decreases-loop-entry
decreases-loop-entry l = length l.grants
