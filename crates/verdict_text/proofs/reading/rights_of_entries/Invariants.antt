use Rattle.std.proofs.Common.{◌≡◌, length}
use Rattle.rights_core.specs.Rights.{with_networks}
use Rattle.verdict_text.specs.Reading.{AreGrantsOf}
use Rattle.verdict_text.proofs.reading.rights_of_entries.Given as goal

-- the grants so far are those of the entries so far
abbrev pub invariant-loop-entry : goal.invariant-loop-entry
invariant-loop-entry l = record {
  are : AreGrantsOf l.yielded (with_networks l.grants.items l.networks.items);
  grants : length l.grants.items ≡ length l.yielded;
  networks : length l.networks.items ≡ length l.yielded;
}
