use Rattle.std.proofs.Common.{◌≡◌, take}
use Rattle.entry_core.specs.Fitting.{requests_of}
use Rattle.entry_core.proofs.log.requests_of.Given as goal

abbrev pub invariant-loop-entry : goal.invariant-loop-entry
invariant-loop-entry l = l.requests.items ≡ requests_of (take l.entry-index l.entries)
