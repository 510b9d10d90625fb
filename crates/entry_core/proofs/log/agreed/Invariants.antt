use Rattle.std.proofs.Common.{◌≡◌, ◌+◌, drop}
use Rattle.entry_core.specs.Fitting.{agreed}
use Rattle.entry_core.proofs.log.agreed.Given as goal

abbrev pub invariant-loop-place : goal.invariant-loop-place
invariant-loop-place l = agreed l.entries l.part ≡ l.place + agreed (drop l.place l.entries) (drop l.place l.part)
