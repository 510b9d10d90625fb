use Rattle.std.proofs.Common.{option_copied}
use Rattle.rules_core.proofs.NearSteps.{AreDone}
use Rattle.rules_core.proofs.checking.findings.Given as goal

abbrev pub invariant-loop-place : goal.invariant-loop-place
invariant-loop-place l = AreDone (option_copied l.pools) l.rule l.entities l.places l.place-index l.founds.items
