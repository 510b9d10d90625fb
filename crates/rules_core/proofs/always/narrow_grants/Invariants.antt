use Rattle.std.proofs.Common.{◌≡◌, ◌++◌, length}
use Rattle.rules_core.specs.Narrowed.{narrowed}
use Rattle.rules_core.proofs.always.narrow_grants.Given as goal

-- what is kept, and what is kept of the rest, is the whole
abbrev pub invariant-loop-entry : goal.invariant-loop-entry
invariant-loop-entry l = l.kept.items ++ narrowed l.pool l.rest ≡ narrowed l.pool l.grants

abbrev pub decreases-loop-entry : goal.decreases-loop-entry
decreases-loop-entry l = length l.rest
