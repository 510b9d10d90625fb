use Rattle.std.proofs.Common.{◌≡◌, length}
use Rattle.std.specs.List.{list_any}
use Rattle.verdict_core.specs.Verdict as spec
use Rattle.verdict_core.proofs.judging.quick_has_usable.Given as goal

-- none of the grants so far is usable
abbrev pub invariant-loop-entry : goal.invariant-loop-entry
invariant-loop-entry l = list_any (λ entry. spec.is_usable entry.1 l.target l.needs) l.rest ≡ list_any (λ entry. spec.is_usable entry.1 l.target l.needs) l.grants

abbrev pub decreases-loop-entry : goal.decreases-loop-entry
decreases-loop-entry l = length l.rest
