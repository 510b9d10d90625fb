use Rattle.std.proofs.Common.{◌≡◌, ◌++◌, length}
use Rattle.verdict_text.specs.Reasons as spec
use Rattle.verdict_text.proofs.reasons.reasons.Given as goal

-- those so far, and those of the rest, are those of all
abbrev pub invariant-loop-grant : goal.invariant-loop-grant
invariant-loop-grant l = l.found.items ++ spec.reasons l.entries l.lines ≡ spec.reasons l.rights.grants l.report

abbrev pub decreases-loop-grant : goal.decreases-loop-grant
decreases-loop-grant l = length l.entries
