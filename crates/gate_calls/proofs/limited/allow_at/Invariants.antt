use Rattle.std.proofs.Common.{◌≡◌, length}
use Rattle.rights_core.specs.Rights.{grants_at}
use Rattle.verdict_core.specs.Verdict.{grants_allow}
use Rattle.gate_calls.proofs.limited.allow_at.Given as goal

-- what the rest allows is what all allow
abbrev pub invariant-loop-entry : goal.invariant-loop-entry
invariant-loop-entry l = grants_allow (grants_at l.rest l.address) l.target l.needs ≡ grants_allow (grants_at l.rights.grants l.address) l.target l.needs

abbrev pub decreases-loop-entry : goal.decreases-loop-entry
decreases-loop-entry l = length l.rest
