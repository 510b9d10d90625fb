use Rattle.std.proofs.Common.{◌≡◌, ◌+◌, drop}
use Rattle.verdict_core.specs.Verdict as spec
use Rattle.verdict_core.proofs.matching.uncovered.Given as goal

-- the calls so far are covered, so the first that is not is among the rest
abbrev pub invariant-loop-i : goal.invariant-loop-i
invariant-loop-i l = spec.uncovered_from (1 + l.i) l.access (drop l.i l.calls) ≡ spec.uncovered_from 1 l.access l.calls
