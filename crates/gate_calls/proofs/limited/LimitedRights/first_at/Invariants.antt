use Rattle.std.proofs.Common.{◌≡◌, not, take, All}
use Rattle.rights_core.specs.Verdicts.{allowed_at}
use Rattle.gate_calls.proofs.limited.LimitedRights.first_at.Given as goal

abbrev pub invariant-loop-sample : goal.invariant-loop-sample
invariant-loop-sample l = All (λ a. allowed_at l.self l.target l.needs l.tick a ≡ not l.verdict) (take l.sample-index l.samples)
