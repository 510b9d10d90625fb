use Rattle.std.proofs.Common.{◌≡◌, None}
use Rattle.rules_core.specs.Requests.{request_with}
use Rattle.rules_core.proofs.SoFar.{SoFar}
use Rattle.rules_core.proofs.requests.request_at.Given as goal

abbrev pub invariant-loop-entry : goal.invariant-loop-entry
invariant-loop-entry l = SoFar (λ entry. request_with entry l.target l.writes ≡ None) l.grants l.entry-index
