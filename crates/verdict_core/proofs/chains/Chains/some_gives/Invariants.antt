use Rattle.std.proofs.Common.{◌≡◌, ℕ, ◌<◌, Some, option_copied}
use Rattle.std.specs.List.{slice_get}
use Rattle.verdict_core.specs.declared.kinds.IndexKey.{IndexKey}
use Rattle.verdict_core.specs.Chains.{NoneOfKind}
use Rattle.verdict_core.proofs.chains.Chains.some_gives.Given as goal

-- no grant that is found by the kinds so far gives what is asked
abbrev pub invariant-loop-kind : goal.invariant-loop-kind
invariant-loop-kind g l = (j : ℕ) (kind : IndexKey) → j < l.kind-index → slice_get l.kind-items j ≡ Some kind → NoneOfKind kind l.self.kinds.items l.grants l.target l.needs (option_copied l.call)
