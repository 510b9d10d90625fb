use Rattle.std.proofs.Common.{◌≡◌, drop}
use Rattle.verdict_core.specs.Kinds.{chain_of}
use Rattle.verdict_core.proofs.kinds.chain_of.Given as goal

-- the grant is of none of the kinds so far
abbrev pub invariant-loop-kind : goal.invariant-loop-kind
invariant-loop-kind l = chain_of (drop l.kind-index l.kinds) l.grant ≡ chain_of l.kinds l.grant
