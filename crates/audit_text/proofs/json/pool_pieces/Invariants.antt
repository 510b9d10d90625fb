use Rattle.std.proofs.Common.{◌≡◌, ◌++◌, string_bytes, drop}
use Rattle.std.specs.List.{flat_map}
use Rattle.verdict_text.specs.Documents.{piece}
use Rattle.audit_text.specs.Json.{pool_document}
use Rattle.share_core.specs.declared.pools.Pool.{Pool}
use Rattle.audit_text.proofs.json.pool_pieces.Given as goal

-- what is written, and what the rest gives, is the whole
abbrev pub invariant-loop-pool : goal.invariant-loop-pool
invariant-loop-pool l =
    string_bytes l.text ++ flat_map (λ (pool : Pool). piece (pool_document pool)) (drop l.pool-index l.pools) ≡ string_bytes l.initial.text ++ flat_map (λ (pool : Pool). piece (pool_document pool)) l.pools
