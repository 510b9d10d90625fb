use Rattle.std.proofs.Common.{◌≡◌, ◌++◌, string_bytes, drop, codes}
use Rattle.std.specs.List.{flat_map}
use Rattle.audit_text.specs.Csv.{field}
use Rattle.share_core.specs.declared.pools.Pool.{Pool}
use Rattle.audit_text.proofs.csv.push_pool_fields.Given as goal

-- what is written, and what the rest gives, is the whole
abbrev pub invariant-loop-pool : goal.invariant-loop-pool
invariant-loop-pool l =
    string_bytes l.text ++ flat_map (λ (pool : Pool). codes "," ++ field pool.name) (drop l.pool-index l.pools) ≡ string_bytes l.initial.text ++ flat_map (λ (pool : Pool). codes "," ++ field pool.name) l.pools
