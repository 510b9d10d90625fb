-- Refinement: only contracts inside the crate use it.
-- Grants as they are in one pool.
use Rattle.std.specs.Prelude.{[], ◌∷◌, Some, None, if◌then◌else◌}
use Rattle.cap_grants.specs.declared.grant.AllowGrant.{AllowGrant}
use Rattle.grant_core.specs.Flat.{Flat}
use Rattle.request_types.specs.Target.{Target}
use Rattle.compare_core.specs.declared.comparing.Example.{Example}
use Rattle.share_core.specs.Pools.{is_for}
use Rattle.share_core.specs.declared.pools.Pool.{Pool}

-- a grant that is for the pool, which names it and asks for no tag
abbrev pub narrow : Pool → AllowGrant → AllowGrant
narrow pool g = record g { pool = Some pool.name; tag = None }

-- those that are for the pool
abbrev pub narrowed : Pool → Flat → Flat
narrowed pool [] = []
narrowed pool (entry ∷ entries) = if is_for entry.1 pool then (entry.0, narrow pool entry.1) ∷ narrowed pool entries else narrowed pool entries

-- the same target of the pool, with exactly its tags
abbrev pub at_pool : Pool → Target → Target
at_pool pool target = record target { pool = pool.name; tags = pool.tags }

-- the same request there
abbrev pub placed : Pool → Example → Example
placed pool example = record example { target = at_pool pool example.target }
