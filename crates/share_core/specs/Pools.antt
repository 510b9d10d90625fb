-- Statement: contracts of public calls use it.
-- Which pools of a cluster a grant is for. What pools a cluster has is the Ceph manual's Pools chapter.
use Rattle.std.specs.Prelude.{◌&&◌, Bool}
use Rattle.cap_grants.specs.declared.grant.AllowGrant.{AllowGrant}
use Rattle.verdict_core.specs.Verdict.{matches_tag, names}
use Rattle.share_core.specs.declared.pools.Pool.{Pool}

-- a grant matches the pool's name and its tags, whatever the namespace and the object
abbrev pub is_for : AllowGrant → Pool → Bool
is_for g pool = names g.pool pool.name && matches_tag g.tag pool.tags
