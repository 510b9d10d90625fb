-- Statement: contracts of public calls use it.
-- Which grants of a list match no pool of a cluster (this project's profile).
use Rattle.std.specs.Prelude.{List, [], ◌∷◌, Bool, map, not}
use Rattle.std.specs.List.{list_any}
use Rattle.cap_grants.specs.declared.grant.Grant.{Grant}
use Rattle.grant_core.specs.Flat.{Table, flat}
use Rattle.share_core.specs.Pools.{is_for}
use Rattle.share_core.specs.declared.pools.Pool.{Pool}

-- none of the grants that a grant of a list expands to matches one of the pools
abbrev pub matches_no_pool : Table → List Pool → Grant → Bool
matches_no_pool table pools grant = not (list_any (λ entry. list_any (is_for entry.1) pools) (flat table (grant ∷ [])))

-- for each grant of a list, in order: whether it matches no pool
abbrev pub without_pools : Table → List Pool → List Grant → List Bool
without_pools table pools grants = map (matches_no_pool table pools) grants
