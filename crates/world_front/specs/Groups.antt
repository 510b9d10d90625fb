-- Statement: contracts of public calls use it.
-- Which group a request and an entry belong to.
use Rattle.std.specs.Prelude.{ℕ, ◌+◌, List, [], ◌∷◌, Bool, if◌then◌else◌, ◌&&◌, ◌==◌, map}
use Rattle.std.specs.List.{range_with_len}
use Rattle.std.specs.Str.{bytes_eq}
use Rattle.map_core.specs.State.{History}
use Rattle.map_core.specs.Map.{is_named, map_of}
use Rattle.map_core.specs.Refusal.{groups_in}
use Rattle.map_core.specs.declared.pool.Pool.{Pool}
use Rattle.entry_core.specs.Locality.{group_for}
use Rattle.store_core.specs.Request.{Sealed}
use Rattle.store_core.specs.declared.entry.Entry.{Entry}
use Rattle.store_core.specs.declared.sealed.GroupId.{GroupId}

abbrev pub is_same_group : GroupId → GroupId → Bool
is_same_group a b = bytes_eq a.pool b.pool && (a.number == b.number)

-- whether a request is sealed for that group
abbrev pub is_for : GroupId → Sealed → Bool
is_for group s = is_same_group group (group_for s)

-- whether an entry was decided for that group
abbrev pub is_of : GroupId → Entry → Bool
is_of group e = is_for group e.sealed

-- the groups of a pool, by number
abbrev pub groups_of : Pool → List GroupId
groups_of pool = map (λ n. record { pool = pool.name; number = n }) (range_with_len 0 pool.pg_num)

-- how many groups a pool of the map has
abbrev pub group_count : History → List ℕ → ℕ
group_count history pool = groups_in (map_of history).pools pool

-- the place of a group among those of the pools: the earlier pools' groups, and its number
abbrev pub place_in : List Pool → GroupId → ℕ
place_in [] id = id.number
place_in (pool ∷ pools) id = if is_named id.pool pool then id.number else pool.pg_num + place_in pools id
