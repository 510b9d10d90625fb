-- Statement: contracts of public calls use it.
-- Where objects and groups are placed.
use Rattle.std.specs.Prelude.{◌≡◌, ℕ, ◌*◌, ◌%◌, ◌^◌, ◌<◌, ◌≤◌, ◌≢◌, List, ◌∷◌, ◌++◌, length, min, bit_xor, fold, filter, count_by, Contains, All, AllPairs, ◌⊎◌, Bool, Option, slice_index_or, false, ◌||◌, ◌&&◌, ◌==◌, nat_lt}
use Rattle.std.specs.List.{find, filter_map, range_with_len}
use Rattle.std.specs.Fmt.{decimal}

-- one byte of FNV-1a of 32 bits (Fowler, Noll and Vo): exclusive or, then times the prime
abbrev pub fnv_step : ℕ → ℕ → ℕ
fnv_step hash byte = bit_xor hash byte * 16777619 % 2 ^ 32

-- FNV-1a of 32 bits
abbrev pub fnv : List ℕ → ℕ
fnv bytes = fold fnv_step 2166136261 bytes

-- the group of an object: the hash of its namespace, byte 31 and its name (an object's name is hashed to a placement group: the RADOS paper; the hash: this project's profile)
abbrev pub group_of : List ℕ → List ℕ → ℕ → ℕ
group_of namespace name pg_num = fnv (namespace ++ 31 ∷ name) % pg_num

-- the value by which a group ranks a daemon: the hash of the text pool.group.daemon (this project's profile)
unfoldable pub rank_of : List ℕ → ℕ → ℕ → ℕ
rank_of pool group daemon = fnv (pool ++ (46 ∷ decimal group) ++ (46 ∷ decimal daemon))

-- a group has the first daemon before the second: a greater value, or an equal one and a smaller number
abbrev pub Before : List ℕ → ℕ → ℕ → ℕ → Type 0
Before pool group a b = (rank_of pool group b < rank_of pool group a) ⊎ ((rank_of pool group a ≡ rank_of pool group b) × (a < b))

-- a group's acting set (Ceph Peering: the ordered list of daemons that serve it): `size` of the up daemons, or all if
-- fewer are up, in order; each that is left out would be after them all
pub record IsActing (pool : List ℕ) (group : ℕ) (up : List ℕ) (size : ℕ) (members : List ℕ) : Type 0 where
  pub count : length members ≡ min size (length up)
  pub from_up : All (Contains up) members
  pub in_order : AllPairs (Before pool group) members
  pub left_out : All (λ d. Contains members d ⊎ All (λ m. Before pool group m d) members) up

-- at most five daemons, each once, and each of them up
pub record IsActingSet (up members : List ℕ) : Type 0 where
  pub few : length members ≤ 5
  pub distinct : AllPairs (λ a b. a ≢ b) members
  pub from_up : All (Contains up) members

-- whether a group has the first daemon before the second
unfoldable pub is_before : List ℕ → ℕ → ℕ → ℕ → Bool
is_before pool group a b = nat_lt (rank_of pool group b) (rank_of pool group a) || (rank_of pool group a == rank_of pool group b && nat_lt a b)

-- the up daemon with exactly `place` up daemons before it
abbrev pub daemon_at : List ℕ → ℕ → List ℕ → ℕ → Option ℕ
daemon_at pool group up place = find (λ d. count_by (λ e. is_before pool group e d) up == place) up

-- the acting set as a function, by counting: the daemons with 0, 1, .. others before them
unfoldable pub acting_of : List ℕ → ℕ → List ℕ → ℕ → List ℕ
acting_of pool group up size = filter_map (daemon_at pool group up) (range_with_len 0 (min size (length up)))

-- the numbers of the daemons whose flag is set, from the smallest on
unfoldable pub numbers_of : List Bool → List ℕ
numbers_of flags = filter (λ d. slice_index_or flags d false) (range_with_len 0 (length flags))
