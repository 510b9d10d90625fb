-- Statement: contracts of public calls use it.
-- The map as the fold of its commands (commands and limits: this project's profile, after the Ceph manual's Pools chapter).
use Rattle.std.specs.Prelude.{ℕ, ◌+◌, ◌-◌, List, [], ◌∷◌, ◌++◌, Bool, true, false, if◌then◌else◌, Option, length, take, fold, map, slice_set, nat_lt}
use Rattle.std.specs.List.{find, range_with_len}
use Rattle.std.specs.Option.{option_map}
use Rattle.std.specs.Str.{bytes_eq}
use Rattle.common_types.specs.declared.tags.AppTags.{AppTags}
use Rattle.map_core.specs.State.{MapState, History}
use Rattle.map_core.specs.declared.pool.Pool.{Pool}
use Rattle.map_core.specs.declared.pool.PoolView.{PoolView}
use Rattle.map_core.specs.declared.command.MapCommand.{MapCommand}
use Rattle.map_core.specs.declared.command.MapCommand.TheVariants.{PoolCreate, AppEnable, AppSet, AppRm, OsdUp, OsdDown}

-- the first element that passes, changed
abbrev pub change_first : {X : Type 0} → (X → Bool) → (X → X) → List X → List X
change_first test change [] = []
change_first test change (x ∷ xs) = if test x then change x ∷ xs else x ∷ change_first test change xs

abbrev pub is_named : List ℕ → Pool → Bool
is_named name pool = bytes_eq pool.name name

abbrev pub is_app : List ℕ → AppTags → Bool
is_app app tags = bytes_eq tags.application app

-- a pair of this key
abbrev pub is_key : List ℕ → List ℕ × List ℕ → Bool
is_key key pair = bytes_eq pair.0 key

-- a key has one value: a new one takes the old one's place, and a new key stands last
abbrev pub put_pair : List ℕ → List ℕ → List (List ℕ × List ℕ) → List (List ℕ × List ℕ)
put_pair key value [] = (key, value) ∷ []
put_pair key value (pair ∷ pairs) = if is_key key pair then (pair.0, value) ∷ pairs else pair ∷ put_pair key value pairs

-- without the pair of this key
abbrev pub without_pair : List ℕ → List (List ℕ × List ℕ) → List (List ℕ × List ℕ)
without_pair key [] = []
without_pair key (pair ∷ pairs) = if is_key key pair then pairs else pair ∷ without_pair key pairs

-- the applications, with the pairs of this one changed
abbrev pub with_pairs : List ℕ → (List (List ℕ × List ℕ) → List (List ℕ × List ℕ)) → List AppTags → List AppTags
with_pairs app change tags = change_first (is_app app) (λ a. record a { pairs = change a.pairs }) tags

-- what a command leaves of the applications of the pool that it names
abbrev pub tags_after : MapCommand → List AppTags → List AppTags
tags_after (AppEnable pool app) tags = tags ++ (record { application = app; pairs = [] }) ∷ []
tags_after (AppSet pool app key value) tags = with_pairs app (put_pair key value) tags
tags_after (AppRm pool app key) tags = with_pairs app (without_pair key) tags
tags_after _ tags = tags

abbrev pub tagged : MapCommand → Pool → Pool
tagged command pool = record pool { tags = tags_after command pool.tags }

abbrev pub created : List ℕ → ℕ → ℕ → ℕ → Pool
created name pg_num size min_size = record { name = name; pg_num = pg_num; size = size; min_size = min_size; tags = [] }

-- the pools that a command leaves
abbrev pub pools_after : MapCommand → List Pool → List Pool
pools_after (PoolCreate name pg_num size min_size) pools = pools ++ created name pg_num size min_size ∷ []
pools_after (AppEnable pool app) pools = change_first (is_named pool) (tagged (AppEnable pool app)) pools
pools_after (AppSet pool app key value) pools = change_first (is_named pool) (tagged (AppSet pool app key value)) pools
pools_after (AppRm pool app key) pools = change_first (is_named pool) (tagged (AppRm pool app key)) pools
pools_after _ pools = pools

-- the flags of the daemons that are up, which a command leaves
abbrev pub up_after : MapCommand → List Bool → List Bool
up_after (OsdUp daemon) up = slice_set up daemon true
up_after (OsdDown daemon) up = slice_set up daemon false
up_after _ up = up

-- what an accepted command leaves
abbrev pub after : MapState → MapCommand → MapState
after state command = record state { pools = pools_after command state.pools; up = up_after command state.up }

-- at first there are no pools, and all daemons are up
abbrev pub initial : ℕ → MapState
initial daemons = record { daemons = daemons; pools = []; up = map (λ d. nat_lt d daemons) (range_with_len 0 16) }

-- the map after these commands
abbrev pub map_after : ℕ → List MapCommand → MapState
map_after daemons commands = fold after (initial daemons) commands

abbrev pub map_of : History → MapState
map_of history = map_after history.daemons history.commands

-- the present epoch: the first is 1, and each command makes one
abbrev pub epoch_of : History → ℕ
epoch_of history = length history.commands + 1

-- the pool of this name
unfoldable pub pool_in : List Pool → List ℕ → Option Pool
pool_in pools name = find (is_named name) pools

abbrev pub view_of : ℕ → Pool → PoolView
view_of epoch pool = record { epoch = epoch; pool = pool.name; pg_num = pool.pg_num; size = pool.size; min_size = pool.min_size; tags = pool.tags }

-- the pool as it was at an epoch: after `epoch - 1` commands
unfoldable pub view_at : History → List ℕ → ℕ → Option PoolView
view_at history name epoch = option_map (view_of epoch) (pool_in (map_after history.daemons (take (epoch - 1) history.commands)).pools name)
