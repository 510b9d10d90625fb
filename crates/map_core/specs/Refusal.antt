-- Statement: contracts of public calls use it.
-- Why a command or a question is refused (names and limits: this project's profile).
use Rattle.std.specs.Prelude.{ℕ, List, [], ◌∷◌, Bool, true, false, not, ◌||◌, ◌&&◌, if◌then◌else◌, ◌==◌, Option, None, Some, length, slice_index_or, nat_lt, nat_le, is_some}
use Rattle.std.specs.List.{list_any, list_all, find}
use Rattle.std.specs.Option.{option_map_or}
use Rattle.std.specs.Str.{bytes_eq}
use Rattle.common_types.specs.WordBytes.{is_word_byte}
use Rattle.common_types.specs.declared.tags.AppTags.{AppTags}
use Rattle.map_core.specs.State.{MapState, History}
use Rattle.map_core.specs.Map.{map_of, epoch_of, is_app, pool_in, view_at}
use Rattle.map_core.specs.declared.pool.Pool.{Pool}
use Rattle.map_core.specs.declared.command.MapCommand.{MapCommand}
use Rattle.map_core.specs.declared.command.MapCommand.TheVariants.{PoolCreate, AppEnable, AppSet, AppRm, OsdUp, OsdDown, OsdRestart}
use Rattle.map_core.specs.declared.fault.MapFault.{MapFault}
use Rattle.map_core.specs.declared.fault.MapFault.TheVariants as fault

-- the fault of the first test that holds
abbrev pub first_of : List (Bool × MapFault) → Option MapFault
first_of [] = None
first_of (test ∷ tests) = if test.0 then Some test.1 else first_of tests

-- 1 to 64 word bytes
unfoldable pub is_word : List ℕ → Bool
is_word name = nat_le 1 (length name) && nat_le (length name) 64 && list_all is_word_byte name

-- the applications of the pool of this name, and the pairs of an application
unfoldable pub tags_in : List Pool → List ℕ → List AppTags
tags_in pools name = option_map_or (λ (p : Pool). p.tags) (pool_in pools name) []

unfoldable pub pairs_in : List AppTags → List ℕ → List (List ℕ × List ℕ)
pairs_in tags app = option_map_or (λ (a : AppTags). a.pairs) (find (is_app app) tags) []

abbrev pub has_pool : List Pool → List ℕ → Bool
has_pool pools name = is_some (pool_in pools name)

unfoldable pub has_app : List AppTags → List ℕ → Bool
has_app tags app = list_any (is_app app) tags

unfoldable pub has_key : List (List ℕ × List ℕ) → List ℕ → Bool
has_key pairs key = list_any (λ (pair : List ℕ × List ℕ). bytes_eq pair.0 key) pairs

-- 1 to 64 groups, sets of 1 to 5 daemons, of which at least 1 and at most all are needed
unfoldable pub in_limits : ℕ → ℕ → ℕ → Bool
in_limits pg_num size min_size = nat_le 1 pg_num && nat_le pg_num 64 && nat_le 1 size && nat_le size 5 && nat_le 1 min_size && nat_le min_size size

-- the last epoch
abbrev pub is_last : ℕ → Bool
is_last epoch = nat_le 65535 epoch

-- whether a daemon is up, or down, as wanted
abbrev pub is_so : List Bool → ℕ → Bool → Bool
is_so up daemon true = slice_index_or up daemon false
is_so up daemon false = not (slice_index_or up daemon false)

-- the tests of each command in order, each with the fault where it holds
abbrev pub create_tests : List Pool → ℕ → List ℕ → ℕ → ℕ → ℕ → List (Bool × MapFault)
create_tests pools epoch name pg_num size min_size =
    (not (is_word name), fault.BadName)
    ∷ (has_pool pools name, fault.PoolExists)
    ∷ (not (in_limits pg_num size min_size) || nat_le 32 (length pools) || is_last epoch, fault.Limit) ∷ []

abbrev pub enable_tests : List Pool → ℕ → List ℕ → List ℕ → List (Bool × MapFault)
enable_tests pools epoch pool app =
    (not (is_word pool) || not (is_word app), fault.BadName)
    ∷ (not (has_pool pools pool), fault.NoPool)
    ∷ (has_app (tags_in pools pool) app, fault.AlreadySo)
    ∷ (nat_le 8 (length (tags_in pools pool)) || is_last epoch, fault.Limit) ∷ []

abbrev pub set_tests : List Pool → ℕ → List ℕ → List ℕ → List ℕ → List ℕ → List (Bool × MapFault)
set_tests pools epoch pool app key value =
    (not (is_word pool) || not (is_word app) || not (is_word key) || not (is_word value), fault.BadName)
    ∷ (not (has_pool pools pool), fault.NoPool)
    ∷ (not (has_app (tags_in pools pool) app), fault.NoApplication)
    ∷ ((not (has_key (pairs_in (tags_in pools pool) app) key) && nat_le 16 (length (pairs_in (tags_in pools pool) app))) || is_last epoch, fault.Limit) ∷ []

abbrev pub remove_tests : List Pool → ℕ → List ℕ → List ℕ → List ℕ → List (Bool × MapFault)
remove_tests pools epoch pool app key =
    (not (is_word pool) || not (is_word app) || not (is_word key), fault.BadName)
    ∷ (not (has_pool pools pool), fault.NoPool)
    ∷ (not (has_app (tags_in pools pool) app), fault.NoApplication)
    ∷ (not (has_key (pairs_in (tags_in pools pool) app) key), fault.NoKey)
    ∷ (is_last epoch, fault.Limit) ∷ []

-- of a daemon that is not to be up, or down, already
abbrev pub daemon_tests : ℕ → List Bool → ℕ → ℕ → Bool → List (Bool × MapFault)
daemon_tests daemons up epoch daemon so =
    (nat_le daemons daemon, fault.NoDaemon)
    ∷ (is_so up daemon so, fault.AlreadySo)
    ∷ (is_last epoch, fault.Limit) ∷ []

abbrev pub tests : MapState → ℕ → MapCommand → List (Bool × MapFault)
tests state epoch (PoolCreate name pg_num size min_size) = create_tests state.pools epoch name pg_num size min_size
tests state epoch (AppEnable pool app) = enable_tests state.pools epoch pool app
tests state epoch (AppSet pool app key value) = set_tests state.pools epoch pool app key value
tests state epoch (AppRm pool app key) = remove_tests state.pools epoch pool app key
tests state epoch (OsdUp daemon) = daemon_tests state.daemons state.up epoch daemon true
tests state epoch (OsdDown daemon) = daemon_tests state.daemons state.up epoch daemon false
tests state epoch (OsdRestart daemon) = daemon_tests state.daemons state.up epoch daemon false

-- why a command is refused
unfoldable pub refusal : MapState → ℕ → MapCommand → Option MapFault
refusal state epoch command = first_of (tests state epoch command)

-- why a view is refused
abbrev pub view_refusal : History → List ℕ → ℕ → Option MapFault
view_refusal history name epoch = first_of (
    (not (is_word name), fault.BadName)
    ∷ (epoch == 0 || nat_lt (epoch_of history) epoch, fault.NoEpoch)
    ∷ (not (is_some (view_at history name epoch)), fault.NoPool) ∷ [])

-- how many groups a pool has
unfoldable pub groups_in : List Pool → List ℕ → ℕ
groups_in pools name = option_map_or (λ (p : Pool). p.pg_num) (pool_in pools name) 0

-- why a group's acting set is refused
abbrev pub acting_tests : List Pool → List ℕ → ℕ → List (Bool × MapFault)
acting_tests pools name group =
    (not (is_word name), fault.BadName)
    ∷ (not (has_pool pools name), fault.NoPool)
    ∷ (nat_le (groups_in pools name) group, fault.NoGroup) ∷ []

abbrev pub acting_refusal : History → List ℕ → ℕ → Option MapFault
acting_refusal history name group = first_of (acting_tests (map_of history).pools name group)
