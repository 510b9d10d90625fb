-- Statement: contracts of public calls use it.
-- The sets of the intervals, and their members.
use Rattle.std.specs.Prelude.{ℕ, Bool, ◌==◌, ◌&&◌, ◌||◌, not, List, filter}
use Rattle.std.specs.List.{list_any, list_all}
use Rattle.entry_core.specs.Log.{is_in}
pub use Rattle.group_messages.specs.ActingSets.{daemons, set_of, is_primary}
use Rattle.group_model_whole.specs.Types.{Daemon}

-- the other members of the interval that was promised
abbrev pub others : Daemon → List ℕ
others c = filter (λ m. not (m == c.number)) (set_of c.known c.promise)

-- the other members that count once this daemon does, in the order of their set: a stranger never counts, and nobody counts twice
abbrev pub counted : Daemon → List ℕ → ℕ → List ℕ
counted c done d = filter (λ m. is_in done m || (m == d)) (others c)

-- every other member counts
abbrev pub all_count : Daemon → List ℕ → Bool
all_count c done = list_all (λ m. is_in done m) (others c)

-- the other members that do not count yet
abbrev pub missing : Daemon → List ℕ → List ℕ
missing c done = filter (λ m. not (is_in done m)) (others c)

-- another daemon, of some set
abbrev pub is_asked : Daemon → ℕ → Bool
is_asked c d = not (d == c.number) && list_any (λ members. is_in members d) c.known

-- these daemons in rising order
abbrev pub asked : Daemon → List ℕ
asked c = filter (λ d. is_asked c d) daemons
