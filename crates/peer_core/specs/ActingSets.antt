-- Statement: contracts of public calls use it.
-- The members of a copy's interval, and whom it asks.
use Rattle.std.specs.Prelude.{ℕ, Bool, ◌==◌, ◌||◌, ◌&&◌, not, List, filter}
use Rattle.std.specs.List.{list_any, list_all}
use Rattle.entry_core.specs.Log.{is_in}
use Rattle.group_messages.specs.ActingSets.{set_of, daemons}
use Rattle.peer_core.specs.Types.{Copy}

-- the other members of the interval that was promised
abbrev pub others : Copy → List ℕ
others c = filter (λ m. not (m == c.number)) (set_of c.known c.promise)

-- the other members that count once this daemon does, in the order of their set
abbrev pub counted : Copy → List ℕ → ℕ → List ℕ
counted c done d = filter (λ m. is_in done m || (m == d)) (others c)

-- every other member counts
abbrev pub all_count : Copy → List ℕ → Bool
all_count c done = list_all (λ m. is_in done m) (others c)

-- the other members that do not count yet
abbrev pub missing : Copy → List ℕ → List ℕ
missing c done = filter (λ m. not (is_in done m)) (others c)

-- another daemon, of some set
abbrev pub is_asked : Copy → ℕ → Bool
is_asked c d = not (d == c.number) && list_any (λ members. is_in members d) c.known

-- these daemons in rising order
abbrev pub asked : Copy → List ℕ
asked c = filter (λ d. is_asked c d) daemons
