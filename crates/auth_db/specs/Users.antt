-- Statement: contracts of public calls use it.
-- Users by their names, and the commands that change them: those of Ceph User Management.
use Rattle.std.specs.Prelude.{◌≡◌, ℕ, ◌≤◌, List, [], ◌∷◌, ◌++◌, Bool, true, false, if◌then◌else◌, Option, Some, length, is_some, fold}
use Rattle.std.specs.List.{All}
use Rattle.std.specs.Ordering.{nat_cmp}
use Rattle.std.specs.Cmp.Lexicographic.{slice_cmp}
use Rattle.std.specs.BTreeMap.{insert_entry, is_at}
use Rattle.std.specs.Map.{lookup, remove_entry, keys_of, values_of}
use Rattle.grant_core.specs.Flat.{Table}
use Rattle.verdict_core.specs.Ticket.{Ticket}
use Rattle.auth_db.specs.declared.caps.Caps.{Caps}
use Rattle.auth_db.specs.Names.{is_user_name}
use Rattle.auth_db.specs.Texts.{IsGood, IsTicket, has_long_text}

-- users by their names' bytes, each with its texts
abbrev pub Users : Type 0
Users = List (List ℕ × Caps)

-- the users, and the profiles that their texts may use
pub record Database : Type 0 where
  pub table : Table
  pub users : Users

abbrev pub is_name : List ℕ → List ℕ → Bool
is_name name = is_at (slice_cmp nat_cmp name)

abbrev pub user_at : Users → List ℕ → Option Caps
user_at users name = lookup (is_name name) users

abbrev pub has_user : Users → List ℕ → Bool
has_user users name = is_some (user_at users name)

-- a user's texts, new or in the place of the old
abbrev pub with_user : Users → List ℕ → Caps → Users
with_user users name caps = insert_entry (slice_cmp nat_cmp) users name caps

abbrev pub without_user : Users → List ℕ → Users
without_user users name = remove_entry (is_name name) users

-- a command on the users
pub data Command : Type 0 where
  Add : List ℕ → Caps → Command
  GetOrCreate : List ℕ → Caps → Command
  SetCaps : List ℕ → Caps → Command
  Delete : List ℕ → Command

abbrev pub user_step : Users → Command → Users
user_step users (Add name caps) = with_user users name caps
user_step users (GetOrCreate name caps) = if has_user users name then users else with_user users name caps
user_step users (SetCaps name caps) = with_user users name caps
user_step users (Delete name) = without_user users name

-- the users after the accepted commands
abbrev pub users_after : List Command → Users
users_after commands = fold user_step [] commands

-- one more command is one more step
abbrev pub GoesByStep : Type 0
GoesByStep = (commands : List Command) (command : Command) → users_after (commands ++ command ∷ []) ≡ user_step (users_after commands) command

-- a database after one more command
abbrev pub after : Database → Command → Database
after database command = record { table = database.table; users = user_step database.users command }

-- the osd text is good, and no text is longer than 4,096 bytes
abbrev pub IsStored : Table → Caps → Type 0
IsStored table caps = IsGood table caps.osd × (has_long_text caps ≡ false)

-- at most 1,024 users, whose names are users' names, and whose texts may be stored
pub record IsKept (table : Table) (users : Users) : Type 0 where
  pub few : length users ≤ 1024
  pub named : All (λ (name : List ℕ). is_user_name name ≡ true) (keys_of users)
  pub stored : All (IsStored table) (values_of users)

-- the ticket that the user's osd text expands to, until the requested end
abbrev pub HasTicket : Database → List ℕ → Option ℕ → Ticket → Type 0
HasTicket database name until ticket = (caps : Caps) × (user_at database.users name ≡ Some caps) × IsTicket database.table caps.osd until ticket
