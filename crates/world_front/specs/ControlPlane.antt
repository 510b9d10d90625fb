-- Statement: contracts of public calls use it.
-- Users, map, sessions and submissions: the part of a world without groups, messages and copies.
use Rattle.std.specs.Prelude.{ℕ, ◌+◌, ◌-◌, List, [], ◌∷◌, ◌++◌, Bool, true, false, ◌==◌, if◌then◌else◌, Option, None, Some, Result, Ok, Err, length, fold, nat_le}
use Rattle.std.specs.Option.{option_map, option_or}
use Rattle.std.specs.List.{list_any, count_by, find}
use Rattle.grant_core.specs.Flat.{Table}
use Rattle.verdict_core.specs.Ticket.{Ticket}
use Rattle.auth_db.specs.Users.{Database, Users, user_at, after}
use Rattle.auth_db.specs.Users as users
use Rattle.auth_db.specs.Refusals.{known_refusal, auth_refusal}
use Rattle.auth_db.specs.declared.caps.Caps.{Caps}
use Rattle.map_core.specs.State.{History}
use Rattle.map_core.specs.Map.{map_of, epoch_of}
use Rattle.map_core.specs.Refusal as map_tests
use Rattle.store_core.specs.Request.{Sealed}
use Rattle.store_core.specs.declared.sealed.GroupId.{GroupId}
use Rattle.group_messages.specs.declared.fault.GroupFault.TheVariants as group_fault
use Rattle.entry_core.specs.Locality.{group_for}
use Rattle.world_front.specs.Event.{Ask, AuthCommand, Add, GetOrCreate, SetCaps, Delete, Event, Auth, Map, Open, Renew, Close, Submit, ListNames, Deliver, Lose, Repeat, Kick, Told, Done, Made, There, Epoch, OfSession, Request, Pieces, Fault, Limit, OfUsers, OfMap, OfGroup}
use Rattle.world_front.specs.Tickets.{ticket_of}
pub use Rattle.world_front.specs.Sealing.{Session, ◌>>=◌, need, refuse_if, lower, if_ok, error_of, if_open, session_of, session_at, Asker, asker_in, is_printable, is_object_name, is_namespace, id_of, sealed_of, vector_of, pieces_of}
unfoldable pub use Rattle.world_front.specs.Sealing.{requests_in}
pub use Rattle.world_front.specs.declared.session.ListRange.{ListRange}
use Rattle.world_front.specs.Groups.{is_for}

pub record ControlPlane : Type 0 where
  pub database : Database
  pub history : History
  pub sessions : List Session  -- counted from 1, closed ones too
  pub submissions : List Sealed  -- in order
  pub lists : List ListRange

-- the list that begins with a request
abbrev pub list_at : ControlPlane → ℕ → Option ListRange
list_at front first = find (λ p. p.first == first) front.lists

abbrev pub first_front : Table → ℕ → ControlPlane
first_front table daemons = record {
  database = record { table = table; users = [] };
  history = record { daemons = daemons; commands = [] };
  sessions = [];
  submissions = [];
  lists = [];
}

-- ---- users

-- the command, as the users see it
abbrev pub command_of : AuthCommand → users.Command
command_of (Add name caps) = users.Add name caps
command_of (GetOrCreate name caps) = users.GetOrCreate name caps
command_of (SetCaps name caps) = users.SetCaps name caps
command_of (Delete name) = users.Delete name

abbrev pub told_creation : Option Caps → Told
told_creation None = Made
told_creation (Some stored) = There

abbrev pub told_auth : Database → AuthCommand → Told
told_auth d (GetOrCreate name caps) = told_creation (user_at d.users name)
told_auth d (Add name caps) = Done
told_auth d (SetCaps name caps) = Done
told_auth d (Delete name) = Done

abbrev pub ticket_with : Table → Option Caps → Option ℕ → Ticket
ticket_with table None until = record { grants = []; until = until }
ticket_with table (Some caps) until = ticket_of table caps.osd until

-- the ticket that a user's osd text expands to, until the requested end
abbrev pub ticket_for : Database → List ℕ → Option ℕ → Ticket
ticket_for d entity until = ticket_with d.table (user_at d.users entity) until

-- ---- sessions

abbrev pub opened : List ℕ → Ticket → Session
opened entity ticket = record { entity = entity; ticket = ticket; epoch = 0; tick = 0; next = 1; is_closed = false }

-- ---- requests

abbrev pub asker_of : ControlPlane → Ask → Result Asker Fault
asker_of front = asker_in front.sessions front.history

-- the requests of an event, or the fault that refuses it
unfoldable pub requests_of : ControlPlane → Event → Result (List Sealed) Fault
requests_of front = requests_in front.sessions front.history

abbrev pub sealed_by : ControlPlane → Event → List Sealed
sealed_by front e = if_ok (requests_of front e) [] (λ requests. requests)

-- ---- what an event leaves

-- the session after `count` more requests
abbrev pub asks_more : Ask → ℕ → Session → Session
asks_more ask count s = record s { epoch = ask.epoch; tick = ask.tick; next = s.next + count }

abbrev pub asked : List Session → Ask → Result (List Sealed) Fault → List Session
asked sessions ask requests = if_ok requests sessions (λ rs. session_at sessions ask.session (asks_more ask (length rs)))

abbrev pub sessions_step : ControlPlane → Event → List Session
sessions_step front (Open entity until) = front.sessions ++ opened entity (ticket_for front.database entity until) ∷ []
sessions_step front (Renew n until) = session_at front.sessions n (λ s. record s { ticket = ticket_for front.database s.entity until })
sessions_step front (Close n) = session_at front.sessions n (λ s. record s { is_closed = true })
sessions_step front (Submit ask object ops) = asked front.sessions ask (requests_of front (Submit ask object ops))
sessions_step front (ListNames ask) = asked front.sessions ask (requests_of front (ListNames ask))
sessions_step front e = front.sessions

abbrev pub database_step : Database → Event → Database
database_step d (Auth command) = after d (command_of command)
database_step d e = d

abbrev pub history_step : History → Event → History
history_step h (Map command) = record h { commands = h.commands ++ command ∷ [] }
history_step h e = h

abbrev pub listed : List Sealed → List ListRange
listed [] = []
listed (s ∷ ss) = record { first = s.id; count = length (s ∷ ss) } ∷ []

abbrev pub lists_step : ControlPlane → Event → List ListRange
lists_step front (ListNames ask) = front.lists ++ listed (sealed_by front (ListNames ask))
lists_step front e = front.lists

abbrev pub front_step : ControlPlane → Event → ControlPlane
front_step front e = record {
  database = database_step front.database e;
  history = history_step front.history e;
  sessions = sessions_step front e;
  submissions = front.submissions ++ sealed_by front e;
  lists = lists_step front e;
}

abbrev pub front_after : Table → ℕ → List Event → ControlPlane
front_after table daemons events = fold front_step (first_front table daemons) events

-- ---- what it tells

abbrev pub told_of : ControlPlane → Event → Told
told_of front (Auth command) = told_auth front.database command
told_of front (Map command) = Epoch (epoch_of front.history + 1)
told_of front (Open entity until) = OfSession (length front.sessions + 1)
told_of front (Submit ask object ops) = told_request (sealed_by front (Submit ask object ops))
  where
    told_request : List Sealed → Told
    told_request [] = Done
    told_request (s ∷ ss) = Request s.id
told_of front (ListNames ask) = told_pieces (sealed_by front (ListNames ask))
  where
    told_pieces : List Sealed → Told
    told_pieces [] = Done
    told_pieces (s ∷ ss) = Pieces s.id (length (s ∷ ss))
told_of front e = Done

-- ---- why it refuses

-- a group that has 16,384 requests takes no more
abbrev pub is_full : ControlPlane → Sealed → Bool
is_full front s = nat_le 16384 (count_by (λ r. is_for (group_for r) s) front.submissions)

abbrev pub full_refusal : ControlPlane → List Sealed → Option Fault
full_refusal front requests = if list_any (is_full front) requests then Some (OfGroup group_fault.Full) else None

-- the first fault of requests: those of asking, in their order, and then a full group
abbrev pub asking_refusal : ControlPlane → Result (List Sealed) Fault → Option Fault
asking_refusal front (Ok requests) = full_refusal front requests
asking_refusal front (Err fault) = Some fault

-- the largest number of sessions, closed ones counted
abbrev pub most_sessions : ℕ
most_sessions = 1024

-- an unknown user, or one session too many
abbrev pub opening_refusal : Users → List Session → List ℕ → Option Fault
opening_refusal users sessions entity = option_or (option_map OfUsers (known_refusal users entity)) (if nat_le most_sessions (length sessions) then Some Limit else None)

-- no such session, or its user is gone
abbrev pub renewal_refusal : Users → Result Session Fault → Option Fault
renewal_refusal users (Ok s) = option_map OfUsers (known_refusal users s.entity)
renewal_refusal users (Err fault) = Some fault

abbrev pub group_refusal : ControlPlane → GroupId → Option Fault
group_refusal front group = option_map OfMap (map_tests.acting_refusal front.history group.pool group.number)

-- why the front refuses an event, which is all that can be said without a group's messages and intervals
abbrev pub front_refusal : ControlPlane → Event → Option Fault
front_refusal front (Auth command) = option_map OfUsers (auth_refusal front.database (command_of command))
front_refusal front (Map command) = option_map OfMap (map_tests.refusal (map_of front.history) (epoch_of front.history) command)
front_refusal front (Open entity until) = opening_refusal front.database.users front.sessions entity
front_refusal front (Renew n until) = renewal_refusal front.database.users (session_of front.sessions n)
front_refusal front (Close n) = error_of (session_of front.sessions n)
front_refusal front (Submit ask object ops) = asking_refusal front (requests_of front (Submit ask object ops))
front_refusal front (ListNames ask) = asking_refusal front (requests_of front (ListNames ask))
front_refusal front (Deliver group k) = group_refusal front group
front_refusal front (Lose group k) = group_refusal front group
front_refusal front (Repeat group k) = group_refusal front group
front_refusal front (Kick group) = group_refusal front group
