-- Statement: contracts of public calls use it.
-- What the turns on the users stand for, and what their answers tell.
use Rattle.std.specs.Prelude.{◌≡◌, ℕ, ◌+◌, List, Option, Some, None, Result, Ok, Err, IfOk, nat_le, if◌then◌else◌, unwrap_or}
use Rattle.common_types.specs.Refused.{RefusedFirst}
use Rattle.verdict_core.specs.Ticket.{Ticket}
use Rattle.auth_db.specs.declared.fault.AuthFault.{AuthFault}
use Rattle.auth_db.specs.declared.fault.AuthFault.TheVariants as auth
use Rattle.auth_db.specs.Users.{after, HasTicket}
use Rattle.auth_db.specs.Refusals.{known_refusal, auth_refusal, RefusedOrMemory}
use Rattle.world_events.specs.declared.event.AuthCommand.{AuthCommand}
use Rattle.world_events.specs.declared.event.Told.{Told}
use Rattle.world_front.specs.ControlPlane.{command_of, most_sessions, told_auth}
use Rattle.cluster_locks.specs.declared.users.UserTable.{UserTable}
use Rattle.cluster_locks.specs.declared.users.UserEntry.{UserEntry}
use Rattle.cluster_locks.specs.declared.users.UserEntry.TheVariants.{Changed, Opened, Looked, Idle}
use Rattle.cluster_locks.specs.declared.users.Open.{Open}
use Rattle.cluster_locks.specs.declared.users.OpenFault.{OpenFault}
use Rattle.cluster_locks.specs.declared.users.OpenFault.TheVariants as opening
use Rattle.cluster_locks.specs.declared.users.Renew.{Renew}
use Rattle.cluster_locks.specs.declared.users.Change.{Change}

-- the users after one more turn, with the sessions counted
abbrev pub table_after : UserTable → UserEntry → UserTable
table_after t (Changed command) = record t { db = after t.db command }
table_after t Opened = record t { sessions = t.sessions + 1 }
table_after t Looked = t
table_after t Idle = t

-- ---- to open a session

abbrev pub open_entry : Open → UserTable → Result (ℕ × Ticket) OpenFault → UserEntry
open_entry s t (Ok opened) = Opened
open_entry s t (Err fault) = Idle

-- the first reason to refuse a session
abbrev pub refusal_after : UserTable → Option AuthFault → Option OpenFault
refusal_after t (Some fault) = Some (opening.User fault)
refusal_after t None = if nat_le most_sessions t.sessions then Some opening.Limit else None

abbrev pub open_refusal : UserTable → List ℕ → Option OpenFault
open_refusal t name = refusal_after t (known_refusal t.db.users name)

abbrev pub OpenTells : Open → UserTable → Result (ℕ × Ticket) OpenFault → Type 0
OpenTells s t (Ok opened) = (open_refusal t s.name ≡ None) × (opened.0 ≡ t.sessions + 1) × HasTicket t.db s.name s.until opened.1
OpenTells s t (Err fault) = fault ≡ unwrap_or (open_refusal t s.name) (opening.User auth.OutOfMemory)

-- ---- to renew a ticket

abbrev pub renew_entry : Renew → UserTable → Result Ticket AuthFault → UserEntry
renew_entry s t answer = Looked

abbrev pub RenewTells : Renew → UserTable → Result Ticket AuthFault → Type 0
RenewTells s t answer = RefusedFirst (known_refusal t.db.users s.name) auth.OutOfMemory answer × IfOk answer (λ ticket. HasTicket t.db s.name s.until ticket)

-- ---- to change the users

abbrev pub change_entry_of : Option AuthCommand → Result Told AuthFault → UserEntry
change_entry_of None answer = Idle
change_entry_of (Some command) (Ok x) = Changed (command_of command)
change_entry_of (Some command) (Err fault) = Idle

abbrev pub change_entry : Change → UserTable → Result Told AuthFault → UserEntry
change_entry s t answer = change_entry_of s.0 answer

abbrev pub ChangeTellsOf : Option AuthCommand → UserTable → Result Told AuthFault → Type 0
ChangeTellsOf None t answer = Unit {0}
ChangeTellsOf (Some command) t answer = RefusedOrMemory (auth_refusal t.db (command_of command)) answer × IfOk answer (λ told. told ≡ told_auth t.db command)

abbrev pub ChangeTells : Change → UserTable → Result Told AuthFault → Type 0
ChangeTells s t answer = ChangeTellsOf s.0 t answer
