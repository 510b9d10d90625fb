-- Statement: contracts of public calls use it.
-- What a pass does to the users by one turn: it opens a session, renews one's ticket, or changes the users.
use Rattle.std.specs.Prelude.{◌≡◌, ◌⊎◌, ℕ, List, [], ◌∷◌, ◌++◌, Option, Some, Result, Ok, Err}
use Rattle.verdict_core.specs.Ticket.{Ticket}
use Rattle.auth_db.specs.declared.fault.AuthFault.{AuthFault}
use Rattle.auth_db.specs.declared.fault.AuthFault.TheVariants as auth_fault
use Rattle.world_events.specs.declared.fault.WorldFault.TheVariants.{Limit, Auth as OfUsers}
use Rattle.world_front.specs.ControlPlane.{opened}
use Rattle.world_front.specs.declared.session.Session.{Session}
use Rattle.world_events.specs.declared.event.AuthCommand.{AuthCommand}
use Rattle.world_events.specs.declared.event.Told.{Told}
use Rattle.cluster.specs.declared.cluster.Cluster.{Cluster}
use Rattle.cluster.specs.declared.fault.ClusterFault.{ClusterFault}
use Rattle.cluster.specs.declared.fault.ClusterFault.TheVariants as faults
use Rattle.cluster.specs.declared.pass.Pass.{Pass}
use Rattle.cluster_locks.specs.declared.users.OpenFault.{OpenFault}
use Rattle.cluster_locks.specs.declared.users.OpenFault.TheVariants as opening
use Rattle.cluster.specs.Passes.{UserTurn}
use Rattle.cluster.specs.Sessions.{own_session_at}
use Rattle.cluster_locks.specs.Users.{open_entry, OpenTells, renew_entry, RenewTells, change_entry, ChangeTells}

-- ---- faults

-- the cluster's fault for a fault of the users; out of memory is the cluster's own
abbrev pub fault_of_users : AuthFault → ClusterFault
fault_of_users auth_fault.OutOfMemory = faults.OutOfMemory
fault_of_users fault = faults.World (OfUsers fault)

-- why no session is opened
abbrev pub fault_of_opening : OpenFault → ClusterFault
fault_of_opening (opening.User fault) = fault_of_users fault
fault_of_opening opening.Limit = faults.World Limit

-- ---- turns

abbrev pub OpenTurn : Cluster → List ℕ → Option ℕ → Pass → Pass → Result (ℕ × Ticket) OpenFault → Type 0
OpenTurn c name until old new answer = UserTurn open_entry OpenTells c old.seats new.seats (record { name = name; until = until }) answer

abbrev pub RenewTurn : Cluster → List ℕ → Option ℕ → Pass → Pass → Result Ticket AuthFault → Type 0
RenewTurn c name until old new answer = UserTurn renew_entry RenewTells c old.seats new.seats (record { name = name; until = until }) answer

abbrev pub ChangeTurn : Cluster → AuthCommand → Pass → Pass → Result Told AuthFault → Type 0
ChangeTurn c command old new answer = UserTurn change_entry ChangeTells c old.seats new.seats (record { 0 = Some command }) answer

-- the reader and the sessions stay
abbrev pub OnlyTurned : Pass → Pass → Type 0
OnlyTurned old new = (new.sessions.items ≡ old.sessions.items) × (new.reader ≡ old.reader)

-- Refused: out of memory before the turn, or with the fault of the turn
abbrev pub RefusedAs : {F : Type 0} → (F → Type 0) → (F → ClusterFault) → ClusterFault → Pass → Pass → Type 0
RefusedAs {F} Turn fault_of fault old new = OnlyTurned old new × (((fault ≡ faults.OutOfMemory) × (new.seats ≡ old.seats)) ⊎ ((f : F) × Turn f × (fault ≡ fault_of f)))

-- a session is opened, and stands last among the pass's own
abbrev pub Opens : Cluster → List ℕ → Option ℕ → Pass → Pass → Result ℕ ClusterFault → Type 0
Opens c name until old new (Ok n) = (ticket : Ticket) × OpenTurn c name until old new (Ok (n, ticket)) × (new.sessions.items ≡ old.sessions.items ++ record { number = n; session = opened name ticket } ∷ []) × (new.reader ≡ old.reader)
Opens c name until old new (Err fault) = RefusedAs (λ f. OpenTurn c name until old new (Err f)) fault_of_opening fault old new

-- the session of this number takes the present ticket of its user
abbrev pub Renews : Cluster → ℕ → Session → Option ℕ → Pass → Pass → Result (Unit {0}) ClusterFault → Type 0
Renews c n own until old new (Ok x) = (ticket : Ticket) × RenewTurn c own.entity until old new (Ok ticket) × (new.sessions.items ≡ own_session_at old.sessions.items n (λ s. record s { ticket = ticket })) × (new.reader ≡ old.reader)
Renews c n own until old new (Err fault) = RefusedAs (λ f. RenewTurn c own.entity until old new (Err f)) fault_of_users fault old new

-- a command on the users is carried out
abbrev pub Changes : Cluster → AuthCommand → Pass → Pass → Result Told ClusterFault → Type 0
Changes c command old new (Ok told) = ChangeTurn c command old new (Ok told) × OnlyTurned old new
Changes c command old new (Err fault) = (f : AuthFault) × ChangeTurn c command old new (Err f) × (fault ≡ fault_of_users f) × OnlyTurned old new
