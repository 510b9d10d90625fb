-- Statement: contracts of public calls use it.
-- What clauses say of a cluster and of seats of its locks.
use Rattle.std.specs.Prelude.{◌≡◌, ℕ, List, [], ◌∷◌, All, map, length}
use Rattle.turn_lock.specs.declared.rule.Made.{Made}
use Rattle.turn_lock.specs.Seats.{lock_of, first_of, seat_lock, seen_by, IsSeatOf, IsFresh, HasDrawnNone, HasItsOwn, IsSameSeat, HasSameShare}
use Rattle.turn_lock.specs.Turned.{Turned, Closes}
use Rattle.map_core.specs.State.{History}
use Rattle.group_model.specs.Group.{Group}
use Rattle.cluster_locks.specs.declared.groups.GroupEntry.{GroupEntry}
use Rattle.cluster_locks.specs.declared.users.UserTable.{UserTable}
use Rattle.cluster_locks.specs.declared.users.UserEntry.{UserEntry}
use Rattle.cluster.specs.declared.cluster.Cluster.{Cluster}
use Rattle.cluster.specs.declared.cluster.Seats.{Seats}
use Rattle.cluster.specs.declared.cluster.Ended.{Ended}
use Rattle.cluster_locks.specs.Groups.{group_after, group_in, entry_fits}
use Rattle.cluster_locks.specs.Users.{table_after}
use Rattle.cluster_locks.specs.Shares.{pass_share, monitor_share}
use Rattle.cluster_locks.specs.Places.{TurnsAt, TakesIn, InStep, IsFreshRow, ClosedAll}

-- there is a seat of each lock of the cluster
abbrev pub AreSeatsOf : Cluster → Seats → Type 0
AreSeatsOf c p = (map seat_lock p.groups.items ≡ map lock_of c.groups.items) × IsSeatOf c.users p.users

-- the map that it began with
abbrev pub start_of : Cluster → History
start_of c = c.start

abbrev pub group_count : Cluster → ℕ
group_count c = length c.groups.items

-- one turn on a group; the other seats stay
abbrev pub GroupTurn : {Step A : Type 0} → (Step → Group → A → GroupEntry) → (Step → Group → A → Type 0) → Cluster → Seats → Seats → ℕ → Step → A → Type 0
GroupTurn entry tells c old new k step answer = TurnsAt group_after entry tells c.groups.items k step answer old.groups.items new.groups.items × (new.users ≡ old.users)

-- one turn on the users
abbrev pub UserTurn : {Step A : Type 0} → (Step → UserTable → A → UserEntry) → (Step → UserTable → A → Type 0) → Cluster → Seats → Seats → Step → A → Type 0
UserTurn entry tells c old new step answer = Turned table_after entry tells c.users.first step answer old.users new.users × IsSameSeat old.users new.users × HasSameShare old.users new.users × (new.groups ≡ old.groups)

-- the states that the groups began with
abbrev pub firsts_of : Cluster → List Group
firsts_of c = map first_of c.groups.items

-- ---- what seats have seen

abbrev pub heard_of : Seats → List (List (Made GroupEntry)) × List (Made UserEntry)
heard_of p = (map seen_by p.groups.items, p.users.seen)

abbrev pub SameSeats : Seats → Seats → Type 0
SameSeats old new = (new.groups.items ≡ old.groups.items) × (new.users ≡ old.users)

-- seats take in what others have seen, and their numbers
abbrev pub TakeIn : Seats → Seats → Seats → Type 0
TakeIn old other new = InStep TakesIn old.groups.items other.groups.items new.groups.items × TakesIn old.users other.users new.users

-- seats take in the seats of some passes, one after another
abbrev pub Gathers : Seats → List Seats → Seats → Type 0
Gathers old [] new = new ≡ old
Gathers old (p ∷ ps) new = (next : Seats) × TakeIn old p next × Gathers next ps new

-- ---- the numbers that turns draw

abbrev pub HaveShare : ℕ → Seats → Type 0
HaveShare share p = All (λ s. s.share ≡ share) p.groups.items × (p.users.share ≡ share)

-- each of these seats may still draw its whole share
abbrev pub HaveDrawnNone : Seats → Type 0
HaveDrawnNone p = All HasDrawnNone p.groups.items × HasDrawnNone p.users

-- no seat was joined to these
abbrev pub AreAlone : Seats → Type 0
AreAlone p = All (λ s. s.joined ≡ []) p.groups.items × (p.users.joined ≡ [])

-- seats of a cluster that was just begun, with this share
abbrev pub AreFreshOf : Cluster → ℕ → Seats → Type 0
AreFreshOf c share p = IsFreshRow share c.groups.items p.groups.items × IsFresh c.users.table p.users × (p.users.share ≡ share)

-- each seat of a group knows all that it made
abbrev pub HaveTheirOwn : Seats → Type 0
HaveTheirOwn p = All HasItsOwn p.groups.items

-- the seats of a pass, and those of the monitor
abbrev pub ArePassOf : Cluster → Seats → Type 0
ArePassOf c p = AreSeatsOf c p × HaveShare (pass_share c.passes) p × AreAlone p

abbrev pub AreMonitorOf : Cluster → Seats → Type 0
AreMonitorOf c p = AreSeatsOf c p × HaveShare (monitor_share c.passes) p × AreAlone p × HaveTheirOwn p

-- ---- the end

-- Each group is the fold of a list of turns, and so are the users. The list begins with what each pass and the
-- monitor had seen. If all passes were returned, it has only their entries, each one's in its order.
abbrev pub Closed : Cluster → Seats → List Seats → Ended → Type 0
Closed c monitor passes w = (all : Seats) × Gathers monitor passes all × ClosedAll group_after entry_fits group_in c.groups.items all.groups.items w.groups.items × Closes table_after (λ t entry. Unit {0}) c.users.first w.users all.users
