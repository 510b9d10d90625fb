-- Statement: contracts of public calls use it.
-- The moves of groups, one after another, by a change of the map, and the looks at them before.
use Rattle.std.specs.Prelude.{◌≡◌, ◌≢◌, ℕ, ◌<◌, ◌≤◌, Bool, true, false, List, [], ◌∷◌, ◌++◌, map, Option, Some, None, slice_get, slice_index_or}
use Rattle.std.specs.Option.{option_to_list}
use Rattle.atomic_table.specs.Seated.{TableId}
use Rattle.turn_lock.specs.declared.rule.Made.{Made}
use Rattle.turn_lock.specs.declared.rule.Joined.{Joined}
use Rattle.turn_lock.specs.Seats.{Locked, Seated, seen_by, mine_of}
use Rattle.turn_lock.specs.Turns.{StartsWith, state_after}
use Rattle.map_core.specs.State.{History}
use Rattle.map_core.specs.declared.command.MapCommand.{MapCommand}
use Rattle.store_core.specs.declared.sealed.GroupId.{GroupId}
use Rattle.group_model.specs.Group.{Group, Event, has_all_intervals}
use Rattle.cluster_locks.specs.declared.groups.GroupEntry.{GroupEntry}
use Rattle.cluster_locks.specs.declared.groups.GroupEntry.TheVariants.{Happened, Looked, Idle}
use Rattle.cluster.specs.declared.cluster.Cluster.{Cluster}
use Rattle.cluster.specs.declared.cluster.Seats.{Seats}
use Rattle.cluster_locks.specs.Groups.{group_after}
use Rattle.cluster.specs.MapCommands.{begins_interval}

-- the events among a seat's entries, looks and idle turns aside
abbrev pub happened : List GroupEntry → List Event
happened [] = []
happened (Happened e ∷ es) = e ∷ happened es
happened (Looked ∷ es) = happened es
happened (Idle ∷ es) = happened es

-- those of the seat j
abbrev pub happened_at : Seats → ℕ → List Event
happened_at seats j = happened (slice_index_or (map mine_of seats.groups.items) j [])

-- what the seat j has seen
abbrev pub seen_at : Seats → ℕ → List (Made GroupEntry)
seen_at seats j = slice_index_or (map seen_by seats.groups.items) j []

-- what turns leave of a seat: whose it is, its number, its share, and the seats that were joined to it
abbrev pub standing : Seated GroupEntry → TableId × ℕ × ℕ × List (Joined GroupEntry)
standing s = (s.lock, s.number, s.share, s.joined)

-- turns on groups only add to what was seen
pub record Goes (old new : Seats) : Type 0 where
  pub seen : (j : ℕ) → StartsWith (seen_at new j) (seen_at old j)
  pub stands : map standing new.groups.items ≡ map standing old.groups.items
  pub users : new.users ≡ old.users

-- turns that only looked
pub record HaveLooked (old new : Seats) : Type 0 where
  pub same : (j : ℕ) → happened_at new j ≡ happened_at old j
  pub goes : Goes old new

-- the seat k made this event, if it is one, and the others made none
pub record OneMoved (event : Option Event) (k : ℕ) (old new : Seats) : Type 0 where
  pub here : happened_at new k ≡ happened_at old k ++ option_to_list event
  pub others : (j : ℕ) → j ≢ k → happened_at new j ≡ happened_at old j
  pub goes : Goes old new

-- each seat from `from` on and before `to` made its event, if it has one, once; the others made none
pub record HaveMoved (event : ℕ → Option Event) (from to : ℕ) (old new : Seats) : Type 0 where
  pub moved : (j : ℕ) → from ≤ j → j < to → happened_at new j ≡ happened_at old j ++ option_to_list (event j)
  pub before : (j : ℕ) → j < from → happened_at new j ≡ happened_at old j
  pub later : (j : ℕ) → to ≤ j → happened_at new j ≡ happened_at old j
  pub goes : Goes old new

-- the event of the group k, by its place
abbrev pub event_at : (GroupId → Option Event) → List GroupId → ℕ → Option Event
event_at event places k = elim (slice_get places k) [ Some id ↦ event id | None ↦ None ]

-- between the one and the other the group k was found in a state of which P holds
pub record Found (c : Cluster) (k : ℕ) (P : Group → Type 0) (old new : Seats) : Type 0 where
  pub lock : Locked Group
  pub locked : slice_get c.groups.items k ≡ Some lock
  pub list : List (Made GroupEntry)
  pub since : StartsWith list (seen_at old k)
  pub until : StartsWith (seen_at new k) list
  pub holds : P (state_after group_after lock.first list)

-- where an interval begins, the group was found with all its intervals, or with room for one more, as the answer says; it is `true` only there
abbrev pub FullAt : Cluster → ℕ → Bool → Bool → Seats → Seats → Type 0
FullAt c k begins true old new = (begins ≡ true) × Found c k (λ g. has_all_intervals g ≡ true) old new
FullAt c k begins false old new = begins ≡ true → Found c k (λ g. has_all_intervals g ≡ false) old new

-- by the map, the command begins an interval of the group k
abbrev pub BeginsAt : History → MapCommand → List GroupId → ℕ → Type 0
BeginsAt history command places k = (id : GroupId) × (slice_get places k ≡ Some id) × (begins_interval history command id ≡ true)

-- a group of which it begins one was found with all its intervals
abbrev pub SomeFull : Cluster → History → MapCommand → List GroupId → Seats → Seats → Type 0
SomeFull c history command places old new = (k : ℕ) × BeginsAt history command places k × Found c k (λ g. has_all_intervals g ≡ true) old new

-- each of those before `to` was found with room for one more
abbrev pub NoneFull : Cluster → History → MapCommand → List GroupId → ℕ → Seats → Seats → Type 0
NoneFull c history command places to old new = (k : ℕ) → k < to → BeginsAt history command places k → Found c k (λ g. has_all_intervals g ≡ false) old new
