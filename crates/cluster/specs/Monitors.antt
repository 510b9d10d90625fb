-- Statement: contracts of public calls use it.
-- What a change of the map does.
use Rattle.std.specs.Prelude.{◌≡◌, ℕ, ◌<◌, ◌≤◌, false, List, [], ◌∷◌, ◌++◌, All, map, length, drop, slice_get, Option, Some, None, Result, Ok, Err, IsSome, IsNone, if◌then◌else◌, unwrap_or}
use Rattle.std.specs.Option.{option_to_list}
use Rattle.left_right.specs.Sides.{view as known}
use Rattle.map_core.specs.State.{History}
use Rattle.map_core.specs.Map.{map_of, epoch_of}
use Rattle.map_core.specs.Refusal.{refusal}
use Rattle.map_core.specs.declared.command.MapCommand.{MapCommand}
use Rattle.map_core.specs.declared.fault.MapFault.{MapFault}
use Rattle.map_core.specs.declared.fault.MapFault.TheVariants as map_fault
use Rattle.store_core.specs.declared.sealed.GroupId.{GroupId}
use Rattle.group_model.specs.Group.{Event}
use Rattle.group_messages.specs.declared.fault.GroupFault.TheVariants as group_fault
use Rattle.cluster.specs.declared.cluster.Cluster.{Cluster}
use Rattle.cluster.specs.declared.cluster.Seats.{Seats}
use Rattle.cluster.specs.declared.monitor.Monitor.{Monitor}
use Rattle.cluster.specs.declared.monitor.Unfinished.{Unfinished}
use Rattle.cluster.specs.declared.monitor.Unfinished.TheVariants.{Left, Staged}
use Rattle.cluster.specs.declared.monitor.ChangeFault.{ChangeFault}
use Rattle.cluster.specs.declared.monitor.ChangeFault.TheVariants as faults
use Rattle.cluster.specs.declared.monitor.TellFault.{TellFault}
use Rattle.cluster.specs.declared.monitor.TellFault.TheVariants as tells
use Rattle.published_map.specs.Published.{with_command, with_commands}
use Rattle.cluster.specs.Passes.{AreMonitorOf, group_count, firsts_of}
use Rattle.cluster.specs.MapCommands.{move_by, is_creation}
use Rattle.cluster.specs.GroupMoves.{happened_at, HaveMoved, HaveLooked, SomeFull, NoneFull, event_at}

-- the monitor's own map
abbrev pub own_map : Monitor → History
own_map m = m.map

abbrev pub monitor_seats : Monitor → Seats
monitor_seats m = m.seats

-- the change that is unfinished, if one is
abbrev pub unfinished_of : Monitor → Option Unfinished
unfinished_of m = m.unfinished

-- no change is unfinished
abbrev pub IsWhole : Monitor → Type 0
IsWhole m = IsNone m.unfinished

-- what is published
abbrev pub published_of : Monitor → History
published_of m = m.writer.desk.shown.value.map

-- the commands that are staged and not published
abbrev pub waiting_of : Monitor → List MapCommand
waiting_of m = drop m.writer.behind m.writer.log.items

-- what the monitor knows to be published
abbrev pub known_of : Monitor → Option History
known_of m = (known m.writer.desk.place).seen

-- the monitor's map is the published one, with the command that is unfinished
abbrev pub StandsBy : Option Unfinished → ℕ → (own shown : History) → List MapCommand → Type 0
StandsBy None count own shown waiting = (shown ≡ own) × (waiting ≡ [])
StandsBy (Some (Left command at)) count own shown waiting = (at ≤ count) × (waiting ≡ []) × (own ≡ with_command shown command)
StandsBy (Some Staged) count own shown waiting = own ≡ with_commands shown waiting

-- The monitor has the monitor's seats of the cluster, and each seat knows all that it made. It has the places of the
-- cluster's groups in order. What is published is its own map, except for what is unfinished.
pub record IsMonitorOf (c : Cluster) (m : Monitor) : Type 0 where
  pub seats : AreMonitorOf c m.seats
  pub places : m.places.items ≡ map (λ g. g.group) (firsts_of c)
  pub stands : StandsBy m.unfinished (group_count c) m.map (published_of m) (waiting_of m)
  pub knows : known_of m ≡ Some (published_of m)

abbrev pub left_with : MapCommand → ℕ → Monitor → Monitor
left_with command at m = record m { unfinished = Some (Left command at) }

abbrev pub staged_with : Monitor → Monitor
staged_with m = record m { unfinished = Some Staged }

-- the group at which a change was left, which is the number of groups where it is to be published
abbrev pub left_at : Cluster → Unfinished → ℕ
left_at c (Left command at) = at
left_at c Staged = group_count c

-- this command is unfinished, from this group on
abbrev pub IsLeftBy : Cluster → MapCommand → ℕ → Option Unfinished → Type 0
IsLeftBy c command at None = ⊥
IsLeftBy c command at (Some (Left left from)) = (left ≡ command) × (from ≡ at)
IsLeftBy c command at (Some Staged) = at ≡ group_count c

-- there is no news while a change is unfinished, or where no reader is left
abbrev pub TellFails : Cluster → TellFault → Option Unfinished → Type 0
TellFails c (tells.Unfinished at) None = ⊥
TellFails c (tells.Unfinished at) (Some u) = at ≡ left_at c u
TellFails c tells.NoReader left = IsNone left

-- why a command is refused before any group is looked at: the pools are those of the start, and else as the map refuses it
abbrev pub change_refusal : History → MapCommand → Option MapFault
change_refusal history command = if is_creation command then Some map_fault.Limit else refusal (map_of history) (epoch_of history) command

-- Since `first` the monitor's map has the command more. The groups before `to` have each made the command's event, if it has one, once, and no
-- others: of each group the one on a daemon, in the words of the world
pub record HasBegun (command : MapCommand) (to : ℕ) (first now : Monitor) : Type 0 where
  pub map_is : now.map ≡ with_command first.map command
  pub places : now.places ≡ first.places
  pub moved : HaveMoved (event_at (move_by (map_of first.map) command) first.places.items) 0 to first.seats now.seats

-- the command is published, and each group has made its event, if it has one, once
pub record Changed (c : Cluster) (command : MapCommand) (first now : Monitor) : Type 0 where
  pub begun : HasBegun command (group_count c) first now
  pub before : published_of first ≡ first.map
  pub shown : published_of now ≡ with_command first.map command
  pub done : IsNone now.unfinished

-- the same up to the group `at`, and nothing is published
pub record IsLeft (c : Cluster) (command : MapCommand) (at : ℕ) (first now : Monitor) : Type 0 where
  pub begun : HasBegun command at first now
  pub before : published_of first ≡ first.map
  pub shown : published_of now ≡ first.map
  pub left : IsLeftBy c command at now.unfinished

-- the monitor has told what it has published, and else is as it was
pub record HasOnlyTold (old new : Monitor) : Type 0 where
  pub map_is : new.map ≡ old.map
  pub places : new.places ≡ old.places
  pub seats : new.seats ≡ old.seats
  pub left : new.unfinished ≡ old.unfinished
  pub shown : published_of new ≡ published_of old
  pub waiting : waiting_of new ≡ waiting_of old
  pub knows : known_of new ≡ known_of old

-- nothing changed but that groups were looked at
pub record OnlyLooked (old new : Monitor) : Type 0 where
  pub rest : new ≡ record old { seats = new.seats }
  pub looked : HaveLooked old.seats new.seats

-- nothing refused the command, and each group of which it begins an interval was found with room for one
pub record IsAdmitted (c : Cluster) (command : MapCommand) (old new : Monitor) : Type 0 where
  pub free : change_refusal old.map command ≡ None
  pub room : NoneFull c old.map command old.places.items (group_count c) old.seats new.seats

-- The fault is the first reason to refuse the command, or out of memory if no reason applies. Groups were looked at
-- only in the second case.
pub record IsRefused (command : MapCommand) (fault : MapFault) (old new : Monitor) : Type 0 where
  pub fault_is : fault ≡ unwrap_or (change_refusal old.map command) map_fault.OutOfMemory
  pub looked : OnlyLooked old new
  pub same : IsSome (change_refusal old.map command) → new ≡ old

-- nothing refused the command but a group, of which it begins an interval, and which was found with them all
pub record IsOverfull (c : Cluster) (command : MapCommand) (old new : Monitor) : Type 0 where
  pub free : change_refusal old.map command ≡ None
  pub looked : OnlyLooked old new
  pub full : SomeFull c old.map command old.places.items old.seats new.seats

-- what holds where a change was unfinished, and where none was
abbrev pub WhereLeft : Option Unfinished → (Unfinished → Type 0) → Type 0 → Type 0
WhereLeft (Some u) left whole = left u
WhereLeft None left whole = whole

-- a change that was refused changed nothing, nor did one that came while another was unfinished; else it was begun, and is left
abbrev pub ChangeFails : Cluster → MapCommand → ChangeFault → Monitor → Monitor → Type 0
ChangeFails c command (faults.Map fault) old new = IsNone old.unfinished × IsRefused command fault old new
ChangeFails c command (faults.Group fault) old new = IsNone old.unfinished × (fault ≡ group_fault.Full) × IsOverfull c command old new
ChangeFails c command (faults.Unfinished at) old new = WhereLeft old.unfinished (λ u. (at ≡ left_at c u) × (new ≡ old)) (IsAdmitted c command old new × IsLeft c command at old new)

-- what has become of a change after `finish` answered
abbrev pub Results : Cluster → MapCommand → Result (Unit {0}) ChangeFault → Monitor → Monitor → Type 0
Results c command (Ok x) first new = Changed c command first new
Results c command (Err (faults.Unfinished at)) first new = IsLeft c command at first new
Results c command (Err (faults.Map fault)) first new = ⊥
Results c command (Err (faults.Group fault)) first new = ⊥

-- whatever change was left, it is now whole or left again
abbrev pub Finishes : Cluster → Result (Unit {0}) ChangeFault → Monitor → Monitor → Type 0
Finishes c answer old new = (first : Monitor) (command : MapCommand) (at : ℕ) → IsLeft c command at first old → Results c command answer first new

-- ---- since a first map

-- the events that these commands are for a group, one after another
abbrev pub moves_from : History → GroupId → List MapCommand → List Event
moves_from history id [] = []
moves_from history id (command ∷ commands) = option_to_list (move_by (map_of history) command id) ++ moves_from (with_command history command) id commands

-- each seat has made its group's events of these commands, and no others
abbrev pub AllFollow : History → List MapCommand → List GroupId → Seats → Type 0
AllFollow first commands places seats = (k : ℕ) (id : GroupId) → k < length places → slice_get places k ≡ Some id → happened_at seats k ≡ moves_from first id commands

-- the same, and before the group `at` those of one command more
abbrev pub SomeFollow : History → List MapCommand → MapCommand → ℕ → List GroupId → Seats → Type 0
SomeFollow first commands command at places seats = (k : ℕ) (id : GroupId) → k < length places → slice_get places k ≡ Some id
    → (k < at → happened_at seats k ≡ moves_from first id (commands ++ command ∷ [])) × (at ≤ k → happened_at seats k ≡ moves_from first id commands)

-- by how far a change is unfinished
abbrev pub FollowBy : Option Unfinished → History → List MapCommand → List GroupId → Seats → Type 0
FollowBy None first commands places seats = AllFollow first commands places seats
FollowBy (Some Staged) first commands places seats = AllFollow first commands places seats
FollowBy (Some (Left command at)) first commands places seats = (before : List MapCommand) × (commands ≡ before ++ command ∷ []) × SomeFollow first before command at places seats

-- Since the first map the monitor's map has these commands, none of which creates a pool. Each seat has made exactly
-- its group's events of them. Exception: the last command, if it is left at this group or an earlier one.
pub record Follows (first : History) (m : Monitor) : Type 0 where
  pub commands : List MapCommand
  pub map_is : m.map ≡ with_commands first commands
  pub pools : All (λ command. is_creation command ≡ false) commands
  pub events : FollowBy m.unfinished first commands m.places.items m.seats

-- the same since the start of the cluster
abbrev pub FollowsStart : Cluster → Monitor → Type 0
FollowsStart c m = Follows c.start m
