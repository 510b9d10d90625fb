-- Statement: contracts of public calls use it.
-- What holds of every world of the program: facts of its front, of its groups and of its runs, and of no history of events.
use Rattle.std.specs.Prelude.{◌≡◌, ℕ, ◌<◌, ◌≤◌, List, [], Some, length, map, slice_get}
use Rattle.std.specs.List.{filter, flat_map}
use Rattle.place_core.specs.Placement.{numbers_of}
use Rattle.map_core.specs.State.{History}
use Rattle.map_core.specs.Map.{map_of}
use Rattle.map_core.specs.Limits.{IsAccepted}
use Rattle.map_core.specs.Intervals.{set_of, intervals_of}
use Rattle.entry_core.specs.Locality.{group_for}
use Rattle.store_core.specs.Request.{Sealed}
use Rattle.store_core.specs.declared.sealed.GroupId.{GroupId}
use Rattle.group_model_whole.specs.Each.{Each}
use Rattle.group_model_whole.specs.Asked.{IsAsked}
use Rattle.group_model.specs.Group.{Group, Event, Submit, Deliver, Lose, Repeat, NewInterval, Restart, Kick, last_set, run, start}
use Rattle.group_model.specs.Within.{IsReachedWithin}
use Rattle.world_front.specs.Groups.{is_for, groups_of}
use Rattle.world_front.specs.ControlPlane.{ControlPlane}
use Rattle.world_core.specs.World.{World, group_at}
use Rattle.world_core.specs.Standing.{audit_in, IsMerged}
use Rattle.world_front.specs.Stands.{InMap, IsSealedWell, FrontStands}
use Rattle.world_core.specs.declared.audit.Run.{Run}
use Rattle.world_core.specs.Inside.{world_of}
use Rattle.world_events.specs.Submitting.{AreNew}

-- ---- the front

pub record IsSealedFor (history : History) (s : Sealed) : Type 0 where
  pub well : IsSealedWell history s
  pub below : s.group < s.view.pg_num

-- the map accepted each command, and no group has too many requests
pub record FrontKept (f : ControlPlane) : Type 0 where
  pub accepted : IsAccepted f.history
  pub sealed : Each (IsSealedFor f.history) f.submissions
  pub few : (id : GroupId) → length (filter (is_for id) f.submissions) ≤ 16384

-- ---- one group

-- what is submitted is one of these requests, for this group
abbrev pub Submits : List Sealed → GroupId → Event → Type 0
Submits submissions id (Submit s) = IsAsked submissions s × (group_for s ≡ id)
Submits submissions id (Deliver k) = Unit {0}
Submits submissions id (Lose k) = Unit {0}
Submits submissions id (Repeat k) = Unit {0}
Submits submissions id (NewInterval acting up) = Unit {0}
Submits submissions id (Restart d) = Unit {0}
Submits submissions id Kick = Unit {0}

-- a group that some events made, of which each submission is one of these, for this group
pub record Stands (submissions : List Sealed) (g : Group) : Type 0 where
  pub min_size : ℕ
  pub count : ℕ
  pub acting : List ℕ
  pub up : List ℕ
  pub events : List Event
  pub submits : Each (Submits submissions g.group) events
  pub is : run events (start g.group min_size count acting up) ≡ g

-- the sets of a group are the intervals, and the last is the present one
pub record HasSets (h : History) (id : GroupId) (sets : List (List ℕ)) : Type 0 where
  pub are : sets ≡ intervals_of h id.pool id.number
  pub present : set_of (map_of h) id.pool id.number ≡ Some (last_set sets)

-- a group of `count` daemons, each of whose acting sets was within the daemons that were up
pub record IsWithin (count : ℕ) (g : Group) : Type 0 where
  pub is : IsReachedWithin g
  pub all : is.reached.daemons ≡ count

pub record GroupKept (f : ControlPlane) (id : GroupId) (g : Group) : Type 0 where
  pub requests : g.requests ≡ filter (is_for id) f.submissions
  pub groups : ℕ
  pub pool : InMap f.history id.pool groups
  pub number : id.number < groups
  pub up : g.up ≡ numbers_of (map_of f.history).up
  pub sets : HasSets f.history id g.sets
  pub within : IsWithin (map_of f.history).daemons g

-- ---- the world

pub record WorldStands (w : World) : Type 0 where
  pub front : FrontStands w.front
  pub groups : Each (Stands w.front.submissions) w.groups
  pub asked : Each (λ x. IsAsked w.front.submissions x.sealed) w.audit
  pub merged : IsMerged w

pub record WorldKept (w : World) : Type 0 where
  pub front : FrontKept w.front
  pub groups : (id : GroupId) (g : Group) → group_at id w.groups ≡ Some g → GroupKept w.front id g

-- the groups are those of the map's pools, in order
abbrev pub HasGroups : World → Type 0
HasGroups w = map (λ g. g.group) w.groups ≡ flat_map groups_of (map_of w.front.history).pools

pub record IsSound (w : World) : Type 0 where
  pub stands : WorldStands w
  pub kept : WorldKept w
  pub places : HasGroups w
  pub new : AreNew [] w.front.submissions

-- the run is of a group that is there, and within what was decided in it
pub record FitsAt (groups : List Group) (run : Run) : Type 0 where
  pub there : run.group < length groups
  pub forward : run.from ≤ run.upto
  pub within : run.upto ≤ length (audit_in (slice_get groups run.group))

pub record IsKept (front : ControlPlane) (groups : List Group) (runs : List Run) : Type 0 where
  pub sound : IsSound (world_of front groups runs)
  pub fit : Each (FitsAt groups) runs
