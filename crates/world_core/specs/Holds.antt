-- Statement: contracts of public calls use it.
-- What a world has to do with the events that were accepted.
use Rattle.std.specs.Prelude.{◌≡◌, ℕ, List, [], ◌∷◌, ◌++◌, true, Option, None, Some, map}
use Rattle.std.specs.List.{filter}
use Rattle.grant_core.specs.Flat.{Table}
use Rattle.map_core.specs.Intervals.{intervals_of}
use Rattle.store_core.specs.declared.sealed.GroupId.{GroupId}
use Rattle.group_model.specs.Group.{Group, run}
use Rattle.group_model.specs.Group as group
use Rattle.world_events.specs.declared.event.Event.{Event}
use Rattle.world_front.specs.Groups.{is_same_group}
use Rattle.world_front.specs.ControlPlane.{ControlPlane, first_front, front_step, front_after}
use Rattle.world_core.specs.World.{World, Part, group_at, parts_of, created_by, world_after, world_step, first_world, is_accepted}
use Rattle.world_core.specs.Standing.{HasNumbers}
use Rattle.world_core.specs.Answers.{IsOneList}

-- ---- one group alone

-- a group's part of an event
abbrev pub events_in : GroupId → List Part → List group.Event
events_in id parts = map (λ p. p.event) (filter (λ p. is_same_group id p.id) parts)

abbrev pub group_step_alone : ControlPlane → GroupId → Event → Option Group → Option Group
group_step_alone front id e None = group_at id (created_by front e)
group_step_alone front id e (Some g) = Some (run (events_in id (parts_of front e)) g)

abbrev pub group_from : ControlPlane → GroupId → Option Group → List Event → Option Group
group_from front id found [] = found
group_from front id found (e ∷ es) = group_from (front_step front e) id (group_step_alone front id e found) es

-- the group of a place after some events: its pool's creation, and then its submissions, deliveries, losses, repeats, kicks and daemon commands
abbrev pub group_after : Table → ℕ → GroupId → List Event → Option Group
group_after table daemons id events = group_from (first_front table daemons) id None events

-- ---- histories

-- each event is accepted where it stands
abbrev pub AcceptedFrom : World → List Event → Type 0
AcceptedFrom w [] = Unit {0}
AcceptedFrom w (e ∷ es) = (is_accepted w e ≡ true) × AcceptedFrom (world_step w e) es

abbrev pub AreAccepted : Table → ℕ → List Event → Type 0
AreAccepted table daemons events = AcceptedFrom (first_world table daemons) events

-- the acting sets of a group's intervals are those of the map
abbrev pub HasIntervals : World → Type 0
HasIntervals w = (id : GroupId) (g : Group) → group_at id w.groups ≡ Some g → g.sets ≡ intervals_of w.front.history id.pool id.number

-- the world is one that these events make: users, map and sessions are those of the front; each group is the fold of its own part;
-- what was decided is one legal list of submissions, of which each answer is the reply
pub record Holds (table : Table) (daemons : ℕ) (events : List Event) (w : World) : Type 0 where
  pub made : w ≡ world_after table daemons events
  pub front : w.front ≡ front_after table daemons events
  pub groups : (id : GroupId) → group_at id w.groups ≡ group_after table daemons id events
  pub decided : IsOneList w

-- whatever happens
abbrev pub WorldHolds : Type 0
WorldHolds = (table : Table) (daemons : ℕ) (events : List Event) → HasNumbers (world_after table daemons events) → Holds table daemons events (world_after table daemons events)

-- and after one more event, whatever it is
abbrev pub HoldsOn : Type 0
HoldsOn = (table : Table) (daemons : ℕ) (events : List Event) (e : Event) (w : World) → Holds table daemons events w → HasNumbers (world_step w e) → Holds table daemons (events ++ e ∷ []) (world_step w e)
