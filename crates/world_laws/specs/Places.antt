-- Statement: contracts of public calls use it.
-- Every place of the map has its group.
use Rattle.std.specs.Prelude.{◌≡◌, ℕ, ◌<◌, List, None, Some, map}
use Rattle.std.specs.List.{find, flat_map}
use Rattle.grant_core.specs.Flat.{Table}
use Rattle.map_core.specs.State.{History}
use Rattle.map_core.specs.Map.{is_named, map_of}
use Rattle.map_core.specs.declared.pool.Pool.{Pool}
use Rattle.store_core.specs.declared.sealed.GroupId.{GroupId}
use Rattle.group_model.specs.Group.{Group}
use Rattle.world_events.specs.declared.event.Event.{Event}
use Rattle.world_front.specs.ControlPlane.{group_refusal}
use Rattle.world_core.specs.World.{World, group_at, world_step, world_after}
use Rattle.world_front.specs.Groups.{groups_of}
use Rattle.world_core.specs.Holds.{AreAccepted}

-- the places of the map: pool after pool in order of creation, each with its numbers from 0 on
abbrev pub places_of : History → List GroupId
places_of history = flat_map groups_of (map_of history).pools

-- the groups are those of the places, in their order
abbrev pub HasPlaces : World → Type 0
HasPlaces w = map (λ g. g.group) w.groups ≡ places_of w.front.history

-- whatever happens
abbrev pub EveryPlaceHasItsGroup : Type 0
EveryPlaceHasItsGroup = (table : Table) (daemons : ℕ) (events : List Event) → HasPlaces (world_after table daemons events)

-- and after one more event, whatever it is
abbrev pub PlacesStay : Type 0
PlacesStay = (w : World) (e : Event) → HasPlaces w → HasPlaces (world_step w e)

-- a place: a pool of the map, and one of its numbers
pub record IsPlace (history : History) (id : GroupId) : Type 0 where
  pub pool : Pool
  pub found : find (is_named id.pool) (map_of history).pools ≡ Some pool
  pub number : id.number < pool.pg_num

-- its group is there
pub record HasGroup (groups : List Group) (id : GroupId) : Type 0 where
  pub group : Group
  pub there : group_at id groups ≡ Some group
  pub is : group.group ≡ id

-- a group is found just where the map has the place, and just where the front does not refuse its name or number
pub record IsFoundByPlace (w : World) (id : GroupId) : Type 0 where
  pub at_place : IsPlace w.front.history id → HasGroup w.groups id
  pub of_place : (g : Group) → group_at id w.groups ≡ Some g → IsPlace w.front.history id
  pub named : group_refusal w.front id ≡ None → HasGroup w.groups id
  pub unrefused : (g : Group) → group_at id w.groups ≡ Some g → group_refusal w.front id ≡ None

-- where each event was accepted
abbrev pub GroupsAreFoundByPlace : Type 0
GroupsAreFoundByPlace = (table : Table) (daemons : ℕ) (events : List Event) (id : GroupId) → AreAccepted table daemons events → IsFoundByPlace (world_after table daemons events) id
