-- Statement: contracts of public calls use it.
-- The world: the front, the groups, and what was decided.
use Rattle.std.specs.Prelude.{ℕ, List, [], ◌∷◌, ◌++◌, Bool, true, false, if◌then◌else◌, Option, None, Some, Result, Ok, Err, length, drop, fold, map, unwrap_or}
use Rattle.std.specs.List.{flat_map}
use Rattle.std.specs.Option.{option_map, option_or}
use Rattle.grant_core.specs.Flat.{Table}
use Rattle.place_core.specs.Placement.{numbers_of}
use Rattle.map_core.specs.State.{MapState}
use Rattle.map_core.specs.Map.{map_of, after}
use Rattle.map_core.specs.Intervals.{set_of}
use Rattle.map_core.specs.declared.pool.Pool.{Pool}
use Rattle.map_core.specs.declared.command.MapCommand.{MapCommand}
use Rattle.map_core.specs.declared.command.MapCommand.TheVariants.{PoolCreate, OsdUp, OsdDown, OsdRestart}
use Rattle.store_core.specs.Request.{Sealed}
use Rattle.store_core.specs.declared.entry.Entry.{Entry}
use Rattle.store_core.specs.declared.sealed.GroupId.{GroupId}
use Rattle.group_model.specs.Group.{Group, group_step, start}
use Rattle.group_model.specs.Group as group
use Rattle.group_messages.specs.declared.fault.GroupFault.{GroupFault}
use Rattle.group_messages.specs.declared.fault.GroupFault.TheVariants as group_fault
use Rattle.world_events.specs.declared.event.Event.{Event}
use Rattle.world_events.specs.declared.event.Event.TheVariants.{Map, Submit, List as ListNames, Deliver, Lose, Repeat, Kick}
use Rattle.world_events.specs.declared.event.Told.{Told}
use Rattle.world_events.specs.declared.fault.WorldFault.{WorldFault as Fault}
use Rattle.world_events.specs.declared.fault.WorldFault.TheVariants.{Group as OfGroup}
use Rattle.world_front.specs.ControlPlane.{ControlPlane, first_front, front_step, front_refusal, sealed_by}
use Rattle.entry_core.specs.Locality.{group_for}
use Rattle.world_front.specs.Groups.{is_same_group, groups_of}

pub record World : Type 0 where
  pub front : ControlPlane
  pub groups : List Group  -- in order of creation
  pub audit : List Entry  -- the decided entries of all groups, in the order in which they were decided

abbrev pub first_world : Table → ℕ → World
first_world table daemons = record { front = first_front table daemons; groups = []; audit = [] }

-- ---- groups by their places

abbrev pub group_at : GroupId → List Group → Option Group
group_at id [] = None
group_at id (g ∷ gs) = if is_same_group id g.group then Some g else group_at id gs

-- the groups, with the one of this place changed
abbrev pub at_group : GroupId → (Group → Group) → List Group → List Group
at_group id change [] = []
at_group id change (g ∷ gs) = if is_same_group id g.group then change g ∷ gs else g ∷ at_group id change gs

-- ---- an event, as the groups see it

-- what happens to one group
pub record Part : Type 0 where
  pub id : GroupId
  pub event : group.Event

abbrev pub part : GroupId → group.Event → Part
part id event = record { id = id; event = event }

-- the acting set of a group
abbrev pub members_of : MapState → GroupId → List ℕ
members_of state id = unwrap_or (set_of state id.pool id.number) []

-- every group of the map hears who is up, and what its set is
abbrev pub moved_parts : MapState → List Part
moved_parts state = map (λ id. part id (group.NewInterval (members_of state id) (numbers_of state.up))) (flat_map groups_of state.pools)

abbrev pub restarted_parts : MapState → ℕ → List Part
restarted_parts state daemon = map (λ id. part id (group.Restart daemon)) (flat_map groups_of state.pools)

abbrev pub map_parts : MapState → MapCommand → List Part
map_parts state (OsdUp daemon) = moved_parts (after state (OsdUp daemon))
map_parts state (OsdDown daemon) = moved_parts (after state (OsdDown daemon))
map_parts state (OsdRestart daemon) = restarted_parts state daemon
map_parts state command = []

-- the requests of an event, each to its group
abbrev pub asked_parts : List Sealed → List Part
asked_parts requests = map (λ s. part (group_for s) (group.Submit s)) requests

-- what an event is to the groups, in order
abbrev pub parts_of : ControlPlane → Event → List Part
parts_of front (Map command) = map_parts (map_of front.history) command
parts_of front (Submit ask object ops) = asked_parts (sealed_by front (Submit ask object ops))
parts_of front (ListNames ask) = asked_parts (sealed_by front (ListNames ask))
parts_of front (Deliver id k) = part id (group.Deliver k) ∷ []
parts_of front (Lose id k) = part id (group.Lose k) ∷ []
parts_of front (Repeat id k) = part id (group.Repeat k) ∷ []
parts_of front (Kick id) = part id group.Kick ∷ []
parts_of front e = []

-- a new group, in its first interval
abbrev pub begun_group : MapState → ℕ → GroupId → Group
begun_group state min_size id = start id min_size state.daemons (members_of state id) (numbers_of state.up)

abbrev pub created_pool : MapState → Pool → List Group
created_pool state pool = map (begun_group state pool.min_size) (groups_of pool)

-- the groups that an event creates
abbrev pub created_by : ControlPlane → Event → List Group
created_by front (Map (PoolCreate name pg_num size min_size)) =
    created_pool (after (map_of front.history) (PoolCreate name pg_num size min_size)) (record { name = name; pg_num = pg_num; size = size; min_size = min_size; tags = [] })
created_by front e = []

-- ---- the step

-- what an event decides in a group, if it is there
abbrev pub decided_in : Option Group → group.Event → List Entry
decided_in None e = []
decided_in (Some g) e = drop (length g.audit) (group_step g e).audit

-- one group's part of an event
abbrev pub act : World → Part → World
act w p = record w {
  groups = at_group p.id (λ g. group_step g p.event) w.groups;
  audit = w.audit ++ decided_in (group_at p.id w.groups) p.event;
}

abbrev pub acted : World → List Part → World
acted w parts = fold act w parts

-- the world after an accepted event
abbrev pub world_step : World → Event → World
world_step w e = record {
  front = front_step w.front e;
  groups = (acted w (parts_of w.front e)).groups ++ created_by w.front e;
  audit = (acted w (parts_of w.front e)).audit;
}

-- the world after these events
abbrev pub world_after : Table → ℕ → List Event → World
world_after table daemons events = fold world_step (first_world table daemons) events

-- ---- refusals

abbrev pub refused_in : Option Group → group.Event → Option GroupFault
refused_in None e = None
refused_in (Some g) e = group.refusal_of g e

abbrev pub part_refusal : List Group → Part → Option GroupFault
part_refusal groups p = refused_in (group_at p.id groups) p.event

-- the first refusal of a group
abbrev pub parts_refusal : List Group → List Part → Option GroupFault
parts_refusal groups [] = None
parts_refusal groups (p ∷ ps) = option_or (part_refusal groups p) (parts_refusal groups ps)

-- why an event is refused: by the front, and else by the first group that refuses its part
abbrev pub refusal_of : World → Event → Option Fault
refusal_of w e = option_or (front_refusal w.front e) (option_map OfGroup (parts_refusal w.groups (parts_of w.front e)))

-- a delivery to a daemon that is down has dropped its message, and counts as an accepted event
abbrev pub is_drop : Event → Fault → Bool
is_drop (Deliver id k) (OfGroup group_fault.Unreachable) = true
is_drop e fault = false

abbrev pub counts : Event → Result Told Fault → Bool
counts e (Ok told) = true
counts e (Err fault) = is_drop e fault

abbrev pub accepts : Event → Option Fault → Bool
accepts e None = true
accepts e (Some fault) = is_drop e fault

abbrev pub is_accepted : World → Event → Bool
is_accepted w e = accepts e (refusal_of w e)
