-- Statement: contracts of public calls use it.
-- What a command on the map is to all groups at once.
use Rattle.std.specs.Prelude.{◌≡◌, ℕ, ◌+◌, ◌<◌, List, [], ◌∷◌, Bool, true, false, if◌then◌else◌, Option, None, Some, fold, length, map, slice_get, slice_set}
use Rattle.std.specs.List.{flat_map, range_with_len}
use Rattle.std.specs.Option.{option_or}
use Rattle.place_core.specs.Placement.{numbers_of}
use Rattle.map_core.specs.State.{MapState, History}
use Rattle.map_core.specs.Map.{is_named, map_of, after}
use Rattle.map_core.specs.Intervals.{set_of}
use Rattle.map_core.specs.declared.pool.Pool.{Pool}
use Rattle.map_core.specs.declared.command.MapCommand.{MapCommand}
use Rattle.map_core.specs.declared.command.MapCommand.TheVariants.{PoolCreate, OsdUp, OsdDown, OsdRestart}
use Rattle.store_core.specs.declared.sealed.GroupId.{GroupId}
use Rattle.group_model_whole.specs.Each.{Each}
use Rattle.group_model.specs.Group.{Group, group_step, last_set}
use Rattle.group_model.specs.Group as group
use Rattle.group_core.specs.Moves.{Prepared}
use Rattle.group_messages.specs.declared.fault.GroupFault.{GroupFault}
use Rattle.world_core.specs.World.{Part, group_at, at_group, members_of, begun_group}
use Rattle.world_front.specs.Groups.{groups_of}

-- one group after its part
abbrev pub stepped_by : List Group → Part → List Group
stepped_by groups p = at_group p.id (λ g. group_step g p.event) groups

-- the groups after these parts
abbrev pub stepped : List Part → List Group → List Group
stepped parts groups = fold stepped_by groups parts

-- The groups are those of the map's pools, in order of creation and by number. Each serves with the set that the map has for it
-- now, and has heard who is up.
pub record AreGroupsOf (history : History) (groups : List Group) : Type 0 where
  pub places : map (λ g. g.group) groups ≡ flat_map groups_of (map_of history).pools
  pub present : Each (λ g. set_of (map_of history) g.group.pool g.group.number ≡ Some (last_set g.sets)) groups
  pub up : Each (λ g. g.up ≡ numbers_of (map_of history).up) groups

-- whether every group has a part of a command: one on a daemon
abbrev pub moves_groups : MapCommand → Bool
moves_groups (OsdUp daemon) = true
moves_groups (OsdDown daemon) = true
moves_groups (OsdRestart daemon) = true
moves_groups _ = false

-- a group's part of such a command
abbrev pub move_of : MapState → MapCommand → GroupId → group.Event
move_of state (OsdRestart daemon) id = group.Restart daemon
move_of state command id = group.NewInterval (members_of (after state command) id) (numbers_of (after state command).up)

-- the groups that a command creates, by number
abbrev pub made_by : MapState → MapCommand → List Group
made_by state (PoolCreate name pg_num size min_size) =
    map (begun_group (after state (PoolCreate name pg_num size min_size)) min_size) (map (λ n. record { pool = name; number = n }) (range_with_len 0 pg_num))
made_by state _ = []

-- each group after its own part
abbrev pub all_moved : (GroupId → group.Event) → List Group → List Group
all_moved event groups = map (λ g. group_step g (event g.group)) groups

-- the first refusal among all groups
abbrev pub first_refusal : (GroupId → group.Event) → List Group → Option GroupFault
first_refusal event [] = None
first_refusal event (g ∷ gs) = option_or (group.refusal_of g (event g.group)) (first_refusal event gs)

-- a group, ready for its part
abbrev pub prepared : (GroupId → group.Event) → Group → Prepared
prepared event g = record { group = g; event = event g.group }

abbrev pub all_prepared : (GroupId → group.Event) → List Group → List Prepared
all_prepared event groups = map (prepared event) groups

-- what a prepared group was, and what it becomes
abbrev pub given_up : Prepared → Group
given_up p = p.group

abbrev pub committed : Prepared → Group
committed p = group_step p.group p.event

-- ---- places

-- the group stands there, and no other of its name
pub record IsAt (groups : List Group) (id : GroupId) (place : ℕ) : Type 0 where
  pub group : Group
  pub there : slice_get groups place ≡ Some group
  pub found : group_at id groups ≡ Some group
  pub changed : (change : Group → Group) → at_group id change groups ≡ slice_set groups place (change group)
  pub within : place < length groups
