-- Statement: contracts of public calls use it.
-- Which event a command on the map is for a group.
use Rattle.std.specs.Prelude.{Bool, true, false, Option, Some, None, if◌then◌else◌, length, nat_lt}
use Rattle.place_core.specs.Placement.{numbers_of}
use Rattle.map_core.specs.State.{MapState, History}
use Rattle.map_core.specs.Intervals.{intervals_of}
use Rattle.map_core.specs.declared.command.MapCommand.{MapCommand}
use Rattle.map_core.specs.declared.command.MapCommand.TheVariants.{PoolCreate, AppEnable, AppSet, AppRm, OsdUp, OsdDown, OsdRestart}
use Rattle.store_core.specs.declared.sealed.GroupId.{GroupId}
use Rattle.group_model.specs.Group.{Event, NewInterval, Restart}
use Rattle.world_core.specs.World.{members_of}
use Rattle.world_core.specs.Moves.{moves_groups, move_of}
use Rattle.published_map.specs.Published.{with_command}

-- by the map after the command: of each group one on a daemon, and none another
abbrev pub move_in : MapState → MapCommand → GroupId → Option Event
move_in state (OsdUp daemon) id = Some (NewInterval (members_of state id) (numbers_of state.up))
move_in state (OsdDown daemon) id = Some (NewInterval (members_of state id) (numbers_of state.up))
move_in state (OsdRestart daemon) id = Some (Restart daemon)
move_in state (PoolCreate name pg_num size min_size) id = None
move_in state (AppEnable pool app) id = None
move_in state (AppSet pool app key value) id = None
move_in state (AppRm pool app key) id = None

-- the same by the map before it, in the words of the world
abbrev pub move_by : MapState → MapCommand → GroupId → Option Event
move_by state command id = if moves_groups command then Some (move_of state command id) else None

-- whether a command begins an interval of a group, by the map
abbrev pub begins_interval : History → MapCommand → GroupId → Bool
begins_interval history command id = nat_lt (length (intervals_of history id.pool id.number)) (length (intervals_of (with_command history command) id.pool id.number))

abbrev pub is_creation : MapCommand → Bool
is_creation (PoolCreate name pg_num size min_size) = true
is_creation _ = false
