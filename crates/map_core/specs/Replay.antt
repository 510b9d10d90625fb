-- Refinement: only contracts inside the crate use it.
-- One pool alone, command by command.
use Rattle.std.specs.Prelude.{ℕ, List, if◌then◌else◌, Option, None, Some}
use Rattle.std.specs.Option.{option_map}
use Rattle.std.specs.Str.{bytes_eq}
use Rattle.map_core.specs.Map.{created, tagged}
use Rattle.map_core.specs.declared.pool.Pool.{Pool}
use Rattle.map_core.specs.declared.fault.MapFault.{MapFault}
use Rattle.map_core.specs.declared.fault.MapFault.TheVariants as fault
use Rattle.map_core.specs.declared.command.MapCommand.{MapCommand}
use Rattle.map_core.specs.declared.command.MapCommand.TheVariants.{PoolCreate, AppEnable, AppSet, AppRm, OsdUp, OsdDown, OsdRestart}

-- a pool, or none, changed
abbrev pub change_some : List ℕ → List ℕ → MapCommand → Option Pool → Option Pool
change_some name pool command found = if bytes_eq pool name then option_map (tagged command) found else found

-- what a command leaves of the pool of this name
abbrev pub pool_step : List ℕ → Option Pool → MapCommand → Option Pool
pool_step name (Some pool) (PoolCreate created_name pg_num size min_size) = Some pool
pool_step name None (PoolCreate created_name pg_num size min_size) = if bytes_eq created_name name then Some (created created_name pg_num size min_size) else None
pool_step name found (AppEnable pool app) = change_some name pool (AppEnable pool app) found
pool_step name found (AppSet pool app key value) = change_some name pool (AppSet pool app key value) found
pool_step name found (AppRm pool app key) = change_some name pool (AppRm pool app key) found
pool_step name found (OsdUp daemon) = found
pool_step name found (OsdDown daemon) = found
pool_step name found (OsdRestart daemon) = found

-- the fault where there is no pool
abbrev pub no_pool : Option Pool → Option MapFault
no_pool None = Some fault.NoPool
no_pool (Some pool) = None
