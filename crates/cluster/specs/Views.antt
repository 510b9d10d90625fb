-- Statement: contracts of public calls use it.
-- What a pass sees of the published map, and what its sessions' tickets allow.
use Rattle.std.specs.Prelude.{◌≡◌, ℕ, List, Bool, Option, Some, None, Result, Ok, Err, if◌then◌else◌}
use Rattle.std.specs.Option.{option_map, option_or}
use Rattle.common_types.specs.Refused.{RefusedFirst}
use Rattle.map_core.specs.State.{History}
use Rattle.map_core.specs.Map.{epoch_of, view_at}
use Rattle.map_core.specs.Refusal as tests
use Rattle.map_core.specs.declared.fault.MapFault.{MapFault}
use Rattle.map_core.specs.declared.fault.MapFault.TheVariants as map_fault
use Rattle.map_core.specs.declared.pool.PoolView.{PoolView}
use Rattle.world_events.specs.declared.fault.WorldFault.TheVariants.{BadObjectName, Map as OfMap}
use Rattle.cluster.specs.declared.fault.ClusterFault.{ClusterFault}
use Rattle.cluster.specs.declared.fault.ClusterFault.TheVariants as faults
use Rattle.published_map.specs.declared.published.Knowledge.{Knowledge}
use Rattle.cluster.specs.declared.pass.Pass.{Pass}
use Rattle.published_map.specs.Published.{Sees}

-- the cluster's fault for a fault of the map; out of memory is the cluster's own
abbrev pub fault_of_map : MapFault → ClusterFault
fault_of_map map_fault.OutOfMemory = faults.OutOfMemory
fault_of_map fault = faults.World (OfMap fault)

-- what was found by a map, or that there was no reading
abbrev pub told_by : {T : Type 0} → Option (Result T MapFault) → Result T ClusterFault
told_by None = Err faults.NoReader
told_by (Some (Ok x)) = Ok x
told_by (Some (Err fault)) = Err (fault_of_map fault)

-- An answer by one map, which goes on from all that was known before and is then what was seen: refused first as it is by that map, or else for want
-- of memory; without a reading nothing is seen
abbrev pub LooksBy : {T : Type 0} → (History → Option ClusterFault) → (History → T → Type 0) → Knowledge → Knowledge → Result T ClusterFault → Type 0
LooksBy refusal P v w (Ok x) = (map : History) × Sees map v w × (refusal map ≡ None) × P map x
LooksBy refusal P v w (Err faults.NoReader) = w ≡ v
LooksBy refusal P v w (Err fault) = (map : History) × Sees map v w × RefusedFirst {T = Unit {0}} (refusal map) faults.OutOfMemory (Err fault)

-- why a look at a pool is refused
abbrev pub pool_refusal : List ℕ → History → Option ClusterFault
pool_refusal pool map = option_map fault_of_map (tests.view_refusal map pool (epoch_of map))

-- the pool at the map's present epoch
abbrev pub IsView : List ℕ → History → PoolView → Type 0
IsView pool map view = view_at map pool (epoch_of map) ≡ Some view

-- why a look for an object is refused: the pool's refusals, then the names'
abbrev pub place_refusal : List ℕ → Bool → History → Option ClusterFault
place_refusal pool are_names map = option_or (pool_refusal pool map) (if are_names then None else Some (faults.World BadObjectName))

-- the seats and the sessions stay
abbrev pub OnlyLooked : Pass → Pass → Type 0
OnlyLooked old new = (new.seats ≡ old.seats) × (new.sessions ≡ old.sessions)
