-- Statement: contracts of public calls use it.
-- What a map answers at its present epoch: a pool, and where an object is.
use Rattle.std.specs.Prelude.{◌≡◌, ℕ, List, Some, Result, IfOk}
use Rattle.common_types.specs.Refused.{RefusedFirst}
use Rattle.place_core.specs.Placement.{group_of}
use Rattle.map_core.specs.State.{History}
use Rattle.map_core.specs.Map.{epoch_of, map_of, view_at}
use Rattle.map_core.specs.Intervals.{set_of}
use Rattle.map_core.specs.PoolLimits.{HasLimits}
use Rattle.map_core.specs.Limits.{IsAccepted}
use Rattle.map_core.specs.Refusal.{view_refusal}
use Rattle.map_core.specs.declared.fault.MapFault.{MapFault}
use Rattle.map_core.specs.declared.fault.MapFault.TheVariants as faults
use Rattle.map_core.specs.declared.pool.PoolView.{PoolView}
use Rattle.published_map.specs.declared.places.Located.{Located}

-- refused first as the map refuses a view of the pool, else out of memory
abbrev pub RefusedOf : {T : Type 0} → List ℕ → History → Result T MapFault → Type 0
RefusedOf pool map answer = RefusedFirst (view_refusal map pool (epoch_of map)) faults.OutOfMemory answer

-- a map that was accepted command by command says so of a pool
abbrev pub SaysOf : List ℕ → History → Result PoolView MapFault → Type 0
SaysOf pool map answer = IsAccepted map × RefusedOf pool map answer
    × IfOk answer (λ view. (view_at map pool (epoch_of map) ≡ Some view) × HasLimits view.pg_num view.size view.min_size)

-- the group of the object among those of the pool at the map's present epoch, and that group's acting set
pub record IsLocated (map : History) (pool namespace object : List ℕ) (located : Located) : Type 0 where
  pub view : PoolView
  pub is : view_at map pool (epoch_of map) ≡ Some view
  pub group : located.group ≡ group_of namespace object view.pg_num
  pub acting : set_of (map_of map) pool located.group ≡ Some located.acting

-- a map says so of an object's place
abbrev pub SaysWhere : (pool namespace object : List ℕ) → History → Result Located MapFault → Type 0
SaysWhere pool namespace object map answer = RefusedOf pool map answer × IfOk answer (IsLocated map pool namespace object)
