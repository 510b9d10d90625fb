-- Statement: contracts of public calls use it.
-- What a pass reads of the published map.
use Rattle.std.specs.Prelude.{◌≡◌, ◌⊎◌, ℕ, List, true, Option, Some, None, if◌then◌else◌}
use Rattle.map_core.specs.State.{History}
use Rattle.map_core.specs.Map.{map_of, epoch_of, view_at}
use Rattle.map_core.specs.Refusal.{has_pool, is_word}
use Rattle.map_core.specs.PoolLimits.{HasLimits}
use Rattle.map_core.specs.declared.pool.PoolView.{PoolView}
use Rattle.world_events.specs.declared.fault.WorldFault.TheVariants.{NoPool}
use Rattle.world_front.specs.Stands.{InMap}
use Rattle.cluster.specs.declared.fault.ClusterFault.{ClusterFault}
use Rattle.cluster.specs.declared.fault.ClusterFault.TheVariants as faults
use Rattle.cluster.specs.declared.pass.Pass.{Pass}
use Rattle.published_map.specs.Published.{Sees}
use Rattle.cluster.specs.Asks.{known_by}

-- the pass knows as much of the map as before, and else is as it was
pub record KnowsTheSame (old new : Pass) : Type 0 where
  pub known : known_by new ≡ known_by old
  pub seats : new.seats ≡ old.seats
  pub sessions : new.sessions ≡ old.sessions

-- one reading of a map that covers what the pass knew, and is what it has seen then; else the pass is as it was
pub record HasRead (map : History) (old new : Pass) : Type 0 where
  pub sees : Sees map (known_by old) (known_by new)
  pub seats : new.seats ≡ old.seats
  pub sessions : new.sessions ≡ old.sessions

-- ---- a pool, to ask something of it

-- the pool as a map has it now, where the cluster began with that pool
abbrev pub view_by : (start map : History) → List ℕ → Option PoolView
view_by start map pool = if has_pool (map_of start).pools pool then view_at map pool (epoch_of map) else None

-- a view of a pool that the cluster began with, and of as many groups
pub record IsPoolOf (start : History) (pool : List ℕ) (view : PoolView) : Type 0 where
  pub named : view.pool ≡ pool
  pub word : is_word pool ≡ true
  pub there : InMap start view.pool view.pg_num
  pub limits : HasLimits view.pg_num view.size view.min_size

-- the pool was read
pub record HasSeen (start : History) (pool : List ℕ) (view : PoolView) (old new : Pass) : Type 0 where
  pub map : History
  pub read : HasRead map old new
  pub is : view_by start map pool ≡ Some view
  pub pool_is : IsPoolOf start pool view

-- no reading was given; or the map that was read has no such pool, or no memory was there for the view
abbrev pub IsUnseen : History → List ℕ → ClusterFault → Pass → Pass → Type 0
IsUnseen start pool fault old new =
    ((fault ≡ faults.NoReader) × KnowsTheSame old new)
    ⊎ ((map : History) × HasRead map old new × ((fault ≡ faults.OutOfMemory) ⊎ ((fault ≡ faults.World NoPool) × (view_by start map pool ≡ None))))
