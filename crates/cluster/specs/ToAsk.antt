-- Refinement: only contracts inside the crate use it.
-- What a reading answers, a request that is ready to be submitted, and what becomes of a vector on a pool that was read.
use Rattle.std.specs.Prelude.{◌≡◌, ℕ, ◌+◌, ◌<◌, List, true, Some, Result, Ok, IfOk}
use Rattle.common_types.specs.Refused.{RefusedFirst}
use Rattle.map_core.specs.State.{History, GoesOn}
use Rattle.map_core.specs.Map.{epoch_of, view_at}
use Rattle.map_core.specs.PoolLimits.{HasLimits}
use Rattle.map_core.specs.Limits.{IsAccepted}
use Rattle.map_core.specs.Refusal.{is_word, view_refusal}
use Rattle.map_core.specs.declared.fault.MapFault.{MapFault}
use Rattle.map_core.specs.declared.fault.MapFault.TheVariants as map_fault
use Rattle.map_core.specs.declared.pool.PoolView.{PoolView}
use Rattle.object_core.specs.declared.op.Op.{Op}
use Rattle.store_core.specs.Request.{Sealed, numbers}
use Rattle.world_events.specs.declared.event.Ask.{Ask}
use Rattle.world_front.specs.ControlPlane.{id_of}
use Rattle.world_core.specs.Sound.{IsSealedFor}
use Rattle.world_front.specs.declared.session.Session.{Session}
use Rattle.cluster.specs.declared.asking.NewRequest.{NewRequest}
use Rattle.cluster.specs.declared.asking.Submitted.{Submitted}
use Rattle.cluster.specs.declared.fault.ClusterFault.{ClusterFault}
use Rattle.cluster.specs.declared.fault.ClusterFault.TheVariants as faults
use Rattle.world_events.specs.declared.fault.WorldFault.TheVariants.{NoPool}
use Rattle.cluster.specs.declared.cluster.Cluster.{Cluster}
use Rattle.cluster.specs.declared.pass.OwnSession.{OwnSession}
use Rattle.cluster.specs.declared.pass.Pass.{Pass}
use Rattle.cluster.specs.Sessions.{own_session, next_of}
use Rattle.cluster.specs.Pools.{HasRead}
use Rattle.cluster.specs.Asking.{ask_by, vector_by, HasSubmitted, IsRefusedBy}

-- ---- a reading

-- why a pool is not seen
abbrev pub fault_of_view : MapFault → ClusterFault
fault_of_view map_fault.OutOfMemory = faults.OutOfMemory
fault_of_view fault = faults.World NoPool

-- a map was read that goes on from the start, and this is what it says of a pool now
pub record HasAnswered (start : History) (pool : List ℕ) (answer : Result PoolView MapFault) (old new : Pass) : Type 0 where
  pub map : History
  pub read : HasRead map old new
  pub on : GoesOn map start
  pub accepted : IsAccepted map
  pub refused : RefusedFirst (view_refusal map pool (epoch_of map)) map_fault.OutOfMemory answer
  pub found : IfOk answer (λ view. (view_at map pool (epoch_of map) ≡ Some view) × HasLimits view.pg_num view.size view.min_size)

-- ---- a request

-- one number more of the session fits
abbrev pub FitsOneMore : List OwnSession → ℕ → Type 0
FitsOneMore own n = next_of own n + 1 < numbers

-- sealed by a pool of the start, under the next number of the session that asks
pub record IsToAsk (start : History) (own : List OwnSession) (ask : Ask) (request : Sealed) : Type 0 where
  pub sealed : IsSealedFor start request
  pub word : is_word request.view.pool ≡ true
  pub id : request.id ≡ id_of ask.session (next_of own ask.session)
  pub room : FitsOneMore own ask.session

-- the request of a vector by a view in hand was submitted
pub record IsVectorSubmitted (c : Cluster) (a : NewRequest) (view : PoolView) (object : List ℕ) (ops : List Op) (asked : Submitted) (old new : Pass) : Type 0 where
  pub session : Session
  pub has : own_session old.sessions.items a.session ≡ Some session
  pub request : Sealed
  pub sealed : vector_by a (record { session = session; view = view }) object ops ≡ Ok request
  pub asks : HasSubmitted c (ask_by a request.view) request asked old new

-- or was not
pub record IsVectorRefused (c : Cluster) (a : NewRequest) (view : PoolView) (object : List ℕ) (ops : List Op) (fault : ClusterFault) (old new : Pass) : Type 0 where
  pub session : Session
  pub has : own_session old.sessions.items a.session ≡ Some session
  pub fails : IsRefusedBy c (vector_by a (record { session = session; view = view }) object ops) fault old new
