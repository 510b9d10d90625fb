-- Statement: contracts of public calls use it.
-- What a pass asks of groups: requests sealed by its sessions and by the map that it reads, each submitted by one turn.
use Rattle.std.specs.Prelude.{◌≡◌, ◌⊎◌, ℕ, ◌+◌, ◌<◌, ◌==◌, ◌&&◌, not, List, [], ◌∷◌, Option, Some, Result, Ok, Err, length, map as each, nat_lt, position}
use Rattle.std.specs.List.{range_with_len}
use Rattle.map_core.specs.State.{History}
use Rattle.map_core.specs.declared.pool.PoolView.{PoolView}
use Rattle.object_core.specs.Needs.{needs_fault}
use Rattle.object_core.specs.declared.op.Op.{Op}
use Rattle.store_core.specs.Request.{Sealed, Listing}
use Rattle.entry_core.specs.Locality.{group_for}
use Rattle.group_messages.specs.declared.fault.GroupFault.{GroupFault}
use Rattle.world_events.specs.declared.event.Ask.{Ask}
use Rattle.world_events.specs.declared.fault.WorldFault.{WorldFault as Fault}
use Rattle.world_events.specs.declared.fault.WorldFault.TheVariants.{NoSession, NoPool, BadObjectName, StaleTick, Needs as OfNeeds}
use Rattle.world_front.specs.ControlPlane.{◌>>=◌, need, refuse_if, lower, Asker, is_object_name, is_namespace, sealed_of, vector_of, id_of, asks_more}
use Rattle.world_core.specs.Moves.{IsAt}
use Rattle.world_front.specs.declared.session.Session.{Session}
use Rattle.cluster.specs.declared.asking.NewRequest.{NewRequest}
use Rattle.cluster.specs.declared.asking.Submitted.{Submitted}
use Rattle.cluster.specs.declared.fault.ClusterFault.{ClusterFault}
use Rattle.cluster.specs.declared.fault.ClusterFault.TheVariants as faults
use Rattle.cluster.specs.declared.cluster.Cluster.{Cluster}
use Rattle.cluster.specs.declared.pass.OwnSession.{OwnSession}
use Rattle.cluster.specs.declared.pass.Pass.{Pass}
use Rattle.cluster_locks.specs.Groups.{submission_entry, SubmissionTells}
use Rattle.cluster.specs.Passes.{GroupTurn, firsts_of}
use Rattle.cluster.specs.Sessions.{own_session, own_session_at}
use Rattle.cluster.specs.Deliveries.{fault_of_group, TurnsOn}
use Rattle.cluster.specs.Pools.{KnowsTheSame, HasRead, view_by}

-- ---- what is asked

-- the question, as a world has it: with the epoch of the pool's view
abbrev pub ask_by : NewRequest → PoolView → Ask
ask_by a view = record { session = a.session; epoch = view.epoch; tick = a.tick; pool = a.pool; namespace = a.namespace }

-- the session that asks: W1 where the pass has none of this number, W9 for a tick before its last
abbrev pub session_by : List OwnSession → NewRequest → Result Session Fault
session_by own a = need (own_session own a.session) NoSession >>= λ s. refuse_if (nat_lt a.tick s.tick) StaleTick >>= λ _. Ok s

-- who asks, and the pool by the map that was read
abbrev pub asker_by : (start map : History) → List OwnSession → NewRequest → Result Asker Fault
asker_by start map own a =
    session_by own a >>= λ s.
    need (view_by start map a.pool) NoPool >>= λ view.
    Ok (record { session = s; view = view })

abbrev pub vector_by : NewRequest → Asker → List ℕ → List Op → Result Sealed Fault
vector_by a asker object ops =
    refuse_if (not (is_object_name object && is_namespace a.namespace)) BadObjectName >>= λ _.
    lower OfNeeds (needs_fault ops) >>= λ _.
    Ok (vector_of (ask_by a asker.view) asker object ops)

-- the request of a vector, or why it is refused
abbrev pub request_by : (start map : History) → List OwnSession → NewRequest → List ℕ → List Op → Result Sealed Fault
request_by start map own a object ops = asker_by start map own a >>= λ asker. vector_by a asker object ops

-- the pool that a list names, or why the list is refused
abbrev pub pool_by : (start map : History) → List OwnSession → NewRequest → Result PoolView Fault
pool_by start map own a =
    asker_by start map own a >>= λ asker.
    refuse_if (not (is_namespace a.namespace)) BadObjectName >>= λ _.
    Ok asker.view

-- the piece of a list for one group, under the next number of the session
abbrev pub piece_of : Ask → Asker → ℕ → Sealed
piece_of ask asker group = sealed_of ask asker Listing group 0

-- ---- where a session stands

abbrev pub own_place : List OwnSession → ℕ → Option ℕ
own_place own n = position (λ (o : OwnSession). o.number == n) own

-- ---- one request

-- a request was submitted by one turn on its group, and its session has asked for one more; the reader stays
pub record HasSubmitted (c : Cluster) (ask : Ask) (request : Sealed) (asked : Submitted) (old new : Pass) : Type 0 where
  pub place : ℕ
  pub at : IsAt (firsts_of c) (group_for request) place
  pub turn : GroupTurn submission_entry SubmissionTells c old.seats new.seats place (record { 0 = Some request }) (Ok tt)
  pub reader : new.reader ≡ old.reader
  pub sessions : new.sessions.items ≡ own_session_at old.sessions.items ask.session (asks_more ask 1)
  pub told : asked ≡ record { id = request.id; group = group_for request }

-- its group refused it at its turn, and its session asked for none
pub record WasRefused (c : Cluster) (request : Sealed) (fault : ClusterFault) (old new : Pass) : Type 0 where
  pub place : ℕ
  pub at : IsAt (firsts_of c) (group_for request) place
  pub why : GroupFault
  pub turns : TurnsOn submission_entry SubmissionTells c place (record { 0 = Some request }) (Err why) old new
  pub is : fault ≡ fault_of_group why

-- a request was not submitted: out of memory before its turn, or its group refused it
abbrev pub IsNotSubmitted : Cluster → Sealed → ClusterFault → Pass → Pass → Type 0
IsNotSubmitted c request fault old new = ((fault ≡ faults.OutOfMemory) × (new ≡ old)) ⊎ WasRefused c request fault old new

-- ---- a vector

-- a map was read, the request is the one by that map, and it was submitted
pub record IsSubmitted (c : Cluster) (a : NewRequest) (object : List ℕ) (ops : List Op) (asked : Submitted) (old new : Pass) : Type 0 where
  pub map : History
  pub mid : Pass
  pub read : HasRead map old mid
  pub request : Sealed
  pub sealed : request_by c.start map old.sessions.items a object ops ≡ Ok request
  pub asks : HasSubmitted c (ask_by a request.view) request asked mid new

-- W1 and W9 need no reading
pub record HasNoSession (own : List OwnSession) (a : NewRequest) (fault : ClusterFault) (old new : Pass) : Type 0 where
  pub why : Fault
  pub refused : session_by own a ≡ Err why
  pub is : fault ≡ faults.World why
  pub unchanged : new ≡ old

-- the pass has the asking session, and the tick is not before that session's last one
abbrev pub HasSession : List OwnSession → NewRequest → Type 0
HasSession own a = (s : Session) × (session_by own a ≡ Ok s)

-- the map that was read gives no request, for this reason or out of memory; or it gives one, which was not submitted
abbrev pub IsRefusedBy : Cluster → Result Sealed Fault → ClusterFault → Pass → Pass → Type 0
IsRefusedBy c (Err why) fault old new = ((fault ≡ faults.World why) ⊎ (fault ≡ faults.OutOfMemory)) × (new ≡ old)
IsRefusedBy c (Ok request) fault old new = IsNotSubmitted c request fault old new

-- Nothing was submitted, and the sessions are as they were. The session is looked for first.
-- With one there was no reading, or a map was read
abbrev pub SubmitFails : Cluster → NewRequest → List ℕ → List Op → ClusterFault → Pass → Pass → Type 0
SubmitFails c a object ops fault old new =
    HasNoSession old.sessions.items a fault old new
    ⊎ (HasSession old.sessions.items a
    × (((fault ≡ faults.NoReader) × KnowsTheSame old new)
    ⊎ ((map : History) × (mid : Pass) × HasRead map old mid × IsRefusedBy c (request_by c.start map old.sessions.items a object ops) fault mid new)))

-- ---- a list

-- one piece was submitted, under the next number of its session
pub record IsPiece (c : Cluster) (ask : Ask) (view : PoolView) (group : ℕ) (asked : Submitted) (old new : Pass) : Type 0 where
  pub session : Session
  pub has : own_session old.sessions.items ask.session ≡ Some session
  pub asks : HasSubmitted c ask (piece_of ask (record { session = session; view = view }) group) asked old new

-- the pieces for the groups from one on, one after another
abbrev pub ArePieces : Cluster → Ask → PoolView → ℕ → List Submitted → Pass → Pass → Type 0
ArePieces c ask view group [] old new = new ≡ old
ArePieces c ask view group (x ∷ xs) old new = (next : Pass) × IsPiece c ask view group x old next × ArePieces c ask view (group + 1) xs next new

-- what a list answers: the first `count` groups of a pool, in order, under consecutive numbers of the session
abbrev pub numbered_from : (session first : ℕ) → List ℕ → ℕ → List Submitted
numbered_from session first pool count = each (λ n. record { id = id_of session (first + n); group = record { pool = pool; number = n } }) (range_with_len 0 count)

-- a map was read, and by it a piece was submitted for each group of the pool
pub record IsListed (c : Cluster) (a : NewRequest) (all : List Submitted) (old new : Pass) : Type 0 where
  pub map : History
  pub mid : Pass
  pub read : HasRead map old mid
  pub view : PoolView
  pub is : pool_by c.start map old.sessions.items a ≡ Ok view
  pub pieces : ArePieces c (ask_by a view) view 0 all mid new
  pub every : length all ≡ view.pg_num

-- one piece was not submitted
abbrev pub IsNoPiece : Cluster → Ask → PoolView → ℕ → ClusterFault → Pass → Pass → Type 0
IsNoPiece c ask view group fault old new =
    (session : Session) × (own_session old.sessions.items ask.session ≡ Some session) × IsNotSubmitted c (piece_of ask (record { session = session; view = view }) group) fault old new

-- the pieces before one were submitted, and that one was not
pub record IsCutShort (c : Cluster) (ask : Ask) (view : PoolView) (fault : ClusterFault) (old new : Pass) : Type 0 where
  pub before : List Submitted
  pub at : Pass
  pub pieces : ArePieces c ask view 0 before old at
  pub fewer : length before < view.pg_num
  pub fails : IsNoPiece c ask view (length before) fault at new

-- The map that was read gives no such pool, for this reason or out of memory. Or it gives one, and memory ran out for
-- its view, or a piece was not submitted.
abbrev pub IsUnlistedBy : Cluster → NewRequest → Result PoolView Fault → ClusterFault → Pass → Pass → Type 0
IsUnlistedBy c a (Err why) fault old new = ((fault ≡ faults.World why) ⊎ (fault ≡ faults.OutOfMemory)) × (new ≡ old)
IsUnlistedBy c a (Ok view) fault old new = ((fault ≡ faults.OutOfMemory) × (new ≡ old)) ⊎ IsCutShort c (ask_by a view) view fault old new

abbrev pub ListFails : Cluster → NewRequest → ClusterFault → Pass → Pass → Type 0
ListFails c a fault old new =
    HasNoSession old.sessions.items a fault old new
    ⊎ (HasSession old.sessions.items a
    × (((fault ≡ faults.NoReader) × KnowsTheSame old new)
    ⊎ ((map : History) × (mid : Pass) × HasRead map old mid × IsUnlistedBy c a (pool_by c.start map old.sessions.items a) fault mid new)))
