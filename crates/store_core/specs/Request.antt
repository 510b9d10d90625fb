-- Statement: contracts of public calls use it.
-- Requests, with all that they are decided by. Source: this project's profile, after the object operations of RADOS.
use Rattle.std.specs.Prelude.{◌≡◌, ℕ, List, [], true, false, None}
use Rattle.request_types.specs.Target.{Target}
use Rattle.verdict_core.specs.Ticket.{Ticket}
use Rattle.request_types.specs.declared.request.Needs.{Needs}
use Rattle.map_core.specs.declared.pool.PoolView.{PoolView}
use Rattle.object_core.specs.declared.op.Op.{Op}
use Rattle.object_core.specs.Needs.{needs_of, needs_fault}

-- what is asked: operations on the object of a name, or the names of the objects that a group holds
pub data Work : Type 0 where
  Vector : List ℕ → List Op → Work
  Listing : Work

-- The numbers of a session's requests are below this: 2 ^ 32. An id is the session times this, and the number in it.
abbrev pub numbers : ℕ
numbers = 4294967296

pub record Sealed : Type 0 where
  pub id : ℕ  -- the session times 2 ^ 32, and the number in it
  pub ticket : Ticket  -- what who asks may do, and until when
  pub tick : ℕ  -- when it was submitted, which a resend keeps
  pub view : PoolView  -- the pool as the asker saw it
  pub group : ℕ  -- the number of the placement group in the pool
  pub namespace : List ℕ
  pub work : Work

-- the name of the object, which a listing leaves empty
abbrev pub object_of : Work → List ℕ
object_of (Vector object ops) = object
object_of Listing = []

-- what the verdict looks at: where it goes, and what it needs. A listing reads
abbrev pub target_of : Sealed → Target
target_of s = record { pool = s.view.pool; tags = s.view.tags; namespace = s.namespace; object = object_of s.work }

abbrev pub needs_for : Work → Needs
needs_for (Vector object ops) = needs_of ops
needs_for Listing = record { reads = true; writes = false; calls = [] }

-- a vector that is sealed has no fault of needs
abbrev pub IsSound : Work → Type 0
IsSound (Vector object ops) = needs_fault ops ≡ None
IsSound Listing = Unit {0}
