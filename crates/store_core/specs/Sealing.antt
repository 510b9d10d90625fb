-- Statement: contracts of public calls use it.
-- What the parts of a sealed request stand for.
use Rattle.std.specs.Prelude.{◌≡◌, ℕ, ◌≤◌, List, [], Option, Some, None}
use Rattle.request_types.specs.Target.{Target}
use Rattle.object_core.specs.declared.op.Op.{Op}
use Rattle.store_core.specs.Request.{Sealed, Work, Vector, Listing, needs_for, IsSound}
use Rattle.store_core.specs.declared.sealed_parts.Parts.{Parts}
use Rattle.store_core.specs.declared.sealed_parts.Task.{Task}
use Rattle.store_core.specs.declared.sealed_parts.Task.TheVariants as task

abbrev pub work_in : List ℕ → Task → Work
work_in name (task.Vector ops) = Vector name ops.items
work_in name task.Listing = Listing

abbrev pub sealed_of : Parts → Sealed
sealed_of p = record { id = p.id; ticket = p.ticket; tick = p.tick; view = p.view; group = p.group; namespace = p.name.namespace; work = work_in p.name.name p.task }

-- a listing has no name
abbrev pub IsNamed : List ℕ → Task → Type 0
IsNamed name (task.Vector ops) = Unit {0}
IsNamed name task.Listing = name ≡ []

-- the parts agree: the name is of the view's pool, and the needs are those of the work, which has no fault
pub record IsSealed (p : Parts) : Type 0 where
  pub groups : 1 ≤ p.view.pg_num
  pub pool : p.name.pool ≡ p.view.pool
  pub named : IsNamed p.name.name p.task
  pub needs : p.needs ≡ needs_for (work_in p.name.name p.task)
  pub sound : IsSound (work_in p.name.name p.task)

abbrev pub target_in : Parts → Target
target_in p = record { pool = p.view.pool; tags = p.view.tags; namespace = p.name.namespace; object = p.name.name }

abbrev pub ops_in : Task → Option (List Op)
ops_in (task.Vector ops) = Some ops.items
ops_in task.Listing = None

abbrev pub ops_of : Work → Option (List Op)
ops_of (Vector object ops) = Some ops
ops_of Listing = None
