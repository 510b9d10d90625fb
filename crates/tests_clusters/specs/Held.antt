-- Refinement: only contracts inside the crate use it.
-- A turn that only holds the lock.
use Rattle.group_model.specs.Group.{Group}
use Rattle.cluster_locks.specs.declared.groups.GroupEntry.{GroupEntry}
use Rattle.cluster_locks.specs.declared.groups.GroupEntry.TheVariants.{Looked}

abbrev pub hold_entry : {Step A : Type 0} → Step → Group → A → GroupEntry
hold_entry s g answer = Looked

abbrev pub HoldTells : {Step A : Type 0} → Step → Group → A → Type 0
HoldTells s g answer = Unit {0}
