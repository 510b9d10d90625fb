-- Refinement: only contracts inside the crate use it.
-- A turn that only looks.
use Rattle.group_model.specs.Group.{Group}
use Rattle.cluster_locks.specs.declared.groups.GroupEntry.{GroupEntry}
use Rattle.cluster_locks.specs.declared.groups.GroupEntry.TheVariants.{Looked}

abbrev pub look_entry : {Step A : Type 0} → Step → Group → A → GroupEntry
look_entry s g answer = Looked

abbrev pub LookTells : {Step A : Type 0} → Step → Group → A → Type 0
LookTells s g answer = Unit {0}
