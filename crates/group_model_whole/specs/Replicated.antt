-- Refinement: only contracts inside the crate use it.
-- What every group keeps, whatever happens.
use Rattle.std.specs.Prelude.{ℕ, ◌≡◌, ◌≤◌, true, List, Option, Some, slice_get}
use Rattle.entry_core.specs.Log.{is_in}
use Rattle.group_model_whole.specs.ActingSets.{set_of}
use Rattle.group_model_whole.specs.Group.{Group}
use Rattle.group_model_whole.specs.Types.{Active, Daemon}
use Rattle.group_model_whole.specs.History.{Begins}

-- no member of the interval that the copy promised has a greater promise
abbrev pub IsLatest : Group → Daemon → Type 0
IsLatest g c = (m : ℕ) (other : Daemon) → is_in (set_of g.sets c.promise) m ≡ true → slice_get g.copies m ≡ Some other → other.promise ≤ c.promise

-- where an active copy is the latest, what was decided begins the log of each member of its interval
abbrev pub IsReplicated : Group → Type 0
IsReplicated g = (d : ℕ) (c : Daemon) (flight : Option (List ℕ)) → slice_get g.copies d ≡ Some c → c.role ≡ Active flight → IsLatest g c →
    (m : ℕ) (other : Daemon) → is_in (set_of g.sets c.promise) m ≡ true → slice_get g.copies m ≡ Some other → Begins g.audit other.log
