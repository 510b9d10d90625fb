-- Statement: contracts of public calls use it.
-- Of any log all but the last entry is decided.
use Rattle.std.specs.Prelude.{ℕ, ◌≡◌, length, Some, slice_get}
use Rattle.group_model_whole.specs.History.{Begins, History, IsSound, but_last, IsSettled}
use Rattle.group_model.specs.Types.{Copy}
use Rattle.group_model.specs.Group.{Group}

-- the copy is where the history says that it is, and all of its log but the last entry was held by each member of an interval
pub record Fits (g : Group) (promise : ℕ → ℕ) (h : History) (d : ℕ) (c : Copy) : Type 0 where
  pub promised : promise d ≡ c.promise
  pub held : h.held d c.base ≡ Some (length c.log)
  pub within : Begins c.log (h.grown c.base)
  pub but_one : IsSettled g.sets h c.base (but_last c.log)

pub record HasHistory (g : Group) : Type 0 where
  pub promise : ℕ → ℕ
  pub history : History
  pub sound : IsSound promise g.min_size g.sets history
  pub fits : (d : ℕ) (c : Copy) → slice_get g.copies d ≡ Some c → Fits g promise history d c
