-- Statement: contracts of public calls use it.
-- Of any log all but the last entry is decided.
use Rattle.std.specs.Prelude.{ℕ, ◌≡◌, ◌⊎◌, List, length, Some, slice_get}
use Rattle.store_core.specs.declared.entry.Entry.{Entry}
use Rattle.group_model_whole.specs.Types.{Daemon}
use Rattle.group_model_whole.specs.Group.{Group}
use Rattle.group_model_whole.specs.History.{Begins, History, IsSound, but_last, IsSettled}

-- the copy is where the history says that it is, and all of its log but the last entry was held by each member of an interval
pub record Fits (g : Group) (promise : ℕ → ℕ) (h : History) (d : ℕ) (c : Daemon) : Type 0 where
  pub promised : promise d ≡ c.promise
  pub held : h.held d c.base ≡ Some (length c.log)
  pub within : Begins c.log (h.grown c.base)
  pub but_one : IsSettled g.sets h c.base (but_last c.log)

pub record HasHistory (g : Group) : Type 0 where
  pub promise : ℕ → ℕ
  pub history : History
  pub sound : IsSound promise g.min_size g.sets history
  pub fits : (d : ℕ) (c : Daemon) → slice_get g.copies d ≡ Some c → Fits g promise history d c

-- one of them is the beginning of the other
abbrev pub IsOneList : List Entry → List Entry → Type 0
IsOneList xs ys = Begins xs ys ⊎ Begins ys xs
