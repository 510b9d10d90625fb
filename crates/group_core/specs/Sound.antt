-- Statement: contracts of public calls use it.
-- What holds of every group of the program.
use Rattle.std.specs.Prelude.{ℕ, ◌≡◌, length}
use Rattle.group_model.specs.Group.{Group}
use Rattle.group_model.specs.Reached.{IsReached}

-- it is one that there can be, and that many entries were decided
pub record IsSound (g : Group) (decided : ℕ) : Type 0 where
  pub reached : IsReached g
  pub count : length g.audit ≡ decided
