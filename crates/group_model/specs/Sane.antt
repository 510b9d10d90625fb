-- Statement: contracts of public calls use it.
-- What holds of each copy by itself, whatever was delivered.
use Rattle.std.specs.Prelude.{ℕ, ◌≡◌, ◌≤◌, length}
use Rattle.entry_core.specs.Log.{Legal}
use Rattle.group_model_whole.specs.Each.{Each}
use Rattle.group_model.specs.Types.{Role, Idle, Peering, Installing, Active, Copy}
use Rattle.group_model.specs.Group.{Group}

-- a role is that of the interval that was promised, which is the last one known
abbrev pub RoleIsSane : Role → ℕ → ℕ → Type 0
RoleIsSane Idle promise known = Unit {0}
RoleIsSane (Peering informed) promise known = promise ≡ known
RoleIsSane (Installing done common) promise known = promise ≡ known
RoleIsSane (Active flight) promise known = promise ≡ known

pub record IsSane (c : Copy) : Type 0 where
  pub base : c.base ≤ c.promise
  pub role : RoleIsSane c.role c.promise (length c.known)
  pub legal : Legal c.log

abbrev pub AllSane : Group → Type 0
AllSane g = Each IsSane g.copies
