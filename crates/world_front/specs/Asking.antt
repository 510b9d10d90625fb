-- Statement: contracts of public calls use it.
-- Requests that an event asks for.
use Rattle.std.specs.Prelude.{◌≡◌, ℕ, ◌≤◌, List, [], ◌∷◌, Ok, length}
use Rattle.object_core.specs.declared.op.Op.{Op}
use Rattle.store_core.specs.Request.{Sealed}
use Rattle.world_front.specs.Event.{Ask, Submit, ListNames}
use Rattle.world_front.specs.ControlPlane.{ControlPlane, requests_of}

-- the request of some vector that is asked for
pub record IsOfVector (front : ControlPlane) (ask : Ask) (request : Sealed) : Type 0 where
  pub object : List ℕ
  pub ops : List Op
  pub is : requests_of front (Submit ask object ops) ≡ Ok (request ∷ [])

-- the pieces of a list that is asked for: one for each group, 1 to 64
pub record IsOfList (front : ControlPlane) (ask : Ask) (requests : List Sealed) : Type 0 where
  pub is : requests_of front (ListNames ask) ≡ Ok requests
  pub some : 1 ≤ length requests
  pub few : length requests ≤ 64
