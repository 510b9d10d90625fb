-- Statement: contracts of public calls use it.
-- What every front keeps: each request was sealed well, under a number of a session that was given once.
use Rattle.std.specs.Prelude.{◌≡◌, ℕ, ◌+◌, ◌-◌, ◌<◌, ◌≤◌, List, Option, Some, None, true, length, slice_get, is_some}
use Rattle.map_core.specs.State.{History}
use Rattle.map_core.specs.Laws.{HasPool}
use Rattle.store_core.specs.Request.{Sealed}
use Rattle.entry_core.specs.Locality.{Hashes}
use Rattle.group_model_whole.specs.Each.{Each}
use Rattle.group_model_whole.specs.Group.{submitted}
use Rattle.group_model_whole.specs.Asked.{IsAsked}
use Rattle.world_front.specs.ControlPlane.{Session, ControlPlane, id_of}

-- ---- numbers

-- the next number of a session, open or closed
abbrev pub next_in : Option Session → ℕ
next_in None = 0
next_in (Some s) = s.next

abbrev pub next_at : List Session → ℕ → ℕ
next_at sessions n = next_in (slice_get sessions (n - 1))

-- the number was given to a request of a session
pub record IsGiven (sessions : List Session) (id : ℕ) : Type 0 where
  pub session : ℕ
  pub number : ℕ
  pub is : id ≡ id_of session number
  pub past : number < next_at sessions session

-- ---- pools

-- the map of a history has the pool, with this number of groups
pub record InMap (history : History) (name : List ℕ) (groups : ℕ) : Type 0 where
  pub size : ℕ
  pub min_size : ℕ
  pub is : HasPool history name groups size min_size

-- sealed by a pool that the map has, and for the group of its object
pub record IsSealedWell (history : History) (s : Sealed) : Type 0 where
  pub pool : InMap history s.view.pool s.view.pg_num
  pub hashes : Hashes s.view.pg_num s.namespace s.group s.work

-- ---- fronts

pub record FrontStands (f : ControlPlane) : Type 0 where
  pub given : Each (λ r. IsGiven f.sessions r.id) f.submissions
  pub most : (n : ℕ) → next_at f.sessions n ≤ length f.submissions + 1
  pub asked : Each (IsAsked f.submissions) f.submissions
  pub sealed : Each (IsSealedWell f.history) f.submissions

-- what a front in code keeps besides: at most 2 ^ 26 requests and the 64 of one list more, so that each number fits, and each list begins with a request
pub record IsKept (f : ControlPlane) : Type 0 where
  pub stands : FrontStands f
  pub few : length f.submissions ≤ 67108928
  pub begun : Each (λ p. is_some (submitted f.submissions p.first) ≡ true) f.lists
