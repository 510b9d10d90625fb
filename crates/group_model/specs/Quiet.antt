-- Statement: contracts of public calls use it.
-- What events cost in deliveries, and what is left once a group settled.
use Rattle.std.specs.Prelude.{ℕ, ◌≡◌, ◌+◌, not, List, [], ◌∷◌, filter, Option, Some, None, slice_get}
use Rattle.store_core.specs.Request.{Sealed}
use Rattle.group_model.specs.Types.{Sent}
use Rattle.group_model.specs.Group.{Group, Event, Submit, Deliver, Lose, Repeat, NewInterval, Restart, Kick, group_step, is_answered}
use Rattle.group_model.specs.Budget.{settled_group}

-- how many messages these events delivered

abbrev pub found_one : Option Sent → ℕ
found_one None = 0
found_one (Some m) = 1

abbrev pub made_by : Group → Event → ℕ
made_by g (Deliver k) = found_one (slice_get g.wire k)
made_by g (Submit s) = 0
made_by g (Lose k) = 0
made_by g (Repeat k) = 0
made_by g (NewInterval acting up) = 0
made_by g (Restart d) = 0
made_by g Kick = 0

abbrev pub deliveries_made : List Event → Group → ℕ
deliveries_made [] g = 0
deliveries_made (e ∷ es) g = made_by g e + deliveries_made es (group_step g e)

-- the requests that have no answer
abbrev pub open_requests : Group → List Sealed
open_requests g = filter (λ s. not (is_answered g.answers s.id)) g.requests

-- what is left once it settled

pub record IsServed (g : Group) : Type 0 where
  pub answered : open_requests (settled_group g) ≡ []
  pub empty : (settled_group g).wire ≡ []
