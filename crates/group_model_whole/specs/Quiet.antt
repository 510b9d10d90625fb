-- Statement: contracts of public calls use it.
-- A set that can serve, what its interval costs in deliveries, and what is left once it settled.
use Rattle.std.specs.Prelude.{ℕ, ◌≡◌, ◌≤◌, ◌<◌, ◌+◌, ◌*◌, ◌-◌, true, List, [], ◌∷◌, length, take, Option, Some, None, slice_get}
use Rattle.entry_core.specs.Log.{is_in}
use Rattle.group_model_whole.specs.ActingSets.{daemons}
use Rattle.group_model_whole.specs.Types.{Sent}
use Rattle.group_model_whole.specs.Group.{Group, Event, Submit, Deliver, Lose, Repeat, NewInterval, Restart, Kick, IsSet, group_step, open_requests}
use Rattle.group_model_whole.specs.Budget.{settled_group}

-- the one acting set has a member and is large enough, and its members are among the first count daemons and are up
pub record IsQuiet (min_size count : ℕ) (acting up : List ℕ) : Type 0 where
  pub some : 1 ≤ length acting
  pub enough : min_size ≤ length acting
  pub set : IsSet acting
  pub exist : (d : ℕ) → is_in acting d ≡ true → d < length (take count daemons)
  pub live : (d : ℕ) → is_in acting d ≡ true → is_in up d ≡ true

-- how many messages these events delivered

abbrev pub found_one : Option Sent → ℕ
found_one None = 0
found_one (Some m) = 1

abbrev pub made_by : Group → Event → ℕ
made_by g (Deliver k) = found_one (slice_get g.wire k)
made_by g (Submit s) = 0
made_by g (Lose k) = 0
made_by g (Repeat k) = 0
made_by g (NewInterval acting up) = 0
made_by g (Restart d) = 0
made_by g Kick = 0

abbrev pub deliveries_made : List Event → Group → ℕ
deliveries_made [] g = 0
deliveries_made (e ∷ es) g = made_by g e + deliveries_made es (group_step g e)

-- deliveries that open an interval of m members, and those that m members take for one request
abbrev pub opening_cost : ℕ → ℕ
opening_cost m = 5 * m - 4

abbrev pub request_cost : ℕ → ℕ
request_cost m = 2 * m

-- what is left once it settled

pub record IsServed (g : Group) : Type 0 where
  pub answered : open_requests (settled_group g) ≡ []
  pub empty : (settled_group g).wire ≡ []
