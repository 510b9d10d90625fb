-- Statement: contracts of other crates use it.
-- A group whose acting sets each lay within the daemons that were up, as the map gives them.
use Rattle.std.specs.Prelude.{ℕ, ◌≡◌, ◌<◌, true, List, length, take}
use Rattle.entry_core.specs.Log.{is_in}
use Rattle.group_model_whole.specs.ActingSets.{daemons}
use Rattle.group_model_whole.specs.Each.{Each}
use Rattle.group_model_whole.specs.Group.{Group, Event, Submit, Deliver, Lose, Repeat, NewInterval, Restart, Kick}
use Rattle.group_model_whole.specs.Reached.{IsReached}

-- the members of the acting set are up, and among the first count daemons
abbrev pub LiesWithin : ℕ → List ℕ → List ℕ → Type 0
LiesWithin count acting up = (d : ℕ) → is_in acting d ≡ true → (is_in up d ≡ true) × (d < length (take count daemons))

-- an acting set is passed in with its members up, and among the first count daemons
abbrev pub ActsWithin : ℕ → Event → Type 0
ActsWithin count (NewInterval acting up) = LiesWithin count acting up
ActsWithin count (Submit s) = Unit {0}
ActsWithin count (Deliver k) = Unit {0}
ActsWithin count (Lose k) = Unit {0}
ActsWithin count (Repeat k) = Unit {0}
ActsWithin count (Restart d) = Unit {0}
ActsWithin count Kick = Unit {0}

-- the members of each acting set passed in are among the daemons passed in as up, and among the existing daemons
pub record IsReachedWithin (g : Group) : Type 0 where
  pub reached : IsReached g
  pub first : LiesWithin reached.daemons reached.acting reached.up
  pub later : Each (ActsWithin reached.daemons) reached.events
