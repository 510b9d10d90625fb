-- Statement: contracts of public calls use it.
-- Moves of a group, and what is made before one.
use Rattle.std.specs.Prelude.{ℕ, ◌≡◌, ◌≤◌, ◌<◌, List, [], ◌∷◌, ◌++◌, length, Option, Some, None, if◌then◌else◌, vec_len}
use Rattle.entry_core.specs.Log.{is_in}
use Rattle.place_core.specs.Placement.{numbers_of}
use Rattle.group_wire.specs.declared.opening.Opening.{Opening}
use Rattle.group_messages.specs.declared.group_move.GroupMove.{GroupMove}
use Rattle.group_messages.specs.declared.group_move.GroupMove.TheVariants.{NewInterval as Moves, Restart as Restarts}
use Rattle.group_model.specs.Types.{Sent}
use Rattle.group_model.specs.Group.{Group, Event, NewInterval, Restart, last_set, same_set, announced, resent, EventFits}
use Rattle.group_core.specs.Sound.{IsSound}

abbrev pub event_of : GroupMove → Event
event_of (Moves acting up) = NewInterval acting (numbers_of up)
event_of (Restarts daemon) = Restart daemon

-- the set of the interval that a move begins, where it begins one
abbrev pub next_set : List (List ℕ) → GroupMove → Option (List ℕ)
next_set sets (Moves acting up) = if same_set acting (last_set sets) then None else Some acting
next_set sets (Restarts daemon) = if is_in (last_set sets) daemon then Some (last_set sets) else None

-- a group, and the event that it is ready for
pub record Prepared : Type 0 where
  pub group : Group
  pub event : Event

-- what an interval begins with
pub record IsOpening (g : Group) (change : GroupMove) (sets : List (List ℕ)) (sent : List Sent) : Type 0 where
  pub acting : List ℕ
  pub begins : next_set g.sets change ≡ Some acting
  pub room : length g.sets < 1024
  pub sets_are : sets ≡ g.sets ++ acting ∷ []
  pub sent_are : sent ≡ announced (g.sets ++ acting ∷ []) ++ resent (g.sets ++ acting ∷ []) g.requests g.answers

-- what was made for a move
abbrev pub IsMadeFor : Group → GroupMove → Option Opening → Type 0
IsMadeFor g change None = next_set g.sets change ≡ None
IsMadeFor g change (Some o) = IsOpening g change o.sets o.sent.items

abbrev pub HasRoom : ℕ → Option Opening → Type 0
HasRoom room None = Unit {0}
HasRoom room (Some o) = vec_len o.sent ≤ room

-- the group is ready for the move
pub record IsReady (g : Group) (decided room : ℕ) (change : GroupMove) (opening : Option Opening) : Type 0 where
  pub whole : IsSound g decided
  pub fits : EventFits (event_of change)
  pub made : IsMadeFor g change opening
  pub has_room : HasRoom room opening

-- an interval begins where one was made
abbrev pub HasOpened : List (List ℕ) → List Sent → Option Opening → List (List ℕ) → List Sent → Type 0
HasOpened sets wire None sets' wire' = (sets' ≡ sets) × (wire' ≡ wire)
HasOpened sets wire (Some o) sets' wire' = (sets' ≡ o.sets) × (wire' ≡ wire ++ o.sent.items)
