-- Statement: contracts of public calls use it.
-- What happens to the messages of a group that are on their way: a step takes the message at a place, or none, and sends
-- others behind those that stay. Each is reported once, in order.
use Rattle.std.specs.Prelude.{ℕ, ◌≡◌, List, ◌++◌, Option, Some, None, remove, slice_get}
use Rattle.group_model.specs.Types.{Sent}
use Rattle.group_model.specs.Group.{Group, Event, Submit, Deliver, Lose, Repeat, NewInterval, Restart, Kick, group_step}

-- the message that a step takes at a place
abbrev pub taken_from : List Sent → Option ℕ → Option Sent
taken_from wire None = None
taken_from wire (Some place) = slice_get wire place

-- the messages that stay
abbrev pub kept : List Sent → Option ℕ → List Sent
kept wire None = wire
kept wire (Some place) = remove wire place

-- what is reported of a step that takes the message at this place and sends these: exactly that message and these, in
-- order
pub record TellsStep (before : List Sent) (place : Option ℕ) (sent : List Sent) (told_taken : Option Sent) (told_sent : List Sent) : Type 0 where
  pub taken : told_taken ≡ taken_from before place
  pub rest : told_sent ≡ sent

-- the place of the message that an event of a group takes
abbrev pub place_of : Event → Option ℕ
place_of (Deliver place) = Some place
place_of (Lose place) = Some place
place_of (Submit s) = None
place_of (Repeat place) = None
place_of (NewInterval acting up) = None
place_of (Restart daemon) = None
place_of Kick = None

-- a group's step takes the message at the event's place, if one is there, and sends these, behind those that stay
pub record TakesAndSends (g : Group) (e : Event) : Type 0 where
  pub sent : List Sent
  pub after : (group_step g e).wire ≡ kept g.wire (place_of e) ++ sent
