-- Statement: contracts of public calls use it.
-- Calls on a group, as its events.
use Rattle.group_model.specs.Group.{Event}
use Rattle.group_model.specs.Group as group
use Rattle.group_core.specs.declared.call.GroupCall.{GroupCall}
use Rattle.group_core.specs.declared.call.GroupCall.TheVariants as calls

-- a call, as the group sees it
abbrev pub event_of : GroupCall → Event
event_of (calls.Deliver place) = group.Deliver place
event_of (calls.Lose place) = group.Lose place
event_of (calls.Repeat place) = group.Repeat place
event_of calls.Kick = group.Kick
