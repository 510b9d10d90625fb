-- Statement: contracts of public calls use it.
-- What an event of a world does to the messages of one of its groups: it takes one, or none, and sends others behind those that stay.
use Rattle.std.specs.Prelude.{ℕ, ◌≡◌, List, [], ◌++◌, Option, Some, None, if◌then◌else◌}
use Rattle.store_core.specs.declared.sealed.GroupId.{GroupId}
use Rattle.group_model.specs.Types.{Sent}
use Rattle.group_model.specs.Group.{Group}
use Rattle.world_events.specs.declared.event.Event.{Event}
use Rattle.world_events.specs.declared.event.Event.TheVariants.{Auth, Map, Open, Renew, Close, Submit, List as ListNames, Deliver, Lose, Repeat, Kick}
use Rattle.world_events.specs.declared.fault.WorldFault.{WorldFault as Fault}
use Rattle.world_front.specs.Groups.{is_same_group}
use Rattle.world_front.specs.ControlPlane.{group_refusal}
use Rattle.world_core.specs.World.{World, group_at}
use Rattle.group_story.specs.Wire.{kept, TellsStep}

-- the messages of a group on their way; none where the map has no such group
abbrev pub wire_where : Option Fault → Option Group → List Sent
wire_where None (Some g) = g.wire
wire_where None None = []
wire_where (Some fault) found = []

abbrev pub wire_in : World → GroupId → List Sent
wire_in w id = wire_where (group_refusal w.front id) (group_at id w.groups)

-- the place of the message that an event takes from a group
abbrev pub place_in : GroupId → Event → Option ℕ
place_in id (Deliver group place) = if is_same_group id group then Some place else None
place_in id (Lose group place) = if is_same_group id group then Some place else None
place_in id (Auth command) = None
place_in id (Map command) = None
place_in id (Open entity until) = None
place_in id (Renew session until) = None
place_in id (Close session) = None
place_in id (Submit ask object ops) = None
place_in id (ListNames ask) = None
place_in id (Repeat group place) = None
place_in id (Kick group) = None

-- The report of an event has exactly the message that it took from a group and those that it sent, each once and in
-- order. The group's messages after the event are those before without what was taken, and then what was sent.
pub record TellsEvent (id : GroupId) (old : World) (e : Event) (new : World) (told_taken : Option Sent) (told_sent : List Sent) : Type 0 where
  pub sent : List Sent
  pub after : wire_in new id ≡ kept (wire_in old id) (place_in id e) ++ sent
  pub told : TellsStep (wire_in old id) (place_in id e) sent told_taken told_sent
