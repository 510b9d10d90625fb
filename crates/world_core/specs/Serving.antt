-- Statement: contracts of public calls use it.
-- A world as the service: which of its parts are seen, and which requests an event submits.
use Rattle.std.specs.Prelude.{List, [], ◌∷◌, if◌then◌else◌, Result}
use Rattle.store_core.specs.Request.{Sealed}
use Rattle.world_events.specs.declared.event.Event.{Event}
use Rattle.world_events.specs.declared.event.Told.{Told}
use Rattle.world_events.specs.declared.fault.WorldFault.{WorldFault as Fault}
use Rattle.world_front.specs.ControlPlane.{ControlPlane, front_step, sealed_by}
use Rattle.world_core.specs.World.{World, counts}
use Rattle.world_core.specs.Answers.{answer_at}
use Rattle.world_core.specs.Service.{Service}

abbrev pub service_of : World → Service
service_of w = record { submitted = w.front.submissions; decided = w.audit; answers = answer_at w }

-- the requests that an event submits: those that the front seals for it, unless it was refused
abbrev pub submitted_by : ControlPlane → Event → Result Told Fault → List Sealed
submitted_by front e result = if counts e result then sealed_by front e else []

-- the same of accepted events, one after another
abbrev pub submitted_through : ControlPlane → List Event → List (List Sealed)
submitted_through front [] = []
submitted_through front (e ∷ es) = sealed_by front e ∷ submitted_through (front_step front e) es
