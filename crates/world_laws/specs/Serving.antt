-- Statement: contracts of public calls use it.
-- A world is the service: it begins so, and so do its events go on.
use Rattle.grant_core.specs.Flat.{Table}
use Rattle.std.specs.Prelude.{◌≡◌, ℕ, List}
use Rattle.world_events.specs.declared.event.Event.{Event}
use Rattle.world_front.specs.ControlPlane.{first_front}
use Rattle.world_core.specs.Holds.{AreAccepted}
use Rattle.world_core.specs.Service.{Reaches, begun, Step}
use Rattle.world_core.specs.Serving.{service_of, submitted_through}
use Rattle.world_core.specs.World.{first_world, world_after}
use Rattle.world_core.specs.declared.world.parts.WorldParts.{WorldParts}
use Rattle.world_core.specs.Parts.{FitTogether, put_together, requests_of}

-- a new world is the beginning
abbrev pub WorldsBegin : Type 0
WorldsBegin = (table : Table) (daemons : ℕ) → service_of (first_world table daemons) ≡ begun

-- accepted events, whatever they are, are as many steps
abbrev pub WorldsServe : Type 0
WorldsServe = (table : Table) (daemons : ℕ) (events : List Event) → AreAccepted table daemons events → Reaches (submitted_through (first_front table daemons) events) begun (service_of (world_after table daemons events))

-- parts that fit together are one step from the beginning, which submits the groups' requests
abbrev pub PartsServe : Type 0
PartsServe = (p : WorldParts) → FitTogether p → Step (requests_of p.groups.items) begun (service_of (put_together p))
