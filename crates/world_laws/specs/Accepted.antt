-- Statement: contracts of public calls use it.
-- What worlds keep whose events were all accepted.
use Rattle.std.specs.Prelude.{◌≡◌, ℕ, List, Some}
use Rattle.grant_core.specs.Flat.{Table}
use Rattle.store_core.specs.declared.sealed.GroupId.{GroupId}
use Rattle.group_model.specs.Types.{EntryReply}
use Rattle.group_model.specs.Group.{Group}
use Rattle.world_events.specs.declared.event.Event.{Event}
use Rattle.world_core.specs.World.{group_at, world_after}
use Rattle.world_core.specs.Standing.{HasNumbers}
use Rattle.world_core.specs.Answers.{answer_at, IsAnswered}
use Rattle.world_core.specs.Holds.{AreAccepted, HasIntervals, Holds}
use Rattle.world_core.specs.Accepted.{HasRequests, FrontTells, IsServed}

abbrev pub RequestsAreSubmissions : Type 0
RequestsAreSubmissions = (table : Table) (daemons : ℕ) (events : List Event) → AreAccepted table daemons events → HasRequests (world_after table daemons events)

abbrev pub FrontTellsRequests : Type 0
FrontTellsRequests = (table : Table) (daemons : ℕ) (events : List Event) → AreAccepted table daemons events → FrontTells (world_after table daemons events)

abbrev pub AcceptedHasNumbers : Type 0
AcceptedHasNumbers = (table : Table) (daemons : ℕ) (events : List Event) → AreAccepted table daemons events → HasNumbers (world_after table daemons events)

abbrev pub AcceptedHolds : Type 0
AcceptedHolds = (table : Table) (daemons : ℕ) (events : List Event) → AreAccepted table daemons events → Holds table daemons events (world_after table daemons events)

abbrev pub AcceptedAnswers : Type 0
AcceptedAnswers = (table : Table) (daemons : ℕ) (events : List Event) (id : ℕ) (reply : EntryReply) → AreAccepted table daemons events
    → answer_at (world_after table daemons events) id ≡ Some reply → IsAnswered (world_after table daemons events) id reply

abbrev pub IntervalsAreTheMaps : Type 0
IntervalsAreTheMaps = (table : Table) (daemons : ℕ) (events : List Event) → AreAccepted table daemons events → HasIntervals (world_after table daemons events)

abbrev pub GroupsAreServed : Type 0
GroupsAreServed = (table : Table) (daemons : ℕ) (events : List Event) (id : GroupId) (g : Group) → AreAccepted table daemons events
    → group_at id (world_after table daemons events).groups ≡ Some g → IsServed (world_after table daemons events) id g
