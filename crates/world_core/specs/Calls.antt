-- Statement: contracts of public calls use it.
-- What calls on a world answer.
use Rattle.std.specs.Prelude.{◌≡◌, ◌⊎◌, ℕ, List, [], ◌∷◌, Option, None, Some, if◌then◌else◌, slice_get, take}
use Rattle.grant_core.specs.Flat.{Table}
use Rattle.store_core.specs.Request.{Sealed}
use Rattle.store_core.specs.declared.sealed.GroupId.{GroupId}
use Rattle.group_model.specs.Group.{Group, is_submitted}
use Rattle.group_model.specs.Replicated.{IsReplicated}
use Rattle.group_model.specs.Types.{EntryReply}
use Rattle.world_events.specs.declared.event.Event.{Event}
use Rattle.world_events.specs.declared.fault.WorldFault.{WorldFault as Fault}
use Rattle.world_events.specs.declared.fault.WorldFault.TheVariants.{NoRequest, OutOfMemory}
use Rattle.world_core.specs.World.{World, first_world, group_at, refusal_of, world_after, world_step}
use Rattle.world_core.specs.Holds.{AreAccepted, HasIntervals}
use Rattle.world_core.specs.Standing.{HasNumbers}
use Rattle.world_core.specs.Answers.{IsOneList, IsAnswered, answer_at}
use Rattle.world_core.specs.Accepted.{HasRequests, FrontTells, IsServed}
use Rattle.world_core.specs.Service.{Reaches, begun}
use Rattle.world_core.specs.Serving.{service_of}

-- why there is no answer: no such request was submitted
abbrev pub answer_refusal : World → ℕ → Option Fault
answer_refusal w id = if is_submitted w.front.submissions id then None else Some NoRequest

-- what holds of every group of a world
pub record KeepsGroup (w : World) (id : GroupId) (g : Group) : Type 0 where
  pub served : IsServed w id g
  pub replicated : IsReplicated g

-- what holds of every world of the program
pub record KeepsPromises (w : World) : Type 0 where
  pub reached : (requests : List (List Sealed)) × Reaches requests begun (service_of w)
  pub one_list : IsOneList w
  pub numbers : HasNumbers w
  pub requests : HasRequests w
  pub front : FrontTells w
  pub intervals : HasIntervals w
  pub groups : (id : GroupId) (g : Group) → group_at id w.groups ≡ Some g → KeepsGroup w id g
  pub answers : (id : ℕ) (reply : EntryReply) → answer_at w id ≡ Some reply → IsAnswered w id reply

-- nothing refuses these events, one after another: not even a delivery is to a daemon that is down
abbrev pub UnrefusedFrom : World → List Event → Type 0
UnrefusedFrom w [] = Unit {0}
UnrefusedFrom w (e ∷ es) = (refusal_of w e ≡ None) × UnrefusedFrom (world_step w e) es

abbrev pub AreUnrefused : Table → ℕ → List Event → Type 0
AreUnrefused table daemons events = UnrefusedFrom (first_world table daemons) events

-- the first event that was refused, counted from 0: nothing refused those before it
pub record IsFirstRefused (table : Table) (daemons : ℕ) (events : List Event) (place : ℕ) (fault : Fault) : Type 0 where
  pub event : Event
  pub there : slice_get events place ≡ Some event
  pub before : AreAccepted table daemons (take place events)
  pub unrefused : AreUnrefused table daemons (take place events)
  pub refused : (fault ≡ OutOfMemory) ⊎ (refusal_of (world_after table daemons (take place events)) event ≡ Some fault)
