-- Statement: contracts of public calls use it.
-- Manual recovery in a world: a group's messages are lost, it is kicked, and message 0 is delivered until none is left.
use Prim.Native.Nat.{zero, suc}
use Rattle.std.specs.Prelude.{◌≡◌, ℕ, ◌≤◌, List, [], ◌∷◌, ◌++◌, true, false, Option, None, Some, is_some, fold, map, length, replicate, slice_get}
use Rattle.grant_core.specs.Flat.{Table}
use Rattle.entry_core.specs.Locality.{group_for}
use Rattle.store_core.specs.Request.{Sealed}
use Rattle.store_core.specs.declared.sealed.GroupId.{GroupId}
use Rattle.group_model.specs.Types.{Sent}
use Rattle.group_model.specs.Group.{Group, group_step, kick, submitted}
use Rattle.group_model.specs.Group as group
use Rattle.group_model.specs.Budget.{budget}
use Rattle.group_model.specs.Recovery.{is_ready}
use Rattle.group_model.specs.Recovering.{lost_all}
use Rattle.world_events.specs.declared.event.Event.{Event}
use Rattle.world_events.specs.declared.event.Event.TheVariants.{Deliver, Lose, Kick}
use Rattle.world_front.specs.Groups.{is_same_group}
use Rattle.world_core.specs.World.{World, group_at, world_step, world_after}
use Rattle.world_core.specs.Holds.{AcceptedFrom, AreAccepted}
use Rattle.world_core.specs.Answers.{answer_at}

-- ---- a group's messages

abbrev pub wire_in : Option Group → List Sent
wire_in None = []
wire_in (Some g) = g.wire

-- what is on its way in the group of a place
abbrev pub wire_at : GroupId → List Group → List Sent
wire_at id groups = wire_in (group_at id groups)

abbrev pub if_sent : Option Sent → ℕ → ℕ
if_sent None count = 0
if_sent (Some m) count = count

-- how many times message 0 is delivered until none is left, at most the given number; messages to daemons that are down
-- count too
abbrev pub deliveries_of : ℕ → Group → ℕ
deliveries_of zero g = 0
deliveries_of (suc most) g = if_sent (slice_get g.wire 0) (suc (deliveries_of most (group_step g (group.Deliver 0))))

abbrev pub deliveries_left : Group → ℕ
deliveries_left g = deliveries_of (budget g) g

-- ---- the events

-- the messages at these places are lost, one after the other
abbrev pub losses : GroupId → List ℕ → List Event
losses id places = map (λ k. Lose id k) places

-- then the group is kicked, and message 0 is delivered `count` times
abbrev pub recovery : GroupId → List ℕ → ℕ → List Event
recovery id places count = losses id places ++ Kick id ∷ replicate count (Deliver id 0)

-- each of the losses is accepted, and they leave the group no message
pub record LosesAll (w : World) (id : GroupId) (places : List ℕ) : Type 0 where
  pub accepted : AcceptedFrom w (losses id places)
  pub empty : wire_at id (fold world_step w (losses id places)).groups ≡ []

-- each of the events is accepted, or drops its message; then each request for the group has its answer, and no message of it is left.
-- Users, map, sessions and other groups stay
pub record AnswersAll (w : World) (id : GroupId) (events : List Event) : Type 0 where
  pub accepted : AcceptedFrom w events
  pub answered : (number : ℕ) (s : Sealed) → submitted w.front.submissions number ≡ Some s → group_for s ≡ id → is_some (answer_at (fold world_step w events) number) ≡ true
  pub empty : wire_at id (fold world_step w events).groups ≡ []
  pub front : (fold world_step w events).front ≡ w.front
  pub others : (other : GroupId) → is_same_group other id ≡ false → group_at other (fold world_step w events).groups ≡ group_at other w.groups

-- a group that is ready recovers, whichever way its messages are lost, in at most as many deliveries as its budget
abbrev pub KickRecovers : Type 0
KickRecovers = (table : Table) (daemons : ℕ) (events : List Event) (id : GroupId) (g : Group) (places : List ℕ) → AreAccepted table daemons events
    → group_at id (world_after table daemons events).groups ≡ Some g → is_ready g ≡ true → LosesAll (world_after table daemons events) id places
    → AnswersAll (world_after table daemons events) id (recovery id places (deliveries_left (kick (lost_all g)))) × (deliveries_left (kick (lost_all g)) ≤ budget (kick (lost_all g)))

-- message 0, lost as often as there are messages, is one way
abbrev pub LossesLoseAll : Type 0
LossesLoseAll = (table : Table) (daemons : ℕ) (events : List Event) (id : GroupId) (g : Group) → AreAccepted table daemons events
    → group_at id (world_after table daemons events).groups ≡ Some g → LosesAll (world_after table daemons events) id (replicate (length g.wire) 0)
