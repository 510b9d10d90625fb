-- Refinement: only contracts inside the crate use it.
-- What one event does to a world, and one call to a group and its runs.
use Rattle.std.specs.Prelude.{◌≡◌, ◌⊎◌, ℕ, List, [], ◌∷◌, ◌++◌, true, false, if◌then◌else◌, None, Some, Result, Ok, Err, IfOk, length, nat_lt, slice_get, slice_set}
use Rattle.store_core.specs.declared.sealed.GroupId.{GroupId}
use Rattle.group_model.specs.Group.{Group, group_step, left_by}
use Rattle.group_model.specs.Group as group
use Rattle.group_messages.specs.declared.fault.GroupFault.{GroupFault}
use Rattle.group_messages.specs.declared.fault.GroupFault.TheVariants as group_fault
use Rattle.world_events.specs.declared.event.Event.{Event}
use Rattle.world_events.specs.declared.event.Event.TheVariants.{Deliver, Lose, Repeat, Kick}
use Rattle.world_events.specs.declared.event.Told.{Told}
use Rattle.world_events.specs.declared.event.Told.TheVariants.{Done}
use Rattle.world_events.specs.declared.fault.WorldFault.{WorldFault as Fault}
use Rattle.world_events.specs.declared.fault.WorldFault.TheVariants.{OutOfMemory, Group as OfGroup}
use Rattle.world_front.specs.ControlPlane.{told_of}
use Rattle.world_core.specs.World.{World, counts, refusal_of, world_step}
use Rattle.common_types.specs.Refused.{RefusedExactly}
use Rattle.world_front.specs.Refusing.{RefusedOrMemory}
use Rattle.world_core.specs.declared.audit.Run.{Run}
use Rattle.group_core.specs.declared.call.GroupCall.{GroupCall}
use Rattle.group_core.specs.declared.call.GroupCall.TheVariants as calls

-- what an event does, whatever came of it
pub record Applies (old : World) (e : Event) (result : Result Told Fault) (new : World) : Type 0 where
  pub steps : counts e result ≡ true → new ≡ world_step old e
  pub tells : IfOk result (λ told. told ≡ told_of old.front e)
  pub refused : RefusedOrMemory (refusal_of old e) result
  pub unchanged : counts e result ≡ false → new ≡ old

-- a loss is refused exactly for its reason, and never runs out of memory
abbrev pub LosesExactly : World → Event → Result Told Fault → Type 0
LosesExactly w (Lose id place) result = RefusedExactly (refusal_of w (Lose id place)) result
LosesExactly w e result = Unit {0}

-- ---- calls on one group

-- the world's fault for a fault of a group; out of memory is the world's own
abbrev pub fault_of_group : GroupFault → Fault
fault_of_group group_fault.OutOfMemory = OutOfMemory
fault_of_group (group_fault.NoMessage place) = OfGroup (group_fault.NoMessage place)
fault_of_group group_fault.Unreachable = OfGroup group_fault.Unreachable
fault_of_group group_fault.Full = OfGroup group_fault.Full
fault_of_group group_fault.Doubled = OfGroup group_fault.Doubled

-- the event that is such a call on a group
abbrev pub event_for : GroupId → GroupCall → Event
event_for id (calls.Deliver place) = Deliver id place
event_for id (calls.Lose place) = Lose id place
event_for id (calls.Repeat place) = Repeat id place
event_for id calls.Kick = Kick id

-- what a call tells
abbrev pub told_call : Result (Unit {0}) GroupFault → Result Told Fault
told_call (Ok done) = Ok Done
told_call (Err fault) = Err (fault_of_group fault)

-- A call on an event. At `Ok` nothing refuses the event, and it happened. At `Err` it was refused for its reason, or
-- memory ran out.
abbrev pub StepsOrMemory : {T : Type 0} → Group → group.Event → Result T GroupFault → Group → Type 0
StepsOrMemory old e (Ok done) new = (group.refusal_of old e ≡ None) × (new ≡ group_step old e)
StepsOrMemory old e (Err fault) new = ((fault ≡ group_fault.OutOfMemory) × (new ≡ old)) ⊎ ((group.refusal_of old e ≡ Some fault) × (new ≡ left_by old e fault))

-- the run from one count of decided entries to another, if there is any
abbrev pub runs_from : ℕ → ℕ → ℕ → List Run
runs_from place from upto = if nat_lt from upto then record { group = place; from = from; upto = upto } ∷ [] else []

-- a call on the group at a place
pub record CalledAt {T : Type 0} (groups : List Group) (runs : List Run) (place : ℕ) (e : group.Event) (result : Result T GroupFault) (groups_then : List Group) (runs_then : List Run) : Type 0 where
  pub old : Group
  pub new : Group
  pub there : slice_get groups place ≡ Some old
  pub steps : StepsOrMemory old e result new
  pub groups_are : groups_then ≡ slice_set groups place new
  pub runs_are : runs_then ≡ runs ++ runs_from place (length old.audit) (length new.audit)

-- a loss never runs out of memory
abbrev pub LosesFreely : {T : Type 0} → GroupCall → Result T GroupFault → Type 0
LosesFreely (calls.Lose place) result = result ≡ Err group_fault.OutOfMemory → ⊥
LosesFreely (calls.Deliver place) result = Unit {0}
LosesFreely (calls.Repeat place) result = Unit {0}
LosesFreely calls.Kick result = Unit {0}
