-- Statement: contracts of public calls use it.
-- The groups that there can be, and what one call does.
use Rattle.std.specs.Prelude.{ℕ, ◌≡◌, ◌≤◌, List, Some, None, Result, Ok, Err, min, take, length, ◌-◌, [], ◌∷◌}
use Rattle.store_core.specs.declared.sealed.GroupId.{GroupId}
use Rattle.store_core.specs.Request.{Sealed}
use Rattle.group_model_whole.specs.Types.{Sent}
use Rattle.group_model_whole.specs.Each.{Each}
use Rattle.group_model_whole.specs.Group.{Group, Event, Submit, Fault, NoMessage, Unreachable, Full, OutOfMemory, Doubled, IsSet, EventFits, run, start, settle, group_step, refusal_of, left_by}
use Rattle.group_model_whole.specs.Budget.{settled_group, settle_count}

-- some events make the group from a beginning
pub record IsReached (g : Group) : Type 0 where
  pub group : GroupId
  pub min_size : ℕ
  pub daemons : ℕ
  pub acting : List ℕ
  pub up : List ℕ
  pub events : List Event
  pub least : 1 ≤ min_size
  pub begins : IsSet acting
  pub fit : Each EventFits events
  pub is : run events (start group min_size daemons acting up) ≡ g

-- a refused call: for the first reason that applies; without one, it is out of memory, and nothing changes
abbrev pub Refuses : Group → Event → Fault → Group → Type 0
Refuses old e OutOfMemory new = (refusal_of old e ≡ None) × (new ≡ old)
Refuses old e (NoMessage k) new = (refusal_of old e ≡ Some (NoMessage k)) × (new ≡ left_by old e (NoMessage k))
Refuses old e Unreachable new = (refusal_of old e ≡ Some Unreachable) × (new ≡ left_by old e Unreachable)
Refuses old e Full new = (refusal_of old e ≡ Some Full) × (new ≡ left_by old e Full)
Refuses old e Doubled new = (refusal_of old e ≡ Some Doubled) × (new ≡ left_by old e Doubled)

-- a call on an event: the event happens where nothing refuses it
abbrev pub Steps : {T : Type 0} → Group → Event → Result T Fault → Group → Type 0
Steps old e (Ok done) new = (refusal_of old e ≡ None) × (new ≡ group_step old e)
Steps old e (Err fault) new = Refuses old e fault new

-- the request was taken, and nothing came after it
pub record HasJustTaken (g before : Group) (s : Sealed) : Type 0 where
  pub reached : IsReached before
  pub taken : refusal_of before (Submit s) ≡ None
  pub is : g ≡ group_step before (Submit s)

-- without the last message, where a set has a first to send to
abbrev pub unsent : List ℕ → List Sent → List Sent
unsent [] ms = ms
unsent (d ∷ ds) ms = take (length ms - 1) ms

-- settling: message 0 is delivered until none is left, or until memory is refused
abbrev pub Settles : Group → Result ℕ Fault → Group → Type 0
Settles old (Ok count) new = (new ≡ settled_group old) × (count ≡ min (settle_count old) 4294967295)
Settles old (Err fault) new = (fault ≡ OutOfMemory) × ((n : ℕ) × (new ≡ settle n old))
