-- Statement: contracts of public calls use it.
-- A group: its copies, the messages among them, its intervals, and what was answered and decided.
use Prim.Native.Nat.{zero, suc}
use Rattle.std.specs.Prelude.{ℕ, ◌≡◌, ◌≤◌, ◌+◌, Bool, true, false, ◌==◌, ◌&&◌, not, nat_lt, List, [], ◌∷◌, ◌++◌, map, filter, length, take, remove, slice_get, slice_set, Option, Some, None, if◌then◌else◌}
use Rattle.std.specs.List.{list_any}
use Rattle.entry_core.specs.Log.{is_in, ids}
use Rattle.store_core.specs.Request.{Sealed}
use Rattle.store_core.specs.declared.entry.Entry.{Entry}
use Rattle.store_core.specs.declared.sealed.GroupId.{GroupId}
use Rattle.group_model_whole.specs.Steps.{Stepped, blank, restarted}
use Rattle.group_model_whole.specs.Copy.{copy_step, retransmit}
use Rattle.group_model_whole.specs.Decided.{decided_by}
use Rattle.group_model_whole.specs.ActingSets.{daemons, set_of}
use Rattle.group_model_whole.specs.Types.{Party, Client, Osd, Body, Interval, Request, Reply, Sent, Daemon, EntryReply}
pub use Rattle.group_messages.specs.Answers.{Answer}
pub use Rattle.group_messages.specs.declared.fault.GroupFault.{GroupFault as Fault}
pub use Rattle.group_messages.specs.declared.fault.GroupFault.TheVariants.{NoMessage, Unreachable, Full, OutOfMemory, Doubled}

pub record Group : Type 0 where
  pub group : GroupId  -- which placement group
  pub min_size : ℕ
  pub copies : List Daemon  -- the copy of daemon d at place d
  pub wire : List Sent  -- what is on its way, in order of sending
  pub sets : List (List ℕ)  -- the acting set of each interval
  pub up : List ℕ
  pub requests : List Sealed  -- what was submitted, in order
  pub answers : List Answer
  pub audit : List Entry  -- what was decided, in order

pub data Event : Type 0 where
  Submit : Sealed → Event
  Deliver : (place : ℕ) → Event
  Lose : (place : ℕ) → Event
  Repeat : (place : ℕ) → Event
  NewInterval : (acting up : List ℕ) → Event
  Restart : (daemon : ℕ) → Event
  Kick : Event

abbrev pub last_set : List (List ℕ) → List ℕ
last_set sets = set_of sets (length sets)

abbrev pub is_answered : List Answer → ℕ → Bool
is_answered answers id = list_any (λ a. a.id == id) answers

-- what the group itself sends
abbrev pub to_daemon : ℕ → Body → Sent
to_daemon d body = record { from = Client; to = Osd d; body = body }

-- to the first of the set, if there is one
abbrev pub to_primary : List ℕ → List Body → List Sent
to_primary [] bodies = []
to_primary (d ∷ ds) bodies = map (to_daemon d) bodies

-- a copy adds to the audit, in log order, what it shows to be decided and the audit lacks
abbrev pub audit_after : List Entry → Daemon → List Entry
audit_after audit c = audit ++ filter (λ e. not (is_in (ids audit) e.sealed.id)) (decided_by c.role c.log)

abbrev pub steps : Group → ℕ → Stepped → Group
steps g d s = record g { copies = slice_set g.copies d s.copy; wire = g.wire ++ s.sent; audit = audit_after g.audit s.copy }

abbrev pub answered : Group → Body → Group
answered g (Reply id reply) = if is_answered g.answers id then g else record g { answers = g.answers ++ record { id = id; reply = reply } ∷ [] }
answered g _ = g

-- the answers after a message to the client
abbrev pub answers_after : List Answer → Body → List Answer
answers_after answers (Reply id reply) = if is_answered answers id then answers else answers ++ record { id = id; reply = reply } ∷ []
answers_after answers _ = answers

abbrev pub copy_hears : Group → Sent → ℕ → Option Daemon → Group
copy_hears g m d None = g
copy_hears g m d (Some c) = steps g d (copy_step c (record { from = m.from; body = m.body }))

-- a message reaches a party; to a daemon that is down it is lost
abbrev pub arrives : Group → Sent → Party → Group
arrives g m Client = answered g m.body
arrives g m (Osd d) = if is_in g.up d then copy_hears g m d (slice_get g.copies d) else g

abbrev pub without : Group → ℕ → Group
without g k = record g { wire = remove g.wire k }

abbrev pub deliver : Group → ℕ → Option Sent → Group
deliver g k None = g
deliver g k (Some m) = arrives (without g k) m m.to

abbrev pub lose : Group → ℕ → Option Sent → Group
lose g k None = g
lose g k (Some m) = without g k

abbrev pub again : Group → Option Sent → Group
again g None = g
again g (Some m) = record g { wire = g.wire ++ m ∷ [] }

-- the request of that number, if it was submitted
abbrev pub submitted : List Sealed → ℕ → Option Sealed
submitted [] id = None
submitted (r ∷ rs) id = if r.id == id then Some r else submitted rs id

abbrev pub is_submitted : List Sealed → ℕ → Bool
is_submitted requests id = list_any (λ r. r.id == id) requests

abbrev pub has_all_requests : Group → Bool
has_all_requests g = not (nat_lt (length g.requests) 16384)

abbrev pub has_all_intervals : Group → Bool
has_all_intervals g = not (nat_lt (length g.sets) 1024)

abbrev pub take_request : Group → Sealed → Group
take_request g s = record g { requests = g.requests ++ s ∷ []; wire = g.wire ++ to_primary (last_set g.sets) (Request s ∷ []) }

abbrev pub submit : Group → Sealed → Group
submit g s = if is_submitted g.requests s.id then g else (if has_all_requests g then g else take_request g s)

abbrev pub open_requests : Group → List Sealed
open_requests g = filter (λ s. not (is_answered g.answers s.id)) g.requests

-- to the first of the last set: each request that has no answer
abbrev pub resent : List (List ℕ) → List Sealed → List Answer → List Sent
resent sets requests answers = to_primary (last_set sets) (map Request (filter (λ s. not (is_answered answers s.id)) requests))

abbrev pub resent_by : Group → List Sent
resent_by g = resent g.sets g.requests g.answers

-- to each of the last set: all sets
abbrev pub announced : List (List ℕ) → List Sent
announced sets = map (λ d. to_daemon d (Interval sets)) (last_set sets)

abbrev pub announced_by : Group → List Sent
announced_by g = announced g.sets

-- a new interval begins
abbrev pub begin : Group → List ℕ → Group
begin g acting =
    let h : Group = record g { sets = g.sets ++ acting ∷ [] } in
    record h { wire = g.wire ++ announced_by h ++ resent_by h }

abbrev pub with_up : Group → List ℕ → Group
with_up g up = record g {
  up = up;
  copies = map (λ c. if is_in g.up c.number && not (is_in up c.number) then restarted c else c) g.copies;
}

abbrev pub same_set : List ℕ → List ℕ → Bool
same_set [] [] = true
same_set (x ∷ xs) (y ∷ ys) = (x == y) && same_set xs ys
same_set [] (y ∷ ys) = false
same_set (x ∷ xs) [] = false

abbrev pub new_interval : Group → List ℕ → List ℕ → Group
new_interval g acting up =
    if same_set acting (last_set g.sets) then with_up g up else (if has_all_intervals g then g else begin (with_up g up) acting)

abbrev pub restart : Group → ℕ → Group
restart g d =
    let h : Group = record g { copies = map (λ c. if c.number == d then restarted c else c) g.copies } in
    if is_in (last_set g.sets) d then (if has_all_intervals g then g else begin h (last_set g.sets)) else h

-- what the copy of the first of a set sends again, if there is one
abbrev pub retransmit_from : Option Daemon → List Sent
retransmit_from None = []
retransmit_from (Some c) = retransmit c

abbrev pub retransmit_primary : List Daemon → List ℕ → List Sent
retransmit_primary copies [] = []
retransmit_primary copies (d ∷ ds) = retransmit_from (slice_get copies d)

abbrev pub retransmit_of : Group → List ℕ → List Sent
retransmit_of g set = retransmit_primary g.copies set

abbrev pub kick : Group → Group
kick g = record g { wire = g.wire ++ announced_by g ++ retransmit_of g (last_set g.sets) ++ resent_by g }

abbrev pub group_step : Group → Event → Group
group_step g (Submit s) = submit g s
group_step g (Deliver k) = deliver g k (slice_get g.wire k)
group_step g (Lose k) = lose g k (slice_get g.wire k)
group_step g (Repeat k) = again g (slice_get g.wire k)
group_step g (NewInterval acting up) = new_interval g acting up
group_step g (Restart d) = restart g d
group_step g Kick = kick g

-- the first reason to refuse an event

abbrev pub refusal_to : Group → Party → Option Fault
refusal_to g Client = None
refusal_to g (Osd d) = if is_in g.up d then None else Some Unreachable

abbrev pub refusal_at : Group → ℕ → Option Sent → Option Fault
refusal_at g k None = Some (NoMessage k)
refusal_at g k (Some m) = refusal_to g m.to

abbrev pub missing_at : ℕ → Option Sent → Option Fault
missing_at k None = Some (NoMessage k)
missing_at k (Some m) = None

abbrev pub refusal_of : Group → Event → Option Fault
refusal_of g (Submit s) = if is_submitted g.requests s.id then Some Doubled else (if has_all_requests g then Some Full else None)
refusal_of g (Deliver k) = refusal_at g k (slice_get g.wire k)
refusal_of g (Lose k) = missing_at k (slice_get g.wire k)
refusal_of g (Repeat k) = missing_at k (slice_get g.wire k)
refusal_of g (NewInterval acting up) = if same_set acting (last_set g.sets) then None else (if has_all_intervals g then Some Full else None)
refusal_of g (Restart d) = if is_in (last_set g.sets) d then (if has_all_intervals g then Some Full else None) else None
refusal_of g Kick = None

-- what a refused event leaves: the group, except that a message to a daemon that is down is dropped
abbrev pub left_by : Group → Event → Fault → Group
left_by g (Deliver k) Unreachable = without g k
left_by g (Deliver k) (NoMessage place) = g
left_by g (Deliver k) Full = g
left_by g (Deliver k) OutOfMemory = g
left_by g (Deliver k) Doubled = g
left_by g (Submit s) fault = g
left_by g (Lose k) fault = g
left_by g (Repeat k) fault = g
left_by g (NewInterval acting up) fault = g
left_by g (Restart d) fault = g
left_by g Kick fault = g

-- at most five, each once

abbrev pub is_distinct : List ℕ → Bool
is_distinct [] = true
is_distinct (x ∷ xs) = not (is_in xs x) && is_distinct xs

pub record IsSet (members : List ℕ) : Type 0 where
  pub few : length members ≤ 5
  pub once : is_distinct members ≡ true

abbrev pub EventFits : Event → Type 0
EventFits (NewInterval acting up) = IsSet acting
EventFits (Submit s) = Unit {0}
EventFits (Deliver k) = Unit {0}
EventFits (Lose k) = Unit {0}
EventFits (Repeat k) = Unit {0}
EventFits (Restart d) = Unit {0}
EventFits Kick = Unit {0}

-- the reply that a request's number was answered with first
abbrev pub answer_of : List Answer → ℕ → Option EntryReply
answer_of [] id = None
answer_of (a ∷ as') id = if a.id == id then Some a.reply else answer_of as' id

abbrev pub run : List Event → Group → Group
run [] g = g
run (e ∷ es) g = run es (group_step g e)

abbrev pub start : GroupId → ℕ → ℕ → List ℕ → List ℕ → Group
start group min_size count acting up = begin (record {
  group = group;
  min_size = min_size;
  copies = map (blank min_size) (take count daemons);
  wire = [];
  sets = [];
  up = up;
  requests = [];
  answers = [];
  audit = [];
}) acting

-- message 0, until none is left; at most this many
abbrev pub settle : ℕ → Group → Group
settle zero g = g
settle (suc n) g = settle n (group_step g (Deliver 0))

-- how many of them reach their addressee
abbrev pub delivered_to : Party → Group → ℕ
delivered_to Client g = 1
delivered_to (Osd d) g = if is_in g.up d then 1 else 0

abbrev pub delivered_now : Option Sent → Group → ℕ
delivered_now None g = 0
delivered_now (Some m) g = delivered_to m.to g

abbrev pub delivered : ℕ → Group → ℕ
delivered zero g = 0
delivered (suc n) g = delivered_now (slice_get g.wire 0) g + delivered n (group_step g (Deliver 0))
