-- Statement: contracts of public calls use it.
-- A group where peering sends suffixes. Events, faults, and what has nothing to do with messages, are those of groups that send whole logs.
use Prim.Native.Nat.{zero, suc}
use Rattle.std.specs.Prelude.{ℕ, ◌+◌, Bool, ◌==◌, ◌&&◌, not, nat_lt, List, [], ◌∷◌, ◌++◌, map, filter, length, take, remove, slice_get, slice_set, Option, Some, None, if◌then◌else◌}
use Rattle.entry_core.specs.Log.{is_in, ids}
use Rattle.store_core.specs.Request.{Sealed}
use Rattle.store_core.specs.declared.entry.Entry.{Entry}
use Rattle.store_core.specs.declared.sealed.GroupId.{GroupId}
use Rattle.group_model_whole.specs.ActingSets.{daemons}
pub use Rattle.group_model_whole.specs.Group.{Event, Submit, Deliver, Lose, Repeat, NewInterval, Restart, Kick, last_set, is_answered, submitted, is_submitted, same_set, is_distinct, IsSet, EventFits, answer_of}
pub use Rattle.group_messages.specs.Answers.{Answer}
pub use Rattle.group_messages.specs.declared.fault.GroupFault.{GroupFault as Fault}
pub use Rattle.group_messages.specs.declared.fault.GroupFault.TheVariants.{NoMessage, Unreachable, Full, OutOfMemory, Doubled}
use Rattle.group_model.specs.Types.{Party, Client, Osd, Body, Interval, Query, Info, Install, Installed, Append, Appended, Request, Reply, NotHere, Sent, Copy}
use Rattle.peer_core.specs.Steps.{Stepped, blank, restarted}
use Rattle.peer_core.specs.Decided.{decided_by}
use Rattle.peer_core.specs.Copy.{copy_step, retransmit}

pub record Group : Type 0 where
  pub group : GroupId
  pub min_size : ℕ
  pub copies : List Copy
  pub wire : List Sent
  pub sets : List (List ℕ)
  pub up : List ℕ
  pub requests : List Sealed
  pub answers : List Answer
  pub audit : List Entry

abbrev pub to_daemon : ℕ → Body → Sent
to_daemon d body = record { from = Client; to = Osd d; body = body }

abbrev pub to_primary : List ℕ → List Body → List Sent
to_primary [] bodies = []
to_primary (d ∷ ds) bodies = map (to_daemon d) bodies

abbrev pub audit_after : List Entry → Copy → List Entry
audit_after audit c = audit ++ filter (λ e. not (is_in (ids audit) e.sealed.id)) (decided_by c.role c.log)

abbrev pub steps : Group → ℕ → Stepped → Group
steps g d s = record g { copies = slice_set g.copies d s.copy; wire = g.wire ++ s.sent; audit = audit_after g.audit s.copy }

abbrev pub answered : Group → Body → Group
answered g (Reply id reply) = if is_answered g.answers id then g else record g { answers = g.answers ++ record { id = id; reply = reply } ∷ [] }
answered g (Interval sets) = g
answered g (Query n len end) = g
answered g (Info n base start part) = g
answered g (Install n start part) = g
answered g (Installed n) = g
answered g (Append n index s) = g
answered g (Appended n index) = g
answered g (Request s) = g
answered g (NotHere id) = g

abbrev pub copy_hears : Group → Sent → ℕ → Option Copy → Group
copy_hears g m d None = g
copy_hears g m d (Some c) = steps g d (copy_step c (record { from = m.from; body = m.body }))

abbrev pub arrives : Group → Sent → Party → Group
arrives g m Client = answered g m.body
arrives g m (Osd d) = if is_in g.up d then copy_hears g m d (slice_get g.copies d) else g

abbrev pub without : Group → ℕ → Group
without g k = record g { wire = remove g.wire k }

abbrev pub deliver : Group → ℕ → Option Sent → Group
deliver g k None = g
deliver g k (Some m) = arrives (without g k) m m.to

abbrev pub lose : Group → ℕ → Option Sent → Group
lose g k None = g
lose g k (Some m) = without g k

abbrev pub again : Group → Option Sent → Group
again g None = g
again g (Some m) = record g { wire = g.wire ++ m ∷ [] }

abbrev pub has_all_requests : Group → Bool
has_all_requests g = not (nat_lt (length g.requests) 16384)

abbrev pub has_all_intervals : Group → Bool
has_all_intervals g = not (nat_lt (length g.sets) 1024)

abbrev pub take_request : Group → Sealed → Group
take_request g s = record g { requests = g.requests ++ s ∷ []; wire = g.wire ++ to_primary (last_set g.sets) (Request s ∷ []) }

abbrev pub submit : Group → Sealed → Group
submit g s = if is_submitted g.requests s.id then g else (if has_all_requests g then g else take_request g s)

abbrev pub resent : List (List ℕ) → List Sealed → List Answer → List Sent
resent sets requests answers = to_primary (last_set sets) (map Request (filter (λ s. not (is_answered answers s.id)) requests))

abbrev pub announced : List (List ℕ) → List Sent
announced sets = map (λ d. to_daemon d (Interval sets)) (last_set sets)

abbrev pub begin : Group → List ℕ → Group
begin g acting = record g {
  sets = g.sets ++ acting ∷ [];
  wire = g.wire ++ announced (g.sets ++ acting ∷ []) ++ resent (g.sets ++ acting ∷ []) g.requests g.answers;
}

abbrev pub with_up : Group → List ℕ → Group
with_up g up = record g {
  up = up;
  copies = map (λ c. if is_in g.up c.number && not (is_in up c.number) then restarted c else c) g.copies;
}

abbrev pub new_interval : Group → List ℕ → List ℕ → Group
new_interval g acting up =
    if same_set acting (last_set g.sets) then with_up g up else (if has_all_intervals g then g else begin (with_up g up) acting)

abbrev pub restart : Group → ℕ → Group
restart g d =
    let h : Group = record g { copies = map (λ c. if c.number == d then restarted c else c) g.copies } in
    if is_in (last_set g.sets) d then (if has_all_intervals g then g else begin h (last_set g.sets)) else h

abbrev pub retransmit_from : Option Copy → List Sent
retransmit_from None = []
retransmit_from (Some c) = retransmit c

abbrev pub retransmit_primary : List Copy → List ℕ → List Sent
retransmit_primary copies [] = []
retransmit_primary copies (d ∷ ds) = retransmit_from (slice_get copies d)

abbrev pub kick : Group → Group
kick g = record g { wire = g.wire ++ announced g.sets ++ retransmit_primary g.copies (last_set g.sets) ++ resent g.sets g.requests g.answers }

abbrev pub group_step : Group → Event → Group
group_step g (Submit s) = submit g s
group_step g (Deliver k) = deliver g k (slice_get g.wire k)
group_step g (Lose k) = lose g k (slice_get g.wire k)
group_step g (Repeat k) = again g (slice_get g.wire k)
group_step g (NewInterval acting up) = new_interval g acting up
group_step g (Restart d) = restart g d
group_step g Kick = kick g

abbrev pub run : List Event → Group → Group
run [] g = g
run (e ∷ es) g = run es (group_step g e)

abbrev pub start : GroupId → ℕ → ℕ → List ℕ → List ℕ → Group
start group min_size count acting up = begin (record {
  group = group;
  min_size = min_size;
  copies = map (blank min_size) (take count daemons);
  wire = [];
  sets = [];
  up = up;
  requests = [];
  answers = [];
  audit = [];
}) acting

-- the first reason to refuse an event

abbrev pub refusal_to : Group → Party → Option Fault
refusal_to g Client = None
refusal_to g (Osd d) = if is_in g.up d then None else Some Unreachable

abbrev pub refusal_at : Group → ℕ → Option Sent → Option Fault
refusal_at g k None = Some (NoMessage k)
refusal_at g k (Some m) = refusal_to g m.to

abbrev pub missing_at : ℕ → Option Sent → Option Fault
missing_at k None = Some (NoMessage k)
missing_at k (Some m) = None

abbrev pub refusal_of : Group → Event → Option Fault
refusal_of g (Submit s) = if is_submitted g.requests s.id then Some Doubled else (if has_all_requests g then Some Full else None)
refusal_of g (Deliver k) = refusal_at g k (slice_get g.wire k)
refusal_of g (Lose k) = missing_at k (slice_get g.wire k)
refusal_of g (Repeat k) = missing_at k (slice_get g.wire k)
refusal_of g (NewInterval acting up) = if same_set acting (last_set g.sets) then None else (if has_all_intervals g then Some Full else None)
refusal_of g (Restart d) = if is_in (last_set g.sets) d then (if has_all_intervals g then Some Full else None) else None
refusal_of g Kick = None

-- message 0, until none is left; at most this many
abbrev pub settle : ℕ → Group → Group
settle zero g = g
settle (suc n) g = settle n (group_step g (Deliver 0))

-- how many of them reach their addressee
abbrev pub delivered_to : Party → Group → ℕ
delivered_to Client g = 1
delivered_to (Osd d) g = if is_in g.up d then 1 else 0

abbrev pub delivered_now : Option Sent → Group → ℕ
delivered_now None g = 0
delivered_now (Some m) g = delivered_to m.to g

abbrev pub delivered : ℕ → Group → ℕ
delivered zero g = 0
delivered (suc n) g = delivered_now (slice_get g.wire 0) g + delivered n (group_step g (Deliver 0))

-- the answers after a message to the client
abbrev pub answers_after : List Answer → Body → List Answer
answers_after answers (Reply id reply) = if is_answered answers id then answers else answers ++ record { id = id; reply = reply } ∷ []
answers_after answers (Interval sets) = answers
answers_after answers (Query n len end) = answers
answers_after answers (Info n base start part) = answers
answers_after answers (Install n start part) = answers
answers_after answers (Installed n) = answers
answers_after answers (Append n index s) = answers
answers_after answers (Appended n index) = answers
answers_after answers (Request s) = answers
answers_after answers (NotHere id) = answers

-- what a refused event leaves: the group, except that a message to a daemon that is down is dropped
abbrev pub left_by : Group → Event → Fault → Group
left_by g (Deliver k) Unreachable = without g k
left_by g (Deliver k) (NoMessage place) = g
left_by g (Deliver k) Full = g
left_by g (Deliver k) OutOfMemory = g
left_by g (Deliver k) Doubled = g
left_by g (Submit s) fault = g
left_by g (Lose k) fault = g
left_by g (Repeat k) fault = g
left_by g (NewInterval acting up) fault = g
left_by g (Restart d) fault = g
left_by g Kick fault = g
