-- A step of a group takes at most one message of its wire, and sends others behind those that stay.
use Rattle.std.proofs.Common.{ℕ, zero, suc, ◌≡◌, List, [], ◌∷◌, ◌++◌, Option, Some, None, true, false, map, ◌==◌, if◌then◌else◌, refl, sym, ◌∙◌, ap, arith}
use Rattle.std.specs.List.{remove, slice_get}
use Rattle.std.proofs.lemmas.List.{append-nil, append_assoc}
use Rattle.entry_core.specs.Log.{is_in}
use Rattle.store_core.specs.Request.{Sealed}
use Rattle.peer_core.specs.Copy.{copy_step}
use Rattle.peer_core.specs.Steps.{restarted}
use Rattle.group_model.specs.Types.{Party, Client, Osd, Body, Interval, Query, Info, Install, Installed, Append, Appended, Request, Reply, NotHere, Sent, Daemon}
use Rattle.group_model.specs.Group.{Group, Event, Submit, Deliver, Lose, Repeat, NewInterval, Restart, Kick, group_step, answered, is_answered, arrives, copy_hears, deliver, lose, again, without, begin, with_up, submit, take_request, is_submitted, has_all_requests, has_all_intervals, new_interval, same_set, last_set, announced, resent, retransmit_primary, to_primary}
use Rattle.group_story.specs.Wire.{kept, place_of, TakesAndSends}

-- the second wire, and then what was sent
abbrev pub Sends : List Sent → List Sent → Type 0
Sends after before = (sent : List Sent) × (after ≡ before ++ sent)

pub nothing : (wire : List Sent) → Sends wire wire
nothing wire = ([], sym (append-nil wire))

pub once : (wire a : List Sent) → Sends (wire ++ a) wire
once wire a = (a, refl)

pub twice : (wire a b : List Sent) → Sends (wire ++ a ++ b) wire
twice wire a b = (a ++ b, append_assoc wire a b)

pub thrice : (wire a b c : List Sent) → Sends (wire ++ a ++ b ++ c) wire
thrice wire a b c = (a ++ (b ++ c), append_assoc (wire ++ a) b c ∙ append_assoc wire a (b ++ c))

-- nothing is taken past the end
pub remove_past : {X : Type 0} (xs : List X) (k : ℕ) → slice_get xs k ≡ None → remove xs k ≡ xs
remove_past [] zero none = refl
remove_past [] (suc k) none = refl
remove_past (x ∷ xs) zero none = absurd (grind arith)
remove_past (x ∷ xs) (suc k) none = ap (λ l. x ∷ l) (remove_past xs k none)

pub answered_sends : (g : Group) (b : Body) → Sends (answered g b).wire g.wire
answered_sends g (Reply id reply) =
    elim (is_answered g.answers id) as (λ b. Sends (if b then g else record g { answers = g.answers ++ record { id = id; reply = reply } ∷ [] }).wire g.wire)
    [ true ↦ nothing g.wire | false ↦ nothing g.wire ]
answered_sends g (Interval sets) = nothing g.wire
answered_sends g (Query n len end) = nothing g.wire
answered_sends g (Info n base from part) = nothing g.wire
answered_sends g (Install n from part) = nothing g.wire
answered_sends g (Installed n) = nothing g.wire
answered_sends g (Append n place s) = nothing g.wire
answered_sends g (Appended n place) = nothing g.wire
answered_sends g (Request s) = nothing g.wire
answered_sends g (NotHere id) = nothing g.wire

pub hears_sends : (g : Group) (m : Sent) (d : ℕ) (found : Option Daemon) → Sends (copy_hears g m d found).wire g.wire
hears_sends g m d None = nothing g.wire
hears_sends g m d (Some c) = once g.wire (copy_step c (record { from = m.from; body = m.body })).sent

pub arrives_sends : (g : Group) (m : Sent) (p : Party) → Sends (arrives g m p).wire g.wire
arrives_sends g m Client = answered_sends g m.body
arrives_sends g m (Osd d) =
    elim (is_in g.up d) as (λ b. Sends (if b then copy_hears g m d (slice_get g.copies d) else g).wire g.wire)
    [ true ↦ hears_sends g m d (slice_get g.copies d) | false ↦ nothing g.wire ]

pub untaken : (wire : List Sent) (k : ℕ) → slice_get wire k ≡ None → Sends wire (remove wire k)
untaken wire k none = ([], sym (append-nil (remove wire k) ∙ remove_past wire k none))

pub deliver_sends : (g : Group) (k : ℕ) (found : Option Sent) → slice_get g.wire k ≡ found → Sends (deliver g k found).wire (remove g.wire k)
deliver_sends g k None is = untaken g.wire k is
deliver_sends g k (Some m) is = arrives_sends (without g k) m m.to

pub lose_sends : (g : Group) (k : ℕ) (found : Option Sent) → slice_get g.wire k ≡ found → Sends (lose g k found).wire (remove g.wire k)
lose_sends g k None is = untaken g.wire k is
lose_sends g k (Some m) is = nothing (remove g.wire k)

pub again_sends : (g : Group) (found : Option Sent) → Sends (again g found).wire g.wire
again_sends g None = nothing g.wire
again_sends g (Some m) = once g.wire (m ∷ [])

pub begin_sends : (g : Group) (acting : List ℕ) → Sends (begin g acting).wire g.wire
begin_sends g acting =
    let h : Group = record g { sets = g.sets ++ acting ∷ [] } in
    twice g.wire (announced h.sets) (resent h.sets h.requests h.answers)

pub submit_sends : (g : Group) (s : Sealed) → Sends (submit g s).wire g.wire
submit_sends g s =
    elim (is_submitted g.requests s.id) as (λ b. Sends (if b then g else (if has_all_requests g then g else take_request g s)).wire g.wire) [
      | true ↦ nothing g.wire
      | false ↦ elim (has_all_requests g) as (λ b. Sends (if b then g else take_request g s).wire g.wire)
          [ true ↦ nothing g.wire | false ↦ once g.wire (to_primary (last_set g.sets) (Request s ∷ [])) ]
    ]

pub new_interval_sends : (g : Group) (acting up : List ℕ) → Sends (new_interval g acting up).wire g.wire
new_interval_sends g acting up =
    elim (same_set acting (last_set g.sets)) as (λ b. Sends (if b then with_up g up else (if has_all_intervals g then g else begin (with_up g up) acting)).wire g.wire) [
      | true ↦ nothing g.wire
      | false ↦ elim (has_all_intervals g) as (λ b. Sends (if b then g else begin (with_up g up) acting).wire g.wire)
          [ true ↦ nothing g.wire | false ↦ begin_sends (with_up g up) acting ]
    ]

-- where copies alone differ
pub restart_sends : (g h : Group) (d : ℕ) → h.wire ≡ g.wire
    → Sends (if is_in (last_set g.sets) d then (if has_all_intervals g then g else begin h (last_set g.sets)) else h).wire g.wire
restart_sends g h d same =
    elim (is_in (last_set g.sets) d) as (λ b. Sends (if b then (if has_all_intervals g then g else begin h (last_set g.sets)) else h).wire g.wire) [
      | true ↦ elim (has_all_intervals g) as (λ b. Sends (if b then g else begin h (last_set g.sets)).wire g.wire) [
        | true ↦ nothing g.wire
        | false ↦ (let begun : Sends (begin h (last_set g.sets)).wire h.wire = begin_sends h (last_set g.sets) in
            (begun.0, begun.1 ∙ ap (λ w. w ++ begun.0) same))
      ]
      | false ↦ ([], same ∙ sym (append-nil g.wire))
    ]

pub sends : (g : Group) (e : Event) → Sends (group_step g e).wire (kept g.wire (place_of e))
sends g (Submit s) = submit_sends g s
sends g (Deliver k) = deliver_sends g k (slice_get g.wire k) refl
sends g (Lose k) = lose_sends g k (slice_get g.wire k) refl
sends g (Repeat k) = again_sends g (slice_get g.wire k)
sends g (NewInterval acting up) = new_interval_sends g acting up
sends g (Restart d) = restart_sends g (record g { copies = map (λ c. if c.number == d then restarted c else c) g.copies }) d refl
sends g Kick = thrice g.wire (announced g.sets) (retransmit_primary g.copies (last_set g.sets)) (resent g.sets g.requests g.answers)

pub takes_and_sends : (g : Group) (e : Event) → TakesAndSends g e
takes_and_sends g e = let told = sends g e in record { sent = told.0; after = told.1 }
