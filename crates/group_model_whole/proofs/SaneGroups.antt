-- Each event keeps what holds of each copy by itself.
use Rattle.std.proofs.Common.{ℕ, ◌≡◌, Bool, true, false, not, ◌==◌, ◌&&◌, List, [], ◌∷◌, ◌++◌, map, take, refl, arith, if◌then◌else◌}
use Rattle.std.specs.Prelude.{Option, Some, None, slice_get}
use Rattle.entry_core.specs.Log.{is_in}
use Rattle.store_core.specs.Request.{Sealed}
use Rattle.group_model_whole.specs.Copy.{copy_step}
use Rattle.group_model_whole.specs.ActingSets.{daemons}
use Rattle.store_core.specs.declared.sealed.GroupId.{GroupId}
use Rattle.group_model_whole.specs.Group.{Group, Event, Submit, Deliver, Lose, Repeat, NewInterval, Restart, Kick, retransmit_from, last_set, open_requests, is_answered, to_daemon, to_primary, answered, copy_hears, arrives, without, deliver, lose, again, is_submitted, has_all_requests, has_all_intervals, take_request, submit, resent_by, announced_by, begin, with_up, same_set, restart, retransmit_of, kick, group_step, run, start}
use Rattle.group_model_whole.specs.Steps.{blank, restarted}
use Rattle.group_model_whole.specs.Types.{Daemon, Body, Interval, Query, Info, Install, Installed, Append, Appended, Request, Reply, NotHere, Party, Osd, Client, Sent}
use Rattle.group_model_whole.specs.Each.{Each}
use Rattle.group_model_whole.specs.Sane.{IsSane, BodyIsLegal, AllSane}
use Rattle.group_model_whole.proofs.Eaches.{Each-append, Each-push, Each-remove, Each-set, Each-get, Each-map, Each-map_all}
use Rattle.group_model_whole.proofs.Sanes.{copy_step_sane, kicked_legal}

abbrev IsLegalSent : Sent → Type 0
IsLegalSent m = BodyIsLegal m.body

blank_sane : (min_size d : ℕ) → IsSane (blank min_size d)
blank_sane min_size d = record { base = omega arith; role = tt; legal = tt }

restarted_sane : (c : Daemon) → IsSane c → IsSane (restarted c)
restarted_sane c ok = record { base = ok.base; role = tt; legal = ok.legal }

restarted_if_sane : (b : Bool) (c : Daemon) → IsSane c → IsSane (if b then restarted c else c)
restarted_if_sane true c ok = restarted_sane c ok
restarted_if_sane false c ok = ok

tell_first_legal : (ds : List ℕ) (bodies : List Body) → Each BodyIsLegal bodies → Each IsLegalSent (to_primary ds bodies)
tell_first_legal [] bodies legal = tt
tell_first_legal (d ∷ ds) bodies legal = Each-map IsLegalSent BodyIsLegal (to_daemon d) (λ b p. p) bodies legal

resend_legal : (g : Group) → Each IsLegalSent (resent_by g)
resend_legal g = tell_first_legal (last_set g.sets) (map Request (open_requests g)) (Each-map_all BodyIsLegal Request (λ s. tt) (open_requests g))

announce_legal : (g : Group) → Each IsLegalSent (announced_by g)
announce_legal g = Each-map_all IsLegalSent (λ d. to_daemon d (Interval g.sets)) (λ d. tt) (last_set g.sets)

begin_sane : (g : Group) (acting : List ℕ) → AllSane g → AllSane (begin g acting)
begin_sane g acting ok = record {
  copies = ok.copies;
  wire = Each-append IsLegalSent (g.wire ++ announced_by (record g { sets = g.sets ++ acting ∷ [] })) (resent_by (record g { sets = g.sets ++ acting ∷ [] }))
      (Each-append IsLegalSent g.wire (announced_by (record g { sets = g.sets ++ acting ∷ [] })) ok.wire (announce_legal (record g { sets = g.sets ++ acting ∷ [] })))
      (resend_legal (record g { sets = g.sets ++ acting ∷ [] }));
}

by_test : (b : Bool) (x y : Group) → AllSane x → AllSane y → AllSane (if b then x else y)
by_test true x y p q = p
by_test false x y p q = q

hears_sane : (g : Group) (m : Sent) (d : ℕ) (found : Option Daemon) → slice_get g.copies d ≡ found → AllSane g → IsLegalSent m → AllSane (copy_hears g m d found)
hears_sane g m d None is ok legal = ok
hears_sane g m d (Some c) is ok legal =
    let next = copy_step_sane c (record { from = m.from; body = m.body }) (Each-get IsSane g.copies d c ok.copies is) legal in
    record {
      copies = Each-set IsSane g.copies d (copy_step c (record { from = m.from; body = m.body })).copy ok.copies next.copy;
      wire = Each-append IsLegalSent g.wire (copy_step c (record { from = m.from; body = m.body })).sent ok.wire next.sent;
    }

answered_sane : (g : Group) (b : Body) → AllSane g → AllSane (answered g b)
answered_sane g (Reply id reply) ok = by_test (is_answered g.answers id) g (record g { answers = g.answers ++ record { id = id; reply = reply } ∷ [] }) ok (record { copies = ok.copies; wire = ok.wire })
answered_sane g (Interval sets) ok = ok
answered_sane g (Query n) ok = ok
answered_sane g (Info n base log) ok = ok
answered_sane g (Install n log) ok = ok
answered_sane g (Installed n) ok = ok
answered_sane g (Append n place s) ok = ok
answered_sane g (Appended n place) ok = ok
answered_sane g (Request s) ok = ok
answered_sane g (NotHere id) ok = ok

arrives_sane : (g : Group) (m : Sent) (p : Party) → AllSane g → IsLegalSent m → AllSane (arrives g m p)
arrives_sane g m Client ok legal = answered_sane g m.body ok
arrives_sane g m (Osd d) ok legal = by_test (is_in g.up d) (copy_hears g m d (slice_get g.copies d)) g (hears_sane g m d (slice_get g.copies d) refl ok legal) ok

without_sane : (g : Group) (k : ℕ) → AllSane g → AllSane (without g k)
without_sane g k ok = record { copies = ok.copies; wire = Each-remove IsLegalSent g.wire k ok.wire }

deliver_sane : (g : Group) (k : ℕ) (found : Option Sent) → slice_get g.wire k ≡ found → AllSane g → AllSane (deliver g k found)
deliver_sane g k None is ok = ok
deliver_sane g k (Some m) is ok = arrives_sane (without g k) m m.to (without_sane g k ok) (Each-get IsLegalSent g.wire k m ok.wire is)

lose_sane : (g : Group) (k : ℕ) (found : Option Sent) → AllSane g → AllSane (lose g k found)
lose_sane g k None ok = ok
lose_sane g k (Some m) ok = without_sane g k ok

again_sane : (g : Group) (k : ℕ) (found : Option Sent) → slice_get g.wire k ≡ found → AllSane g → AllSane (again g found)
again_sane g k None is ok = ok
again_sane g k (Some m) is ok = record { copies = ok.copies; wire = Each-push IsLegalSent g.wire m ok.wire (Each-get IsLegalSent g.wire k m ok.wire is) }

submit_sane : (g : Group) (s : Sealed) → AllSane g → AllSane (submit g s)
submit_sane g s ok = by_test (is_submitted g.requests s.id) g (if has_all_requests g then g else take_request g s) ok (by_test (has_all_requests g) g (take_request g s) ok
    (record { copies = ok.copies; wire = Each-append IsLegalSent g.wire (to_primary (last_set g.sets) (Request s ∷ [])) ok.wire (tell_first_legal (last_set g.sets) (Request s ∷ []) (tt, tt)) }))

with_up_sane : (g : Group) (up : List ℕ) → AllSane g → AllSane (with_up g up)
with_up_sane g up ok = record { copies = Each-map IsSane IsSane (λ c. if is_in g.up c.number && not (is_in up c.number) then restarted c else c) (λ c p. restarted_if_sane (is_in g.up c.number && not (is_in up c.number)) c p) g.copies ok.copies; wire = ok.wire }

restart_sane : (g : Group) (d : ℕ) → AllSane g → AllSane (restart g d)
restart_sane g d ok =
    let next : AllSane (record g { copies = map (λ c. if c.number == d then restarted c else c) g.copies }) =
    record { copies = Each-map IsSane IsSane (λ c. if c.number == d then restarted c else c) (λ c p. restarted_if_sane (c.number == d) c p) g.copies ok.copies; wire = ok.wire } in
    by_test (is_in (last_set g.sets) d) (if has_all_intervals g then g else begin (record g { copies = map (λ c. if c.number == d then restarted c else c) g.copies }) (last_set g.sets)) (record g { copies = map (λ c. if c.number == d then restarted c else c) g.copies })
    (by_test (has_all_intervals g) g (begin (record g { copies = map (λ c. if c.number == d then restarted c else c) g.copies }) (last_set g.sets)) ok (begin_sane (record g { copies = map (λ c. if c.number == d then restarted c else c) g.copies }) (last_set g.sets) next)) next

kick_first_legal : (g : Group) (ds : List ℕ) → AllSane g → Each IsLegalSent (retransmit_of g ds)
kick_first_legal g [] ok = tt
kick_first_legal g (d ∷ ds) ok = found (slice_get g.copies d) refl
  where
    found : (c : Option Daemon) → slice_get g.copies d ≡ c → Each IsLegalSent (retransmit_from c)
    found None is = tt
    found (Some c) is = kicked_legal c (Each-get IsSane g.copies d c ok.copies is)

kick_sane : (g : Group) → AllSane g → AllSane (kick g)
kick_sane g ok = record {
  copies = ok.copies;
  wire = Each-append IsLegalSent (g.wire ++ announced_by g ++ retransmit_of g (last_set g.sets)) (resent_by g)
      (Each-append IsLegalSent (g.wire ++ announced_by g) (retransmit_of g (last_set g.sets))
      (Each-append IsLegalSent g.wire (announced_by g) ok.wire (announce_legal g)) (kick_first_legal g (last_set g.sets) ok))
      (resend_legal g);
}

pub step_sane : (e : Event) (g : Group) → AllSane g → AllSane (group_step g e)
step_sane (Submit s) g ok = submit_sane g s ok
step_sane (Deliver k) g ok = deliver_sane g k (slice_get g.wire k) refl ok
step_sane (Lose k) g ok = lose_sane g k (slice_get g.wire k) ok
step_sane (Repeat k) g ok = again_sane g k (slice_get g.wire k) refl ok
step_sane (NewInterval acting up) g ok = by_test (same_set acting (last_set g.sets)) (with_up g up) (if has_all_intervals g then g else begin (with_up g up) acting) (with_up_sane g up ok)
    (by_test (has_all_intervals g) g (begin (with_up g up) acting) ok (begin_sane (with_up g up) acting (with_up_sane g up ok)))
step_sane (Restart d) g ok = restart_sane g d ok
step_sane Kick g ok = kick_sane g ok

pub run_sane : (es : List Event) (g : Group) → AllSane g → AllSane (run es g)
run_sane [] g ok = ok
run_sane (e ∷ es) g ok = run_sane es (group_step g e) (step_sane e g ok)

pub start_sane : (group : GroupId) (min_size count : ℕ) (acting up : List ℕ) → AllSane (start group min_size count acting up)
start_sane group min_size count acting up = begin_sane (record {
  group = group;
  min_size = min_size;
  copies = map (blank min_size) (take count daemons);
  wire = [];
  sets = [];
  up = up;
  requests = [];
  answers = [];
  audit = [];
}) acting (record { copies = Each-map_all IsSane (blank min_size) (blank_sane min_size) (take count daemons); wire = tt })
