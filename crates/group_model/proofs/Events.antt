-- Each event keeps the two groups in step.
use Rattle.std.proofs.Common.{ℕ, ◌≡◌, ◌≤◌, Bool, true, false, not, ◌==◌, ◌&&◌, List, [], ◌∷◌, ◌++◌, map, take, refl, sym, ap, subst, arith, inl, inr, if◌then◌else◌}
use Rattle.std.specs.Prelude.{Option, Some, None, slice_get, slice_set}
use Rattle.std.specs.List.{filter, remove}
use Rattle.std.proofs.lemmas.Bool.{cases_eq}
use Rattle.entry_core.specs.Log.{is_in, ids}
use Rattle.store_core.specs.Request.{Sealed}
use Rattle.store_core.specs.declared.entry.Entry.{Entry}
use Rattle.store_core.specs.declared.sealed.GroupId.{GroupId}
use Rattle.group_model_whole.specs.ActingSets.{daemons}
use Rattle.group_model_whole.specs.Copy.{copy_step as whole_copy_step, retransmit as whole_retransmit}
use Rattle.group_model_whole.specs.Steps.{blank as whole_blank, restarted as whole_restarted}
use Rattle.group_model_whole.specs.Types.{Idle as WholeIdle, Daemon, Body as WholeBody, Interval as WholeInterval, Request as WholeRequest, Sent as WholeSent, Party, Osd, Client}
use Rattle.group_model_whole.specs.Each.{Each}
use Rattle.group_model_whole.specs.Group.{Group as WholeGroup, Event, Submit, Deliver, Lose, Repeat, NewInterval, Restart, Kick, last_set, is_answered, is_submitted, same_set, to_daemon as whole_to_daemon, to_primary as whole_to_primary, steps as whole_steps, answered as whole_answered, copy_hears as whole_copy_hears, arrives as whole_arrives, without as whole_without, deliver as whole_deliver, lose as whole_lose, again as whole_again, take_request as whole_take_request, submit as whole_submit, begin as whole_begin, with_up as whole_with_up, new_interval as whole_new_interval, restart as whole_restart, retransmit_from as whole_retransmit_from, retransmit_primary as whole_retransmit_primary, kick as whole_kick, group_step as whole_group_step, run as whole_run, start as whole_start}
use Rattle.group_model_whole.specs.Asked.{IsAsked, InLog, InCopy, InBody}
use Rattle.group_messages.specs.Answers.{Answer}
use Rattle.group_model_whole.specs.History.{History, IsSound}
use Rattle.group_model_whole.proofs.Eaches.{Each-get, Each-map_all}
use Rattle.group_model_whole.proofs.Invariant.{CopyOk, SentOk}
use Rattle.group_model_whole.proofs.Groups.{Good, step_good, start_good, empty_good}
use Rattle.group_model_whole.proofs.Kept.{Kept, run_kept, start_kept}
use Rattle.group_model.specs.Types.{Body, Interval, Query, Info, Install, Installed, Append, Appended, Request, Reply, NotHere, Sent, Copy}
use Rattle.peer_core.specs.Steps.{blank, restarted}
use Rattle.peer_core.specs.Copy.{copy_step, retransmit}
use Rattle.group_model.specs.Group.{Group, to_daemon, to_primary, steps, answered, copy_hears, arrives, without, deliver, lose, again, has_all_requests, has_all_intervals, take_request, submit, announced, begin, with_up, new_interval, restart, retransmit_from, retransmit_primary, kick, group_step, run, start}
use Rattle.group_model.specs.Standing.{Both}
use Rattle.group_model.proofs.Agreeing.{BodyAgrees, SentAgrees, CopyAgrees}
use Rattle.group_model.proofs.Lists.{IfBoth, Both-get, Both-map}
use Rattle.group_model.proofs.Kicks.{kicked_ok, kick_agrees}
use Rattle.group_model.proofs.Locked.{twin, Agree, agree_if, primary_agrees, primary_ok, facts_more, facts_without, facts_request, facts_longer, facts_restarts}
use Rattle.group_model.proofs.Hearing.{Heard, heard}

-- requests

submit_agrees : (g : Group) (ws : List Daemon) (ms : List WholeSent) (s : Sealed) → Agree g (twin g ws ms) → Agree (submit g s) (whole_submit (twin g ws ms) s)
submit_agrees g ws ms s a =
    agree_if (is_submitted g.requests s.id) g (if has_all_requests g then g else take_request g s) (twin g ws ms) (if has_all_requests g then twin g ws ms else whole_take_request (twin g ws ms) s) a
    (agree_if (has_all_requests g) g (take_request g s) (twin g ws ms) (whole_take_request (twin g ws ms) s) a taken)
  where
    taken : Agree (take_request g s) (whole_take_request (twin g ws ms) s)
    taken =
        let f = facts_request g.min_size g.sets g.requests g.copies g.wire ws ms a.facts s in
        record {
          is = refl;
          facts = facts_more g.min_size g.sets (g.requests ++ s ∷ []) g.copies g.wire ws ms f (to_primary (last_set g.sets) (Request s ∷ [])) (whole_to_primary (last_set g.sets) (WholeRequest s ∷ [])) (primary_agrees f.promise f.h (last_set g.sets) (s ∷ [])) (primary_ok g.sets f.promise f.h (last_set g.sets) (s ∷ []));
        }

-- messages

lost : (g : Group) (ws : List Daemon) (ms : List WholeSent) (k : ℕ) → Agree g (twin g ws ms) → Agree (without g k) (whole_without (twin g ws ms) k)
lost g ws ms k a = record { is = refl; facts = facts_without g.min_size g.sets g.requests g.copies g.wire ws ms a.facts k }

answered_agrees : (g : Group) (ws : List Daemon) (ms : List WholeSent) (p : ℕ → ℕ) (h : History) (from to : Party) (b : Body) (b' : WholeBody) → BodyAgrees p h from to b b' → Agree g (twin g ws ms) → Agree (answered g b) (whole_answered (twin g ws ms) b')
answered_agrees g ws ms p h from to (Interval sets) b' is a = subst (λ v. Agree g (whole_answered (twin g ws ms) v)) (sym is) a
answered_agrees g ws ms p h from to (Query n len end) b' is a = subst (λ v. Agree g (whole_answered (twin g ws ms) v)) (sym is.0) a
answered_agrees g ws ms p h from to (Info n base start part) b' is a = subst (λ v. Agree g (whole_answered (twin g ws ms) v)) (sym is.is) a
answered_agrees g ws ms p h from to (Install n start part) b' is a = subst (λ v. Agree g (whole_answered (twin g ws ms) v)) (sym is.is) a
answered_agrees g ws ms p h from to (Installed n) b' is a = subst (λ v. Agree g (whole_answered (twin g ws ms) v)) (sym is) a
answered_agrees g ws ms p h from to (Append n place s) b' is a = subst (λ v. Agree g (whole_answered (twin g ws ms) v)) (sym is) a
answered_agrees g ws ms p h from to (Appended n place) b' is a = subst (λ v. Agree g (whole_answered (twin g ws ms) v)) (sym is) a
answered_agrees g ws ms p h from to (Request s) b' is a = subst (λ v. Agree g (whole_answered (twin g ws ms) v)) (sym is) a
answered_agrees g ws ms p h from to (NotHere id) b' is a = subst (λ v. Agree g (whole_answered (twin g ws ms) v)) (sym is) a
answered_agrees g ws ms p h from to (Reply id reply) b' is a = subst (λ v. Agree (answered g (Reply id reply)) (whole_answered (twin g ws ms) v)) (sym is) (go (is_answered g.answers id))
  where
    more : List Answer
    more = g.answers ++ record { id = id; reply = reply } ∷ []

    go : (b : Bool) → Agree (if b then g else record g { answers = g.answers ++ record { id = id; reply = reply } ∷ [] }) (if b then twin g ws ms else record (twin g ws ms) { answers = g.answers ++ record { id = id; reply = reply } ∷ [] })
    go true = a
    go false = record { is = refl; facts = a.facts }

hears_agrees : (g : Group) (ws : List Daemon) (ms : List WholeSent) (m : Sent) (m' : WholeSent) (d : ℕ) (found : Option Copy) (found' : Option Daemon) (a : Agree g (twin g ws ms)) → slice_get ws d ≡ found' →
    IfBoth (CopyAgrees a.facts.promise a.facts.h) found found' → m'.from ≡ m.from → BodyAgrees a.facts.promise a.facts.h m.from (Osd d) m.body m'.body →
    ((w : Daemon) → slice_get ws d ≡ Some w → InCopy (IsAsked g.requests) w) → InBody (IsAsked g.requests) m'.body → SentOk g.sets a.facts.promise a.facts.h m' →
    Agree (copy_hears g m d found) (whole_copy_hears (twin g ws ms) m' d found')
hears_agrees g ws ms m m' d None None a is agrees from says asked asks good = a
hears_agrees g ws ms m m' d None (Some w) a is agrees from says asked asks good = absurd agrees
hears_agrees g ws ms m m' d (Some c) None a is agrees from says asked asks good = absurd agrees
hears_agrees g ws ms m m' d (Some c) (Some w) a is agrees from says asked asks good =
    let t = heard g.min_size g.sets g.requests g.copies g.wire ws ms a.facts d c w is agrees (asked w is) m.body m'.body m'.from
    (subst (λ v. BodyAgrees a.facts.promise a.facts.h v (Osd d) m.body m'.body) (sym from) says) asks good in
    by_heard t
  where
    by_heard : Heard g.min_size g.sets g.requests g.copies g.wire ws ms d (copy_step c (record { from = m'.from; body = m.body })) (whole_copy_step w (record { from = m'.from; body = m'.body })) →
        Agree (steps g d (copy_step c (record { from = m.from; body = m.body }))) (whole_steps (twin g ws ms) d (whole_copy_step w (record { from = m'.from; body = m'.body })))
    by_heard t = subst (λ v. Agree (steps g d (copy_step c (record { from = v; body = m.body }))) (whole_steps (twin g ws ms) d (whole_copy_step w (record { from = m'.from; body = m'.body })))) from (record {
      is = ap (λ l. record (twin g (slice_set ws d (whole_copy_step w (record { from = m'.from; body = m'.body })).copy) (ms ++ (whole_copy_step w (record { from = m'.from; body = m'.body })).sent)) { audit = g.audit ++ filter (λ (e : Entry). not (is_in (ids g.audit) e.sealed.id)) l }) (sym t.shown);
      facts = t.facts;
    })

arrives_agrees : (g : Group) (ws : List Daemon) (ms : List WholeSent) (m : Sent) (m' : WholeSent) (to : Party) (a : Agree g (twin g ws ms)) → m'.from ≡ m.from → BodyAgrees a.facts.promise a.facts.h m.from to m.body m'.body →
    ((d : ℕ) (w : Daemon) → slice_get ws d ≡ Some w → InCopy (IsAsked g.requests) w) → InBody (IsAsked g.requests) m'.body → SentOk g.sets a.facts.promise a.facts.h m' →
    Agree (arrives g m to) (whole_arrives (twin g ws ms) m' to)
arrives_agrees g ws ms m m' Client a from says asked asks good = answered_agrees g ws ms a.facts.promise a.facts.h m.from Client m.body m'.body says a
arrives_agrees g ws ms m m' (Osd d) a from says asked asks good =
    agree_if (is_in g.up d) (copy_hears g m d (slice_get g.copies d)) g (whole_copy_hears (twin g ws ms) m' d (slice_get ws d)) (twin g ws ms)
    (hears_agrees g ws ms m m' d (slice_get g.copies d) (slice_get ws d) a refl (Both-get (CopyAgrees a.facts.promise a.facts.h) g.copies ws d a.facts.copies) from says (asked d) asks good) a

deliver_agrees : (g : Group) (ws : List Daemon) (ms : List WholeSent) (k : ℕ) (found : Option Sent) (found' : Option WholeSent) (a : Agree g (twin g ws ms)) → Kept (twin g ws ms) → slice_get ms k ≡ found' → IfBoth (SentAgrees a.facts.promise a.facts.h) found found' →
    Agree (deliver g k found) (whole_deliver (twin g ws ms) k found')
deliver_agrees g ws ms k None None a kept is says = a
deliver_agrees g ws ms k None (Some m') a kept is says = absurd says
deliver_agrees g ws ms k (Some m) None a kept is says = absurd says
deliver_agrees g ws ms k (Some m) (Some m') a kept is says =
    subst (λ v. Agree (arrives (without g k) m m.to) (whole_arrives (whole_without (twin g ws ms) k) m' v)) (sym says.to)
    (arrives_agrees (without g k) ws (remove ms k) m m' m.to (record { is = refl; facts = facts_without g.min_size g.sets g.requests g.copies g.wire ws ms a.facts k }) says.from
    says.body
    (λ d w here. Each-get (InCopy (IsAsked g.requests)) ws d w kept.asked.copies here)
    (Each-get (λ (v : WholeSent). InBody (IsAsked g.requests) v.body) ms k m' kept.asked.wire is)
    (Each-get (SentOk g.sets a.facts.promise a.facts.h) ms k m' a.facts.wire_ok is))

lose_agrees : (g : Group) (ws : List Daemon) (ms : List WholeSent) (k : ℕ) (found : Option Sent) (found' : Option WholeSent) (a : Agree g (twin g ws ms)) → IfBoth (SentAgrees a.facts.promise a.facts.h) found found' → Agree (lose g k found) (whole_lose (twin g ws ms) k found')
lose_agrees g ws ms k None None a says = a
lose_agrees g ws ms k None (Some m') a says = absurd says
lose_agrees g ws ms k (Some m) None a says = absurd says
lose_agrees g ws ms k (Some m) (Some m') a says = lost g ws ms k a

again_agrees : (g : Group) (ws : List Daemon) (ms : List WholeSent) (k : ℕ) (found : Option Sent) (found' : Option WholeSent) (a : Agree g (twin g ws ms)) → slice_get ms k ≡ found' → IfBoth (SentAgrees a.facts.promise a.facts.h) found found' → Agree (again g found) (whole_again (twin g ws ms) found')
again_agrees g ws ms k None None a is says = a
again_agrees g ws ms k None (Some m') a is says = absurd says
again_agrees g ws ms k (Some m) None a is says = absurd says
again_agrees g ws ms k (Some m) (Some m') a is says = record {
  is = refl;
  facts = facts_more g.min_size g.sets g.requests g.copies g.wire ws ms a.facts (m ∷ []) (m' ∷ []) (says, tt) (Each-get (SentOk g.sets a.facts.promise a.facts.h) ms k m' a.facts.wire_ok is, tt);
}

-- intervals

announced_agrees : (p : ℕ → ℕ) (h : History) (sets : List (List ℕ)) → Both (SentAgrees p h) (announced sets) (map (λ d. whole_to_daemon d (WholeInterval sets)) (last_set sets))
announced_agrees p h sets = Both-map (SentAgrees p h) (λ d. to_daemon d (Interval sets)) (λ d. whole_to_daemon d (WholeInterval sets)) (λ d. record { from = refl; to = refl; body = refl }) (last_set sets)

announced_ok : (p : ℕ → ℕ) (h : History) (sets : List (List ℕ)) → Each (SentOk sets p h) (map (λ d. whole_to_daemon d (WholeInterval sets)) (last_set sets))
announced_ok p h sets = Each-map_all (SentOk sets p h) (λ d. whole_to_daemon d (WholeInterval sets)) (λ d. record { fits = omega arith; same = λ j from upto. refl }) (last_set sets)

begin_agrees : (g : Group) (ws : List Daemon) (ms : List WholeSent) (acting : List ℕ) → Agree g (twin g ws ms) → Agree (begin g acting) (whole_begin (twin g ws ms) acting)
begin_agrees g ws ms acting a =
    let sets : List (List ℕ) = g.sets ++ acting ∷ [] in
    let unanswered : List Sealed = filter (λ s. not (is_answered g.answers s.id)) g.requests in
    let f = facts_longer g.min_size g.sets g.requests g.copies g.wire ws ms a.facts acting in
    let f' = facts_more g.min_size sets g.requests g.copies g.wire ws ms f (announced sets) (map (λ d. whole_to_daemon d (WholeInterval sets)) (last_set sets)) (announced_agrees f.promise f.h sets) (announced_ok f.promise f.h sets) in
    record {
      is = refl;
      facts = facts_more g.min_size sets g.requests g.copies (g.wire ++ announced sets) ws (ms ++ map (λ d. whole_to_daemon d (WholeInterval sets)) (last_set sets)) f'
          (to_primary (last_set sets) (map Request unanswered)) (whole_to_primary (last_set sets) (map WholeRequest unanswered))
          (primary_agrees f'.promise f'.h (last_set sets) unanswered) (primary_ok sets f'.promise f'.h (last_set sets) unanswered);
    }

with_up_agrees : (g : Group) (ws : List Daemon) (ms : List WholeSent) (up : List ℕ) → Agree g (twin g ws ms) → Agree (with_up g up) (whole_with_up (twin g ws ms) up)
with_up_agrees g ws ms up a = record { is = refl; facts = facts_restarts g.min_size g.sets g.requests g.copies g.wire ws ms a.facts (λ n. is_in g.up n && not (is_in up n)) }

interval_agrees : (g : Group) (ws : List Daemon) (ms : List WholeSent) (acting up : List ℕ) → Agree g (twin g ws ms) → Agree (new_interval g acting up) (whole_new_interval (twin g ws ms) acting up)
interval_agrees g ws ms acting up a =
    agree_if (same_set acting (last_set g.sets)) (with_up g up) (if has_all_intervals g then g else begin (with_up g up) acting) (whole_with_up (twin g ws ms) up) (if has_all_intervals g then twin g ws ms else whole_begin (whole_with_up (twin g ws ms) up) acting)
    (with_up_agrees g ws ms up a)
    (agree_if (has_all_intervals g) g (begin (with_up g up) acting) (twin g ws ms) (whole_begin (whole_with_up (twin g ws ms) up) acting) a
    (begin_agrees (with_up g up) (whole_with_up (twin g ws ms) up).copies ms acting (with_up_agrees g ws ms up a)))

restarted_agrees : (g : Group) (ws : List Daemon) (ms : List WholeSent) (d : ℕ) → Agree g (twin g ws ms) → Agree (restart g d) (whole_restart (twin g ws ms) d)
restarted_agrees g ws ms d a =
    let f = facts_restarts g.min_size g.sets g.requests g.copies g.wire ws ms a.facts (λ n. n == d) in
    let h : Group = record g { copies = map (λ c. if c.number == d then restarted c else c) g.copies } in
    let ws' : List Daemon = map (λ w. if w.number == d then whole_restarted w else w) ws in
    let there : Agree h (twin h ws' ms) = record { is = refl; facts = f } in
    agree_if (is_in (last_set g.sets) d) (if has_all_intervals g then g else begin h (last_set g.sets)) h (if has_all_intervals g then twin g ws ms else whole_begin (twin h ws' ms) (last_set g.sets)) (twin h ws' ms)
    (agree_if (has_all_intervals g) g (begin h (last_set g.sets)) (twin g ws ms) (whole_begin (twin h ws' ms) (last_set g.sets)) a (begin_agrees h ws' ms (last_set g.sets) there))
    there

-- a kick

retransmitted : (g : Group) (ws : List Daemon) (ms : List WholeSent) (a : Agree g (twin g ws ms)) (found : Option Copy) (found' : Option Daemon) (d : ℕ) → slice_get ws d ≡ found' → IfBoth (CopyAgrees a.facts.promise a.facts.h) found found' →
    Both (SentAgrees a.facts.promise a.facts.h) (retransmit_from found) (whole_retransmit_from found') × Each (SentOk g.sets a.facts.promise a.facts.h) (whole_retransmit_from found')
retransmitted g ws ms a None None d is agrees = (tt, tt)
retransmitted g ws ms a None (Some w) d is agrees = absurd agrees
retransmitted g ws ms a (Some c) None d is agrees = absurd agrees
retransmitted g ws ms a (Some c) (Some w) d is agrees =
    let f = a.facts in
    let ok = f.copies_ok d w is in (
      subst (λ v. Both (SentAgrees f.promise f.h) (retransmit c) (whole_retransmit v)) (sym agrees.is)
          (kick_agrees g.min_size g.sets f.promise f.h d c agrees.role (subst (λ v. CopyOk g.min_size g.sets f.promise f.h d v) agrees.is ok) c.role agrees.agrees),
      kicked_ok g.min_size g.sets f.promise f.h d w w.role ok.state ok.role,
    )

retransmitted_by : (g : Group) (ws : List Daemon) (ms : List WholeSent) (a : Agree g (twin g ws ms)) (ds : List ℕ) →
    Both (SentAgrees a.facts.promise a.facts.h) (retransmit_primary g.copies ds) (whole_retransmit_primary ws ds) × Each (SentOk g.sets a.facts.promise a.facts.h) (whole_retransmit_primary ws ds)
retransmitted_by g ws ms a [] = (tt, tt)
retransmitted_by g ws ms a (d ∷ ds) = retransmitted g ws ms a (slice_get g.copies d) (slice_get ws d) d refl (Both-get (CopyAgrees a.facts.promise a.facts.h) g.copies ws d a.facts.copies)

kick_keeps : (g : Group) (ws : List Daemon) (ms : List WholeSent) → Agree g (twin g ws ms) → Agree (kick g) (whole_kick (twin g ws ms))
kick_keeps g ws ms a =
    let f = a.facts in
    let sent = retransmitted_by g ws ms a (last_set g.sets) in
    let unanswered : List Sealed = filter (λ s. not (is_answered g.answers s.id)) g.requests in
    let announcements : List WholeSent = map (λ d. whole_to_daemon d (WholeInterval g.sets)) (last_set g.sets) in
    let f' = facts_more g.min_size g.sets g.requests g.copies g.wire ws ms f (announced g.sets) announcements (announced_agrees f.promise f.h g.sets) (announced_ok f.promise f.h g.sets) in
    let f'' = facts_more g.min_size g.sets g.requests g.copies (g.wire ++ announced g.sets) ws (ms ++ announcements) f' (retransmit_primary g.copies (last_set g.sets)) (whole_retransmit_primary ws (last_set g.sets)) sent.0 sent.1 in
    record {
      is = refl;
      facts = facts_more g.min_size g.sets g.requests g.copies (g.wire ++ announced g.sets ++ retransmit_primary g.copies (last_set g.sets)) ws (ms ++ announcements ++ whole_retransmit_primary ws (last_set g.sets)) f''
          (to_primary (last_set g.sets) (map Request unanswered)) (whole_to_primary (last_set g.sets) (map WholeRequest unanswered))
          (primary_agrees f''.promise f''.h (last_set g.sets) unanswered) (primary_ok g.sets f''.promise f''.h (last_set g.sets) unanswered);
    }

-- any event

twin_step : (g : Group) (ws : List Daemon) (ms : List WholeSent) (e : Event) → Kept (twin g ws ms) → Agree g (twin g ws ms) → Agree (group_step g e) (whole_group_step (twin g ws ms) e)
twin_step g ws ms (Submit s) kept a = submit_agrees g ws ms s a
twin_step g ws ms (Deliver k) kept a = deliver_agrees g ws ms k (slice_get g.wire k) (slice_get ms k) a kept refl (Both-get (SentAgrees a.facts.promise a.facts.h) g.wire ms k a.facts.wire)
twin_step g ws ms (Lose k) kept a = lose_agrees g ws ms k (slice_get g.wire k) (slice_get ms k) a (Both-get (SentAgrees a.facts.promise a.facts.h) g.wire ms k a.facts.wire)
twin_step g ws ms (Repeat k) kept a = again_agrees g ws ms k (slice_get g.wire k) (slice_get ms k) a refl (Both-get (SentAgrees a.facts.promise a.facts.h) g.wire ms k a.facts.wire)
twin_step g ws ms (NewInterval acting up) kept a = interval_agrees g ws ms acting up a
twin_step g ws ms (Restart d) kept a = restarted_agrees g ws ms d a
twin_step g ws ms Kick kept a = kick_keeps g ws ms a

-- the two groups, with all that is known of the one that sends whole logs
pub record Lock (g : Group) (w : WholeGroup) : Type 0 where
  pub good : Good w
  pub kept : Kept w
  pub agree : Agree g w

pub step_locked : (g : Group) (w : WholeGroup) (e : Event) → Lock g w → Lock (group_step g e) (whole_group_step w e)
step_locked g w e l = record {
  good = step_good e w l.good;
  kept = run_kept (e ∷ []) w l.good l.kept;
  agree = subst (λ v. Kept v → Agree g v → Agree (group_step g e) (whole_group_step v e)) (sym l.agree.is) (twin_step g w.copies w.wire e) l.kept l.agree;
}

pub run_locked : (es : List Event) (g : Group) (w : WholeGroup) → Lock g w → Lock (run es g) (whole_run es w)
run_locked [] g w l = l
run_locked (e ∷ es) g w l = run_locked es (group_step g e) (whole_group_step w e) (step_locked g w e l)

-- the beginning

abbrev empty_group : GroupId → ℕ → ℕ → List ℕ → Group
empty_group group z count up = record { group = group; min_size = z; copies = map (blank z) (take count daemons); wire = []; sets = []; up = up; requests = []; answers = []; audit = [] }

-- no interval has a log before the first
nothing_grown : (p : ℕ → ℕ) (z : ℕ) (h : History) → IsSound p z [] h → (n : ℕ) → h.grown n ≡ []
nothing_grown p z h sound n = elim (cases_eq n 0) [
  | inl none ↦ subst (λ v. h.grown v ≡ []) (sym none) sound.zero_grown
  | inr some ↦ sound.empty n (go (h.chosen n) refl (omega arith))
]
  where
    go : (found : Option (List Entry)) → h.chosen n ≡ found → 1 ≤ n → h.chosen n ≡ None
    go None is later = is
    go (Some log) is later = (let o = sound.opened n log later is in absurd (omega (arith, o.is_interval)))

empty_agrees : (group : GroupId) (z count : ℕ) (up : List ℕ) → Agree (empty_group group z count up) (twin (empty_group group z count up) (map (whole_blank z) (take count daemons)) [])
empty_agrees group z count up =
    let good = empty_good group z count up in
    record {
      is = refl;
      facts = record {
        promise = good.promise;
        h = good.h;
        sound = good.sound;
        copies_ok = good.copies;
        wire_ok = tt;
        asked = λ n. subst (λ l. InLog (IsAsked []) l) (sym (nothing_grown good.promise z good.h good.sound n)) tt;
        copies = Both-map (CopyAgrees good.promise good.h) (blank z) (whole_blank z) (λ d. record { role = WholeIdle; is = refl; agrees = refl }) (take count daemons);
        wire = tt;
      };
    }

pub start_locked : (group : GroupId) (z count : ℕ) (acting up : List ℕ) → Lock (start group z count acting up) (whole_start group z count acting up)
start_locked group z count acting up = record {
  good = start_good group z count acting up;
  kept = start_kept group z count acting up;
  agree = begin_agrees (empty_group group z count up) (map (whole_blank z) (take count daemons)) [] acting (empty_agrees group z count up);
}

pub reached_locked : (group : GroupId) (z count : ℕ) (acting up : List ℕ) (es : List Event) → Lock (run es (start group z count acting up)) (whole_run es (whole_start group z count acting up))
reached_locked group z count acting up es = run_locked es (start group z count acting up) (whole_start group z count acting up) (start_locked group z count acting up)
