-- Each event keeps what a group holds of requests, replies and limits.
use Rattle.std.proofs.Common.{ℕ, ◌≡◌, ◌≤◌, ◌<◌, ◌-◌, Bool, true, false, not, ◌==◌, ◌||◌, ◌&&◌, nat_lt, List, [], ◌∷◌, ◌++◌, map, length, take, refl, sym, ap, subst, arith, length-append, if◌then◌else◌}
use Rattle.std.specs.Prelude.{Option, Some, None, slice_get}
use Rattle.std.specs.List.{filter}
use Rattle.std.proofs.lemmas.Bool.{eqb-true, eqb-false, ne_eqb, eq-eqb, ltb-true, not-false, and_parts, both_ways}
use Rattle.entry_core.specs.Log.{is_in, ids, Legal}
use Rattle.store_core.specs.Request.{Sealed}
use Rattle.store_core.specs.declared.entry.Entry.{Entry}
use Rattle.group_model_whole.specs.Steps.{Stepped, blank, restarted}
use Rattle.group_model_whole.specs.Copy.{copy_step}
use Rattle.group_model_whole.specs.ActingSets.{daemons}
use Rattle.store_core.specs.declared.sealed.GroupId.{GroupId}
use Rattle.group_model_whole.specs.Group.{Group, Answer, Event, Submit, Deliver, Lose, Repeat, NewInterval, Restart, Kick, retransmit_from, last_set, open_requests, is_answered, answer_of, to_daemon, to_primary, audit_after, steps, answered, copy_hears, arrives, without, deliver, lose, again, submitted, is_submitted, has_all_requests, has_all_intervals, take_request, is_distinct, submit, resent_by, announced_by, begin, with_up, same_set, new_interval, restart, retransmit_of, kick, group_step, run, start}
use Rattle.group_model_whole.specs.Decided.{decided_by}
use Rattle.group_model_whole.specs.Types.{Role, Idle, Peering, Installing, Active, Daemon, Body, Interval, Query, Info, Install, Installed, Append, Appended, Request, Reply, NotHere, Party, Osd, Client, Sent, EntryReply}
use Rattle.group_model_whole.specs.Each.{Each}
use Rattle.group_model_whole.specs.History.{Begins}
use Rattle.group_model_whole.specs.Asked.{IsAsked, InLog, InRole, InCopy, InBody, AllAsked, IsReplied, InReply}
use Rattle.group_model_whole.proofs.Clients.{Takes, run_holds}
use Rattle.group_model_whole.proofs.Eaches.{Each-append, Each-push, Each-remove, Each-set, Each-get, Each-map, Each-map_all, Each-take, Each-weaker}
use Rattle.group_model_whole.proofs.Logs.{LegalFrom-front}
use Rattle.group_model_whole.proofs.Invariant.{SentOk}
use Rattle.group_model_whole.proofs.Asks.{comes_in, kicked_in}
use Rattle.group_model_whole.proofs.Replies.{comes_replies, kicked_replies, InReply-longer, IsReplied-longer}
use Rattle.group_model_whole.proofs.Groups.{Good, get-set_same, hears_good, without_good, step_good, run-append}

-- lists

Each-filter : {X : Type 0} (P : X → Type 0) (f : X → Bool) (xs : List X) → Each P xs → Each P (filter f xs)
Each-filter P f [] each = tt
Each-filter P f (x ∷ xs) each = go (f x) (Each-filter P f xs each.1)
  where
    go : (b : Bool) → Each P (filter f xs) → Each P (if b then x ∷ filter f xs else filter f xs)
    go true rest = (each.0, rest)
    go false rest = rest

InLog-weaker : (P Q : Sealed → Type 0) → ((s : Sealed) → P s → Q s) → (log : List Entry) → InLog P log → InLog Q log
InLog-weaker P Q to log each = Each-weaker (λ e. P e.sealed) (λ e. Q e.sealed) (λ e. to e.sealed) log each

InRole-weaker : (P Q : Sealed → Type 0) → ((s : Sealed) → P s → Q s) → (r : Role) → InRole P r → InRole Q r
InRole-weaker P Q to Idle ok = tt
InRole-weaker P Q to (Peering informed) ok = Each-weaker (λ i. InLog P i.log) (λ i. InLog Q i.log) (λ i. InLog-weaker P Q to i.log) informed ok
InRole-weaker P Q to (Installing done) ok = tt
InRole-weaker P Q to (Active flight) ok = tt

InCopy-weaker : (P Q : Sealed → Type 0) → ((s : Sealed) → P s → Q s) → (c : Daemon) → InCopy P c → InCopy Q c
InCopy-weaker P Q to c ok = record { log = InLog-weaker P Q to c.log ok.log; waiting = Each-weaker P Q to c.waiting ok.waiting; role = InRole-weaker P Q to c.role ok.role }

InBody-weaker : (P Q : Sealed → Type 0) → ((s : Sealed) → P s → Q s) → (b : Body) → InBody P b → InBody Q b
InBody-weaker P Q to (Interval sets) ok = tt
InBody-weaker P Q to (Query n) ok = tt
InBody-weaker P Q to (Info n base log) ok = InLog-weaker P Q to log ok
InBody-weaker P Q to (Install n log) ok = InLog-weaker P Q to log ok
InBody-weaker P Q to (Installed n) ok = tt
InBody-weaker P Q to (Append n place s) ok = to s ok
InBody-weaker P Q to (Appended n place) ok = tt
InBody-weaker P Q to (Request s) ok = to s ok
InBody-weaker P Q to (Reply id reply) ok = tt
InBody-weaker P Q to (NotHere id) ok = tt

-- finding a request by its number

submitted-append : (xs ys : List Sealed) (id : ℕ) (s : Sealed) → submitted xs id ≡ Some s → submitted (xs ++ ys) id ≡ Some s
submitted-append [] ys id s is = absurd (cc)
submitted-append (x ∷ xs) ys id s is = go (x.id == id) is (submitted-append xs ys id s)
  where
    go : (b : Bool) → (if b then Some x else submitted xs id) ≡ Some s → (submitted xs id ≡ Some s → submitted (xs ++ ys) id ≡ Some s) → (if b then Some x else submitted (xs ++ ys) id) ≡ Some s
    go true here rest = here
    go false there rest = rest there

submitted-push : (xs : List Sealed) (s : Sealed) → is_submitted xs s.id ≡ false → submitted (xs ++ s ∷ []) s.id ≡ Some s
submitted-push [] s new = rw (eq-eqb s.id s.id refl) refl
submitted-push (x ∷ xs) s new = go (x.id == s.id) new (submitted-push xs s)
  where
    go : (b : Bool) → (b || is_submitted xs s.id) ≡ false → (is_submitted xs s.id ≡ false → submitted (xs ++ s ∷ []) s.id ≡ Some s) → (if b then Some x else submitted (xs ++ s ∷ []) s.id) ≡ Some s
    go true bad rest = absurd (cc)
    go false new rest = rest new

-- numbers, each once

is_in-push : (xs : List ℕ) (x y : ℕ) → is_in xs x ≡ false → (y == x) ≡ false → is_in (xs ++ y ∷ []) x ≡ false
is_in-push [] x y new other = rw other refl
is_in-push (z ∷ xs) x y new other = go (z == x) new (λ later. is_in-push xs x y later other)
  where
    go : (b : Bool) → (b || is_in xs x) ≡ false → (is_in xs x ≡ false → is_in (xs ++ y ∷ []) x ≡ false) → (b || is_in (xs ++ y ∷ []) x) ≡ false
    go true bad rest = absurd (cc)
    go false new rest = rest new

distinct-push : (rs : List Sealed) (s : Sealed) → is_distinct (map (λ r. r.id) rs) ≡ true → is_submitted rs s.id ≡ false → is_distinct (map (λ r. r.id) (rs ++ s ∷ [])) ≡ true
distinct-push [] s once new = refl
distinct-push (r ∷ rs) s once new =
    let parts = and_parts (not (is_in (map (λ r. r.id) rs) r.id)) (is_distinct (map (λ r. r.id) rs)) once in
    go (r.id == s.id) refl new parts.0 (λ later. distinct-push rs s parts.1 later)
  where
    ids-push : (xs : List Sealed) → map (λ r. r.id) (xs ++ s ∷ []) ≡ map (λ r. r.id) xs ++ s.id ∷ []
    ids-push [] = refl
    ids-push (x ∷ xs) = ap (λ l. x.id ∷ l) (ids-push xs)

    fresh : (b : Bool) → is_in (map (λ r. r.id) rs) r.id ≡ b → not b ≡ true → is_in (map (λ r. r.id) rs) r.id ≡ false
    fresh true e bad = absurd (both_ways false refl bad)
    fresh false e ok = e

    go : (b : Bool) → (r.id == s.id) ≡ b → (b || is_submitted rs s.id) ≡ false → not (is_in (map (λ r. r.id) rs) r.id) ≡ true → (is_submitted rs s.id ≡ false → is_distinct (map (λ r. r.id) (rs ++ s ∷ [])) ≡ true) →
        (not (is_in (map (λ r. r.id) (rs ++ s ∷ [])) r.id) && is_distinct (map (λ r. r.id) (rs ++ s ∷ []))) ≡ true
    go true e bad first rest = absurd (cc)
    go false e new first rest =
        let here : is_in (map (λ r. r.id) (rs ++ s ∷ [])) r.id ≡ false =
        subst (λ l. is_in l r.id ≡ false) (sym (ids-push rs)) (is_in-push (map (λ r. r.id) rs) r.id s.id (fresh (is_in (map (λ r. r.id) rs) r.id) refl first) (ne_eqb s.id r.id (λ same. eqb-false r.id s.id e (sym same)))) in
        rw here (rest new)

pub record Kept (g : Group) : Type 0 where
  pub asked : AllAsked g
  pub once : is_distinct (map (λ r. r.id) g.requests) ≡ true
  pub replies : Each (λ m. InReply g.audit m.body) g.wire
  pub answers : Each (λ a. IsReplied g.audit a.id a.reply) g.answers
  pub room : length g.requests ≤ 16384
  pub intervals : length g.sets ≤ 1024

-- a message of the group
abbrev IsFine : Group → Body → Type 0
IsFine g b = InBody (IsAsked g.requests) b × InReply g.audit b

abbrev Fine : Group → Sent → Type 0
Fine g m = IsFine g m.body

by_test : (b : Bool) (x y : Group) → Kept x → Kept y → Kept (if b then x else y)
by_test true x y p q = p
by_test false x y p q = q

-- more messages
sends : (g : Group) (more : List Sent) → Kept g → Each (λ m. InBody (IsAsked g.requests) m.body) more → Each (λ m. InReply g.audit m.body) more → Kept (record g { wire = g.wire ++ more })
sends g more kept asks replies = record {
  asked = record {
    requests = kept.asked.requests;
    copies = kept.asked.copies;
    wire = Each-append (λ m. InBody (IsAsked g.requests) m.body) g.wire more kept.asked.wire asks;
    audit = kept.asked.audit;
  };
  once = kept.once;
  replies = Each-append (λ m. InReply g.audit m.body) g.wire more kept.replies replies;
  answers = kept.answers;
  room = kept.room;
  intervals = kept.intervals;
}

shown_asked : (P : Sealed → Type 0) (r : Role) (log : List Entry) → InLog P log → InLog P (decided_by r log)
shown_asked P Idle log each = tt
shown_asked P (Peering informed) log each = tt
shown_asked P (Installing done) log each = tt
shown_asked P (Active None) log each = each
shown_asked P (Active (Some holders)) log each = Each-take (λ e. P e.sealed) (length log - 1) log each

hears_kept : (g : Group) (m : Sent) (d : ℕ) (c : Daemon) (good : Good g) → slice_get g.copies d ≡ Some c → SentOk g.sets good.promise good.h m → Kept g → Fine g m →
    Kept (steps g d (copy_step c (record { from = m.from; body = m.body })))
hears_kept g m d c good here ok kept fine =
    let s : Stepped = copy_step c (record { from = m.from; body = m.body }) in
    let P : Sealed → Type 0 = IsAsked g.requests in
    let state = (good.copies d c here).state in
    let legal : Legal c.log = LegalFrom-front [] c.log state.within.rest (subst (λ l. Legal l) (sym state.within.whole) (good.sound.legal c.base)) in
    let next = comes_in (IsAsked g.requests) m.body c m.from (Each-get (InCopy (IsAsked g.requests)) g.copies d c kept.asked.copies here) fine.0 in
    let covers : Begins (decided_by s.copy.role s.copy.log) (audit_after g.audit s.copy) = (hears_good g m d c good here ok).covers d s.copy (get-set_same g.copies d c s.copy here) in
    let longer : Begins g.audit (audit_after g.audit s.copy) = record { rest = filter (λ v. not (is_in (ids g.audit) v.sealed.id)) (decided_by s.copy.role s.copy.log); whole = refl } in
    record {
      asked = record {
        requests = kept.asked.requests;
        copies = Each-set (InCopy (IsAsked g.requests)) g.copies d s.copy kept.asked.copies next.copy;
        wire = Each-append (λ m. InBody (IsAsked g.requests) m.body) g.wire s.sent kept.asked.wire next.sent;
        audit = Each-append (λ e. IsAsked g.requests e.sealed) g.audit (filter (λ e. not (is_in (ids g.audit) e.sealed.id)) (decided_by s.copy.role s.copy.log)) kept.asked.audit
            (Each-filter (λ e. IsAsked g.requests e.sealed) (λ e. not (is_in (ids g.audit) e.sealed.id)) (decided_by s.copy.role s.copy.log) (shown_asked (IsAsked g.requests) s.copy.role s.copy.log next.copy.log));
      };
      once = kept.once;
      replies = Each-append (λ m. InReply (audit_after g.audit s.copy) m.body) g.wire s.sent
          (Each-weaker (λ m. InReply g.audit m.body) (λ m. InReply (audit_after g.audit s.copy) m.body) (λ m. InReply-longer longer m.body) g.wire kept.replies)
          (Each-weaker (λ m. InReply (decided_by s.copy.role s.copy.log) m.body) (λ m. InReply (audit_after g.audit s.copy) m.body) (λ m. InReply-longer covers m.body) s.sent (comes_replies m.body c m.from legal));
      answers = Each-weaker (λ a. IsReplied g.audit a.id a.reply) (λ a. IsReplied (audit_after g.audit s.copy) a.id a.reply) (λ a. IsReplied-longer longer a.id a.reply) g.answers kept.answers;
      room = kept.room;
      intervals = kept.intervals;
    }

answered_kept : (g : Group) (b : Body) → Kept g → IsFine g b → Kept (answered g b)
answered_kept g (Reply id reply) kept fine = by_test (is_answered g.answers id) g (record g { answers = g.answers ++ record { id = id; reply = reply } ∷ [] }) kept (record {
  asked = record { requests = kept.asked.requests; copies = kept.asked.copies; wire = kept.asked.wire; audit = kept.asked.audit };
  once = kept.once;
  replies = kept.replies;
  answers = Each-push (λ a. IsReplied g.audit a.id a.reply) g.answers (record { id = id; reply = reply }) kept.answers fine.1;
  room = kept.room;
  intervals = kept.intervals;
})
answered_kept g (Interval sets) kept fine = kept
answered_kept g (Query n) kept fine = kept
answered_kept g (Info n base log) kept fine = kept
answered_kept g (Install n log) kept fine = kept
answered_kept g (Installed n) kept fine = kept
answered_kept g (Append n place s) kept fine = kept
answered_kept g (Appended n place) kept fine = kept
answered_kept g (Request s) kept fine = kept
answered_kept g (NotHere id) kept fine = kept

copy_hears_kept : (g : Group) (m : Sent) (d : ℕ) (found : Option Daemon) (good : Good g) → slice_get g.copies d ≡ found → SentOk g.sets good.promise good.h m → Kept g → Fine g m → Kept (copy_hears g m d found)
copy_hears_kept g m d None good here ok kept fine = kept
copy_hears_kept g m d (Some c) good here ok kept fine = hears_kept g m d c good here ok kept fine

arrives_kept : (g : Group) (m : Sent) (to : Party) (good : Good g) → SentOk g.sets good.promise good.h m → Kept g → Fine g m → Kept (arrives g m to)
arrives_kept g m Client good ok kept fine = answered_kept g m.body kept fine
arrives_kept g m (Osd d) good ok kept fine = by_test (is_in g.up d) (copy_hears g m d (slice_get g.copies d)) g (copy_hears_kept g m d (slice_get g.copies d) good refl ok kept fine) kept

without_kept : (g : Group) (k : ℕ) → Kept g → Kept (without g k)
without_kept g k kept = record {
  asked = record {
    requests = kept.asked.requests;
    copies = kept.asked.copies;
    wire = Each-remove (λ m. InBody (IsAsked g.requests) m.body) g.wire k kept.asked.wire;
    audit = kept.asked.audit;
  };
  once = kept.once;
  replies = Each-remove (λ m. InReply g.audit m.body) g.wire k kept.replies;
  answers = kept.answers;
  room = kept.room;
  intervals = kept.intervals;
}

fine_at : (g : Group) (k : ℕ) (m : Sent) → slice_get g.wire k ≡ Some m → Kept g → Fine g m
fine_at g k m is kept = (Each-get (λ m. InBody (IsAsked g.requests) m.body) g.wire k m kept.asked.wire is, Each-get (λ m. InReply g.audit m.body) g.wire k m kept.replies is)

deliver_kept : (g : Group) (k : ℕ) (found : Option Sent) → slice_get g.wire k ≡ found → Good g → Kept g → Kept (deliver g k found)
deliver_kept g k None is good kept = kept
deliver_kept g k (Some m) is good kept = arrives_kept (without g k) m m.to (without_good g k good) (Each-get (SentOk g.sets good.promise good.h) g.wire k m good.wire is) (without_kept g k kept) (fine_at g k m is kept)

lose_kept : (g : Group) (k : ℕ) (found : Option Sent) → Kept g → Kept (lose g k found)
lose_kept g k None kept = kept
lose_kept g k (Some m) kept = without_kept g k kept

again_kept : (g : Group) (k : ℕ) (found : Option Sent) → slice_get g.wire k ≡ found → Kept g → Kept (again g found)
again_kept g k None is kept = kept
again_kept g k (Some m) is kept = (let fine = fine_at g k m is kept in sends g (m ∷ []) kept (fine.0, tt) (fine.1, tt))

tell_first_asked : (P : Sealed → Type 0) (ds : List ℕ) (requests : List Sealed) → Each P requests → Each (λ m. InBody P m.body) (to_primary ds (map Request requests))
tell_first_asked P [] requests each = tt
tell_first_asked P (d ∷ ds) requests each = told requests each
  where
    told : (rs : List Sealed) → Each P rs → Each (λ m. InBody P m.body) (map (to_daemon d) (map Request rs))
    told [] each = tt
    told (r ∷ rs) each = (each.0, told rs each.1)

tell_first_replies : (es : List Entry) (ds : List ℕ) (requests : List Sealed) → Each (λ m. InReply es m.body) (to_primary ds (map Request requests))
tell_first_replies es [] requests = tt
tell_first_replies es (d ∷ ds) requests = told requests
  where
    told : (rs : List Sealed) → Each (λ m. InReply es m.body) (map (to_daemon d) (map Request rs))
    told [] = tt
    told (r ∷ rs) = (tt, told rs)

opens_kept : (g : Group) (s : Sealed) → is_submitted g.requests s.id ≡ false → has_all_requests g ≡ false → Kept g → Kept (take_request g s)
opens_kept g s new room kept =
    let P : Sealed → Type 0 = IsAsked g.requests in
    let to : (r : Sealed) → IsAsked g.requests r → IsAsked (g.requests ++ s ∷ []) r = λ r. submitted-append g.requests (s ∷ []) r.id r in
    let this : IsAsked (g.requests ++ s ∷ []) s = submitted-push g.requests s new in
    let less : length g.requests < 16384 = ltb-true (length g.requests) 16384 (not-false (nat_lt (length g.requests) 16384) room) in
    sends (record g { requests = g.requests ++ s ∷ [] }) (to_primary (last_set g.sets) (Request s ∷ [])) (record {
      asked = record {
        requests = Each-push (IsAsked (g.requests ++ s ∷ [])) g.requests s (Each-weaker (IsAsked g.requests) (IsAsked (g.requests ++ s ∷ [])) to g.requests kept.asked.requests) this;
        copies = Each-weaker (InCopy (IsAsked g.requests)) (InCopy (IsAsked (g.requests ++ s ∷ []))) (InCopy-weaker (IsAsked g.requests) (IsAsked (g.requests ++ s ∷ [])) to) g.copies kept.asked.copies;
        wire = Each-weaker (λ m. InBody (IsAsked g.requests) m.body) (λ m. InBody (IsAsked (g.requests ++ s ∷ [])) m.body) (λ m. InBody-weaker (IsAsked g.requests) (IsAsked (g.requests ++ s ∷ [])) to m.body) g.wire kept.asked.wire;
        audit = InLog-weaker (IsAsked g.requests) (IsAsked (g.requests ++ s ∷ [])) to g.audit kept.asked.audit;
      };
      once = distinct-push g.requests s kept.once new;
      replies = kept.replies;
      answers = kept.answers;
      room = omega (arith, length-append g.requests (s ∷ []));
      intervals = kept.intervals;
    }) (tell_first_asked (IsAsked (g.requests ++ s ∷ [])) (last_set g.sets) (s ∷ []) (this, tt)) (tell_first_replies g.audit (last_set g.sets) (s ∷ []))

submit_kept : (g : Group) (s : Sealed) → Kept g → Kept (submit g s)
submit_kept g s kept = go (is_submitted g.requests s.id) (has_all_requests g) refl refl
  where
    go : (b q : Bool) → is_submitted g.requests s.id ≡ b → has_all_requests g ≡ q → Kept (if b then g else (if q then g else take_request g s))
    go true q e f = kept
    go false true e f = kept
    go false false e f = opens_kept g s e f kept

announce_kept : (g : Group) → Kept g → Kept (record g { wire = g.wire ++ announced_by g })
announce_kept g kept = sends g (announced_by g) kept
    (Each-map_all (λ m. InBody (IsAsked g.requests) m.body) (λ d. to_daemon d (Interval g.sets)) (λ d. tt) (last_set g.sets))
    (Each-map_all (λ m. InReply g.audit m.body) (λ d. to_daemon d (Interval g.sets)) (λ d. tt) (last_set g.sets))

resend_kept : (g : Group) (wire : List Sent) → Kept (record g { wire = wire }) → Kept (record g { wire = wire ++ resent_by g })
resend_kept g wire kept = sends (record g { wire = wire }) (resent_by g) kept
    (tell_first_asked (IsAsked g.requests) (last_set g.sets) (open_requests g) (Each-filter (IsAsked g.requests) (λ s. not (is_answered g.answers s.id)) g.requests kept.asked.requests))
    (tell_first_replies g.audit (last_set g.sets) (open_requests g))

begin_kept : (g : Group) (acting : List ℕ) → length g.sets < 1024 → Kept g → Kept (begin g acting)
begin_kept g acting room kept =
    let longer : Kept (record g { sets = g.sets ++ acting ∷ [] }) = record {
      asked = record { requests = kept.asked.requests; copies = kept.asked.copies; wire = kept.asked.wire; audit = kept.asked.audit };
      once = kept.once;
      replies = kept.replies;
      answers = kept.answers;
      room = kept.room;
      intervals = omega (arith, length-append g.sets (acting ∷ []));
    } in
    resend_kept (record g { sets = g.sets ++ acting ∷ [] }) (g.wire ++ announced_by (record g { sets = g.sets ++ acting ∷ [] })) (announce_kept (record g { sets = g.sets ++ acting ∷ [] }) longer)

restarts_kept : (g : Group) (up : List ℕ) (which : Daemon → Bool) → Kept g → Kept (record g { up = up; copies = map (λ c. if which c then restarted c else c) g.copies })
restarts_kept g up which kept = record {
  asked = record {
    requests = kept.asked.requests;
    copies = Each-map (InCopy (IsAsked g.requests)) (InCopy (IsAsked g.requests)) (λ c. if which c then restarted c else c) (λ c. one (which c) c) g.copies kept.asked.copies;
    wire = kept.asked.wire;
    audit = kept.asked.audit;
  };
  once = kept.once;
  replies = kept.replies;
  answers = kept.answers;
  room = kept.room;
  intervals = kept.intervals;
}
  where
    one : (b : Bool) (c : Daemon) → InCopy (IsAsked g.requests) c → InCopy (IsAsked g.requests) (if b then restarted c else c)
    one true c ok = record { log = ok.log; waiting = tt; role = tt }
    one false c ok = ok

begin_if_room : (g h : Group) (acting : List ℕ) → h.sets ≡ g.sets → Kept g → Kept h → Kept (if has_all_intervals g then g else begin h acting)
begin_if_room g h acting same kept ready = go (has_all_intervals g) refl
  where
    go : (b : Bool) → has_all_intervals g ≡ b → Kept (if b then g else begin h acting)
    go true e = kept
    go false e =
        let less : length g.sets < 1024 = ltb-true (length g.sets) 1024 (not-false (nat_lt (length g.sets) 1024) e) in
        begin_kept h acting (subst (λ l. length l < 1024) (sym same) less) ready

new_interval_kept : (g : Group) (acting up : List ℕ) → Kept g → Kept (new_interval g acting up)
new_interval_kept g acting up kept =
    let ready : Kept (with_up g up) = restarts_kept g up (λ c. is_in g.up c.number && not (is_in up c.number)) kept in
    by_test (same_set acting (last_set g.sets)) (with_up g up) (if has_all_intervals g then g else begin (with_up g up) acting) ready (begin_if_room g (with_up g up) acting refl kept ready)

restart_kept : (g : Group) (d : ℕ) → Kept g → Kept (restart g d)
restart_kept g d kept =
    let ready = restarts_kept g g.up (λ c. c.number == d) kept in
    by_test (is_in (last_set g.sets) d) (if has_all_intervals g then g else begin (record g { copies = map (λ c. if c.number == d then restarted c else c) g.copies }) (last_set g.sets)) (record g { copies = map (λ c. if c.number == d then restarted c else c) g.copies })
    (begin_if_room g (record g { copies = map (λ c. if c.number == d then restarted c else c) g.copies }) (last_set g.sets) refl kept ready) ready

kick_first_asked : (g : Group) (ds : List ℕ) → Kept g → Each (λ m. InBody (IsAsked g.requests) m.body) (retransmit_of g ds)
kick_first_asked g [] kept = tt
kick_first_asked g (d ∷ ds) kept = found (slice_get g.copies d) refl
  where
    found : (c : Option Daemon) → slice_get g.copies d ≡ c → Each (λ m. InBody (IsAsked g.requests) m.body) (retransmit_from c)
    found None is = tt
    found (Some c) is = kicked_in (IsAsked g.requests) c (Each-get (InCopy (IsAsked g.requests)) g.copies d c kept.asked.copies is)

kick_first_replies : (g : Group) (ds : List ℕ) → Each (λ m. InReply g.audit m.body) (retransmit_of g ds)
kick_first_replies g [] = tt
kick_first_replies g (d ∷ ds) = found (slice_get g.copies d)
  where
    found : (c : Option Daemon) → Each (λ m. InReply g.audit m.body) (retransmit_from c)
    found None = tt
    found (Some c) = kicked_replies c g.audit

kick_kept : (g : Group) → Kept g → Kept (kick g)
kick_kept g kept = resend_kept g (g.wire ++ announced_by g ++ retransmit_of g (last_set g.sets))
    (sends (record g { wire = g.wire ++ announced_by g }) (retransmit_of g (last_set g.sets)) (announce_kept g kept) (kick_first_asked g (last_set g.sets) kept) (kick_first_replies g (last_set g.sets)))

step_kept : (e : Event) (g : Group) → Good g → Kept g → Kept (group_step g e)
step_kept (Submit s) g good kept = submit_kept g s kept
step_kept (Deliver k) g good kept = deliver_kept g k (slice_get g.wire k) refl good kept
step_kept (Lose k) g good kept = lose_kept g k (slice_get g.wire k) kept
step_kept (Repeat k) g good kept = again_kept g k (slice_get g.wire k) refl kept
step_kept (NewInterval acting up) g good kept = new_interval_kept g acting up kept
step_kept (Restart d) g good kept = restart_kept g d kept
step_kept Kick g good kept = kick_kept g kept

pub run_kept : (es : List Event) (g : Group) → Good g → Kept g → Kept (run es g)
run_kept [] g good kept = kept
run_kept (e ∷ es) g good kept = run_kept es (group_step g e) (step_good e g good) (step_kept e g good kept)

pub start_kept : (group : GroupId) (z count : ℕ) (acting up : List ℕ) → Kept (start group z count acting up)
start_kept group z count acting up =
    begin_kept (record { group = group; min_size = z; copies = map (blank z) (take count daemons); wire = []; sets = []; up = up; requests = []; answers = []; audit = [] }) acting (omega arith) (record {
      asked = record { requests = tt; copies = Each-map_all (InCopy (IsAsked [])) (blank z) (λ d. record { log = tt; waiting = tt; role = tt }) (take count daemons); wire = tt; audit = tt };
      once = refl;
      replies = tt;
      answers = tt;
      room = omega arith;
      intervals = omega arith;
    })

-- answers

pub answer_replied : (es : List Entry) (answers : List Answer) (id : ℕ) (reply : EntryReply) → Each (λ a. IsReplied es a.id a.reply) answers → answer_of answers id ≡ Some reply → IsReplied es id reply
answer_replied es [] id reply each is = absurd (cc)
answer_replied es (a ∷ rest) id reply each is = go (a.id == id) refl is (answer_replied es rest id reply each.1)
  where
    go : (b : Bool) → (a.id == id) ≡ b → (if b then Some a.reply else answer_of rest id) ≡ Some reply → (answer_of rest id ≡ Some reply → IsReplied es id reply) → IsReplied es id reply
    go true same here later = (let it : a.reply ≡ reply = cc in subst (λ v. IsReplied es v reply) (eqb-true a.id id same) (subst (λ v. IsReplied es a.id v) it each.0))
    go false other there later = later there

module _ (id : ℕ) (reply : EntryReply) where
  abbrev Has : Group → Type 0
  Has g = answer_of g.answers id ≡ Some reply

  has-push : (xs : List Answer) (a : Answer) → answer_of xs id ≡ Some reply → answer_of (xs ++ a ∷ []) id ≡ Some reply
  has-push [] a is = absurd (cc)
  has-push (x ∷ xs) a is = go (x.id == id) is (has-push xs a)
    where
      go : (b : Bool) → (if b then Some x.reply else answer_of xs id) ≡ Some reply → (answer_of xs id ≡ Some reply → answer_of (xs ++ a ∷ []) id ≡ Some reply) → (if b then Some x.reply else answer_of (xs ++ a ∷ []) id) ≡ Some reply
      go true here rest = here
      go false there rest = rest there

  abbrev Standing : Event → Type 0
  Standing = Takes (λ requests answers. answer_of answers id ≡ Some reply) (λ requests answers a is. has-push answers a is)

  stands : (e : Event) → Standing e
  stands (Submit s) = λ requests answers is. is
  stands (Deliver k) = tt
  stands (Lose k) = tt
  stands (Repeat k) = tt
  stands (NewInterval acting up) = tt
  stands (Restart d) = tt
  stands Kick = tt

  all_stand : (es : List Event) → Each Standing es
  all_stand [] = tt
  all_stand (e ∷ es) = (stands e, all_stand es)

  run_has : (es : List Event) (g : Group) → Has g → Has (run es g)
  run_has es g is = run_holds (λ requests answers. answer_of answers id ≡ Some reply) (λ requests answers a is. has-push answers a is) es g (all_stand es) is

  pub answer_stands : (es fs : List Event) (g : Group) → Has (run es g) → Has (run (es ++ fs) g)
  answer_stands es fs g is = subst (λ v. Has v) (sym (run-append es fs g)) (run_has fs (run es g) is)
