-- Each event keeps the invariant of a group.
use Rattle.std.proofs.Common.{ℕ, zero, suc, ◌≡◌, ◌≤◌, ◌<◌, ◌+◌, ◌-◌, Bool, true, false, not, ◌==◌, ◌&&◌, List, [], ◌∷◌, ◌++◌, map, length, take, refl, sym, ◌∙◌, ap, subst, arith, zero-add, length-append, inl, inr, ◌⊎◌, if◌then◌else◌}
use Rattle.std.specs.Prelude.{Option, Some, None, slice_get, slice_set}
use Rattle.std.specs.List.{filter, remove}
use Rattle.std.proofs.lemmas.Bool.{cases_eq, cases_order, ne_eqb}
use Rattle.entry_core.specs.Log.{is_in, ids, Legal}
use Rattle.store_core.specs.Request.{Sealed}
use Rattle.store_core.specs.declared.entry.Entry.{Entry}
use Rattle.group_model_whole.specs.Steps.{Stepped, send, blank, restarted}
use Rattle.group_model_whole.specs.Copy.{copy_step, retransmit_as, append_again}
use Rattle.group_model_whole.specs.Decided.{last, decided_by}
use Rattle.group_model_whole.specs.ActingSets.{others, asked, set_of, daemons}
use Rattle.group_model_whole.specs.Choice.{is_informed}
use Rattle.store_core.specs.declared.sealed.GroupId.{GroupId}
use Rattle.group_model_whole.specs.Group.{Group, Answer, Event, Submit, Deliver, Lose, Repeat, NewInterval, Restart, Kick, retransmit_from, last_set, open_requests, is_answered, to_daemon, to_primary, audit_after, steps, answered, copy_hears, arrives, without, deliver, lose, again, is_submitted, has_all_requests, has_all_intervals, take_request, submit, resent_by, announced_by, begin, with_up, same_set, new_interval, restart, retransmit_of, kick, group_step, run, start}
use Rattle.group_model_whole.specs.Types.{Role, Idle, Peering, Installing, Active, Daemon, Body, Interval, Query, Info, Install, Installed, Append, Appended, Request, Reply, NotHere, Party, Osd, Client, Sent, EntryReply}
use Rattle.group_model_whole.specs.Each.{Each}
use Rattle.group_model_whole.specs.History.{Begins, History, IsDecided, IsSound, but_last}
use Rattle.group_model_whole.specs.Replicated.{IsReplicated, IsLatest}
use Rattle.group_model_whole.proofs.Eaches.{Each-append, Each-push, Each-remove, Each-get, Each-map_all, Each-weaker}
use Rattle.group_model_whole.proofs.Prefixes.{Begins-trans, Begins-refl, Begins-nil, Begins-take, take-begins}
use Rattle.group_model_whole.proofs.Histories.{decided_begins_chosen}
use Rattle.group_model_whole.proofs.Invariant.{AllHold, Owns, IsPlaced, RoleOk, StateOk, CopyOk, SentOk}
use Rattle.group_model_whole.proofs.Stable.{CopyOk-stays, BodyOk-stays}
use Rattle.group_model_whole.proofs.Leading.{IsLeading}
use Rattle.group_model_whole.proofs.Rules.{comes_after}
use Rattle.group_model_whole.proofs.Fronts.{but_last-begins}
use Rattle.group_model_whole.proofs.Longer.{IsSound-longer, CopyOk-longer, BodyOk-longer, IsKnown-all}
use Rattle.group_model_whole.proofs.Audits.{IsDecidedList, none_decided, audit_step, shown_decided, decided_legal, IsDecidedList-stays, IsDecidedList-longer}

pub record Good (g : Group) : Type 0 where
  pub promise : ℕ → ℕ
  pub h : History
  pub sound : IsSound promise g.min_size g.sets h
  pub copies : (d : ℕ) (c : Daemon) → slice_get g.copies d ≡ Some c → CopyOk g.min_size g.sets promise h d c
  pub absent : (d : ℕ) → slice_get g.copies d ≡ None → promise d ≡ 0
  pub wire : Each (SentOk g.sets promise h) g.wire
  pub audit : IsDecidedList g.sets h g.audit
  pub covers : (d : ℕ) (c : Daemon) → slice_get g.copies d ≡ Some c → Begins (decided_by c.role c.log) g.audit
  pub shown : (n : ℕ) → Begins (but_last (h.grown n)) g.audit

-- all but the last entry of the interval that a copy leads was decided
leading_shown : (p : ℕ → ℕ) (z : ℕ) (sets : List (List ℕ)) (h : History) (d : ℕ) (c : Daemon) (r : Role) (audit : List Entry) → IsSound p z sets h → RoleOk z sets p h d c r → IsLeading r →
    Begins (decided_by r c.log) audit → ((b : ℕ) → b < c.promise → Begins (but_last (h.grown b)) audit) → Begins (but_last (h.grown c.promise)) audit
leading_shown p z sets h d c Idle audit sound ok leads covers older = absurd leads
leading_shown p z sets h d c (Peering informed) audit sound ok leads covers older = absurd leads
leading_shown p z sets h d c (Installing done) audit sound ok leads covers older =
    let o = sound.opened c.promise c.log ok.owns.leads.later ok.chosen in
    subst (λ l. Begins (but_last l) audit) ok.owns.whole (Begins-trans (but_last-begins o.within) (older (h.basis c.promise) o.below))
leading_shown p z sets h d c (Active None) audit sound ok leads covers older = subst (λ l. Begins (but_last l) audit) ok.0.whole (Begins-trans (Begins-take (length c.log - 1) c.log) covers)
leading_shown p z sets h d c (Active (Some holders)) audit sound ok leads covers older = subst (λ l. Begins (but_last l) audit) ok.0.whole covers

-- lists of copies

pub get-set_same : {X : Type 0} (xs : List X) (d : ℕ) (x y : X) → slice_get xs d ≡ Some x → slice_get (slice_set xs d y) d ≡ Some y
get-set_same [] d x y is = absurd (cc)
get-set_same (z ∷ xs) zero x y is = refl
get-set_same (z ∷ xs) (suc d) x y is = get-set_same xs d x y is

pub get-set_other : {X : Type 0} (xs : List X) (d e : ℕ) (y : X) → (e ≡ d → ⊥) → slice_get (slice_set xs d y) e ≡ slice_get xs e
get-set_other [] d e y other = refl
get-set_other (z ∷ xs) zero zero y other = absurd (other refl)
get-set_other (z ∷ xs) zero (suc e) y other = refl
get-set_other (z ∷ xs) (suc d) zero y other = refl
get-set_other (z ∷ xs) (suc d) (suc e) y other = get-set_other xs d e y (λ (same : e ≡ d). other (ap suc same))

pub record Mapped {X Y : Type 0} (f : X → Y) (xs : List X) (d : ℕ) (y : Y) : Type 0 where
  pub item : X
  pub is_item : slice_get xs d ≡ Some item
  pub is : f item ≡ y

pub get-map : {X Y : Type 0} (f : X → Y) (xs : List X) (d : ℕ) (y : Y) → slice_get (map f xs) d ≡ Some y → Mapped f xs d y
get-map f [] d y is = absurd (cc)
get-map f (x ∷ xs) zero y is = record { item = x; is_item = refl; is = cc }
get-map f (x ∷ xs) (suc d) y is = let m = get-map f xs d y is in record { item = m.item; is_item = m.is_item; is = m.is }

get-map_none : {X Y : Type 0} (f : X → Y) (xs : List X) (d : ℕ) → slice_get (map f xs) d ≡ None → slice_get xs d ≡ None
get-map_none f [] d is = refl
get-map_none f (x ∷ xs) zero is = absurd (cc)
get-map_none f (x ∷ xs) (suc d) is = get-map_none f xs d is

-- a message reaches a copy
pub hears_good : (g : Group) (m : Sent) (d : ℕ) (c : Daemon) (good : Good g) → slice_get g.copies d ≡ Some c → SentOk g.sets good.promise good.h m → Good (steps g d (copy_step c (record { from = m.from; body = m.body })))
hears_good g m d c good here ok =
    let step : Stepped = copy_step c (record { from = m.from; body = m.body }) in
    let a = comes_after g.min_size g.sets d m.body good.promise good.h c m.from good.sound (good.copies d c here) ok in
    let was = IsDecidedList-stays g.min_size g.sets d good.promise good.h a.promise' a.h' a.to g.audit good.audit in
    let shown = shown_decided a.promise' g.min_size g.sets a.h' a.sound d step.copy step.copy.role a.copy.state a.copy.role in
    let next = audit_step a.promise' g.min_size g.sets a.h' a.sound g.audit (decided_by step.copy.role step.copy.log) was shown in
    let longer : Begins g.audit (audit_after g.audit step.copy) = record { rest = filter (λ v. not (is_in (ids g.audit) v.sealed.id)) (decided_by step.copy.role step.copy.log); whole = refl } in
    let was_shown : (n : ℕ) → a.h'.grown n ≡ good.h.grown n → Begins (but_last (a.h'.grown n)) (audit_after g.audit step.copy) =
    λ (n : ℕ) (same : a.h'.grown n ≡ good.h.grown n). subst (λ l. Begins (but_last l) (audit_after g.audit step.copy)) (sym same) (Begins-trans (good.shown n) longer) in
    record {
      promise = a.promise';
      h = a.h';
      sound = a.sound;
      copies = λ e c' is. (elim (cases_eq e d) [
        | inl same ↦ (
            let there : slice_get (slice_set g.copies d step.copy) d ≡ Some step.copy = get-set_same g.copies d c step.copy here in
            let is' : slice_get (slice_set g.copies d step.copy) d ≡ Some c' = subst (λ v. slice_get (slice_set g.copies d step.copy) v ≡ Some c') same is in
            let agree : step.copy ≡ c' = cc in
            subst (λ v. CopyOk g.min_size g.sets a.promise' a.h' v c') (sym same) (subst (λ v. CopyOk g.min_size g.sets a.promise' a.h' d v) agree a.copy))
        | inr other ↦ CopyOk-stays g.min_size g.sets d good.promise good.h a.promise' a.h' a.to e c' other (good.copies e c' (sym (get-set_other g.copies d e step.copy other) ∙ is))
      ]);
      absent = λ e none. (elim (cases_eq e d) [
        | inl same ↦ (
            let there : slice_get (slice_set g.copies d step.copy) d ≡ Some step.copy = get-set_same g.copies d c step.copy here in
            let none' : slice_get (slice_set g.copies d step.copy) d ≡ None = subst (λ v. slice_get (slice_set g.copies d step.copy) v ≡ None) same none in
            absurd (cc))
        | inr other ↦ (a.to.others e other).0 ∙ good.absent e (sym (get-set_other g.copies d e step.copy other) ∙ none)
      ]);
      wire = Each-append (SentOk g.sets a.promise' a.h') g.wire step.sent
          (Each-weaker (SentOk g.sets good.promise good.h) (SentOk g.sets a.promise' a.h') (λ v. BodyOk-stays g.min_size g.sets d good.promise good.h a.promise' a.h' a.to v.from v.body) g.wire good.wire) a.sent;
      audit = next.decided;
      covers = λ e c' is. (elim (cases_eq e d) [
        | inl same ↦ (
            let there : slice_get (slice_set g.copies d step.copy) d ≡ Some step.copy = get-set_same g.copies d c step.copy here in
            let is' : slice_get (slice_set g.copies d step.copy) d ≡ Some c' = subst (λ v. slice_get (slice_set g.copies d step.copy) v ≡ Some c') same is in
            let agree : step.copy ≡ c' = cc in
            subst (λ v. Begins (decided_by v.role v.log) (audit_after g.audit step.copy)) agree next.covers)
        | inr other ↦ Begins-trans (good.covers e c' (sym (get-set_other g.copies d e step.copy other) ∙ is)) (record { rest = filter (λ v. not (is_in (ids g.audit) v.sealed.id)) (decided_by step.copy.role step.copy.log); whole = refl })
      ]);
      shown = λ n. (elim (a.only n) [
        | inl same ↦ was_shown n same
        | inr grew ↦ subst (λ v. Begins (but_last (a.h'.grown v)) (audit_after g.audit step.copy)) (sym grew.0)
            (leading_shown a.promise' g.min_size g.sets a.h' d step.copy step.copy.role (audit_after g.audit step.copy) a.sound a.copy.role grew.1 next.covers
            (λ b below. (elim (a.only b) [
              | inl same ↦ was_shown b same
              | inr again ↦ absurd (omega (arith, again.0))
            ])))
      ]);
    }

-- only the wire, the requests or the answers change
abbrev pub same_copies : (g : Group) (wire : List Sent) (requests : List Sealed) (answers : List Answer) → (good : Good g) → Each (SentOk g.sets good.promise good.h) wire →
    Good (record g { wire = wire; requests = requests; answers = answers })
same_copies g wire requests answers good each = record {
  promise = good.promise;
  h = good.h;
  sound = good.sound;
  copies = good.copies;
  absent = good.absent;
  wire = each;
  audit = good.audit;
  covers = good.covers;
  shown = good.shown;
}

answered_good : (g : Group) (b : Body) → Good g → Good (answered g b)
answered_good g (Reply id reply) good = go (is_answered g.answers id)
  where
    go : (b : Bool) → Good (if b then g else record g { answers = g.answers ++ record { id = id; reply = reply } ∷ [] })
    go true = good
    go false = same_copies g g.wire g.requests (g.answers ++ record { id = id; reply = reply } ∷ []) good good.wire
answered_good g (Interval sets) good = good
answered_good g (Query n) good = good
answered_good g (Info n base log) good = good
answered_good g (Install n log) good = good
answered_good g (Installed n) good = good
answered_good g (Append n place s) good = good
answered_good g (Appended n place) good = good
answered_good g (Request s) good = good
answered_good g (NotHere id) good = good

copy_hears_good : (g : Group) (m : Sent) (d : ℕ) (found : Option Daemon) (good : Good g) → slice_get g.copies d ≡ found → SentOk g.sets good.promise good.h m → Good (copy_hears g m d found)
copy_hears_good g m d None good here ok = good
copy_hears_good g m d (Some c) good here ok = hears_good g m d c good here ok

arrives_good : (g : Group) (m : Sent) (to : Party) (good : Good g) → SentOk g.sets good.promise good.h m → Good (arrives g m to)
arrives_good g m Client good ok = answered_good g m.body good
arrives_good g m (Osd d) good ok = go (is_in g.up d)
  where
    go : (b : Bool) → Good (if b then copy_hears g m d (slice_get g.copies d) else g)
    go true = copy_hears_good g m d (slice_get g.copies d) good refl ok
    go false = good

abbrev pub without_good : (g : Group) (k : ℕ) → Good g → Good (without g k)
without_good g k good = same_copies g (remove g.wire k) g.requests g.answers good (Each-remove (SentOk g.sets good.promise good.h) g.wire k good.wire)

deliver_good : (g : Group) (k : ℕ) (found : Option Sent) → slice_get g.wire k ≡ found → Good g → Good (deliver g k found)
deliver_good g k None is good = good
deliver_good g k (Some m) is good = arrives_good (without g k) m m.to (without_good g k good) (Each-get (SentOk g.sets good.promise good.h) g.wire k m good.wire is)

lose_good : (g : Group) (k : ℕ) (found : Option Sent) → Good g → Good (lose g k found)
lose_good g k None good = good
lose_good g k (Some m) good = without_good g k good

again_good : (g : Group) (k : ℕ) (found : Option Sent) → slice_get g.wire k ≡ found → Good g → Good (again g found)
again_good g k None is good = good
again_good g k (Some m) is good = same_copies g (g.wire ++ m ∷ []) g.requests g.answers good (Each-push (SentOk g.sets good.promise good.h) g.wire m good.wire (Each-get (SentOk g.sets good.promise good.h) g.wire k m good.wire is))

-- requests may be sent at any time
tell_first_ok : (sets : List (List ℕ)) (p : ℕ → ℕ) (h : History) (ds : List ℕ) (requests : List Sealed) → Each (SentOk sets p h) (to_primary ds (map Request requests))
tell_first_ok sets p h [] requests = tt
tell_first_ok sets p h (d ∷ ds) requests = told requests
  where
    told : (rs : List Sealed) → Each (SentOk sets p h) (map (to_daemon d) (map Request rs))
    told [] = tt
    told (r ∷ rs) = (tt, told rs)

submit_good : (g : Group) (s : Sealed) → Good g → Good (submit g s)
submit_good g s good = go (is_submitted g.requests s.id) (has_all_requests g)
  where
    go : (b q : Bool) → Good (if b then g else (if q then g else take_request g s))
    go true q = good
    go false true = good
    go false false = same_copies g (g.wire ++ to_primary (last_set g.sets) (Request s ∷ [])) (g.requests ++ s ∷ []) g.answers good
        (Each-append (SentOk g.sets good.promise good.h) g.wire (to_primary (last_set g.sets) (Request s ∷ [])) good.wire (tell_first_ok g.sets good.promise good.h (last_set g.sets) (s ∷ [])))

pub begin_good : (g : Group) (acting : List ℕ) → Good g → Good (begin g acting)
begin_good g acting good =
    let z = g.min_size in
    let after : Group = record g { sets = g.sets ++ acting ∷ [] } in
    record {
      promise = good.promise;
      h = good.h;
      sound = IsSound-longer g.min_size g.sets acting good.promise good.h good.sound;
      copies = λ d c is. CopyOk-longer g.min_size g.sets acting good.promise good.h d c (good.copies d c is);
      absent = good.absent;
      wire = Each-append (SentOk (g.sets ++ acting ∷ []) good.promise good.h) (g.wire ++ announced_by after) (resent_by after)
          (Each-append (SentOk (g.sets ++ acting ∷ []) good.promise good.h) g.wire (announced_by after)
          (Each-weaker (SentOk g.sets good.promise good.h) (SentOk (g.sets ++ acting ∷ []) good.promise good.h) (λ m. BodyOk-longer g.min_size g.sets acting good.promise good.h m.from m.body) g.wire good.wire)
          (Each-map_all (SentOk (g.sets ++ acting ∷ []) good.promise good.h) (λ d. to_daemon d (Interval (g.sets ++ acting ∷ []))) (λ d. IsKnown-all g.min_size g.sets acting good.promise good.h) (last_set (g.sets ++ acting ∷ []))))
          (tell_first_ok (g.sets ++ acting ∷ []) good.promise good.h (last_set (g.sets ++ acting ∷ [])) (open_requests after));
      audit = IsDecidedList-longer g.min_size g.sets acting good.promise good.h good.sound g.audit good.audit;
      covers = good.covers;
      shown = good.shown;
    }

restarted_ok : (z : ℕ) (sets : List (List ℕ)) (p : ℕ → ℕ) (h : History) (d : ℕ) (c : Daemon) → CopyOk z sets p h d c → CopyOk z sets p h d (restarted c)
restarted_ok z sets p h d c ok = record {
  state = record {
    number = ok.state.number;
    same_size = ok.state.same_size;
    promised = ok.state.promised;
    reached = ok.state.reached;
    base = ok.state.base;
    known = record { fits = omega arith; same = λ j from upto. absurd (omega arith) };
    source = ok.state.source;
    source_is = ok.state.source_is;
    begins = ok.state.begins;
    within = ok.state.within;
    held = ok.state.held;
    held_below = ok.state.held_below;
  };
  role = tt;
}

-- some copies restart
pub restarts_good : (g : Group) (up : List ℕ) (which : Daemon → Bool) → Good g → Good (record g { up = up; copies = map (λ c. if which c then restarted c else c) g.copies })
restarts_good g up which good = record {
  promise = good.promise;
  h = good.h;
  sound = good.sound;
  copies = λ d c is. (let m = get-map (λ c. if which c then restarted c else c) g.copies d c is in
      subst (λ v. CopyOk g.min_size g.sets good.promise good.h d v) m.is (one (which m.item) d m.item (good.copies d m.item m.is_item)));
  absent = λ d none. good.absent d (get-map_none (λ c. if which c then restarted c else c) g.copies d none);
  wire = good.wire;
  audit = good.audit;
  covers = λ d c is. (let m = get-map (λ c. if which c then restarted c else c) g.copies d c is in
      subst (λ v. Begins (decided_by v.role v.log) g.audit) m.is (covered (which m.item) m.item (good.covers d m.item m.is_item)));
  shown = good.shown;
}
  where
    one : (b : Bool) (d : ℕ) (c : Daemon) → CopyOk g.min_size g.sets good.promise good.h d c → CopyOk g.min_size g.sets good.promise good.h d (if b then restarted c else c)
    one true d c ok = restarted_ok g.min_size g.sets good.promise good.h d c ok
    one false d c ok = ok

    covered : (b : Bool) (c : Daemon) → Begins (decided_by c.role c.log) g.audit → Begins (decided_by (if b then restarted c else c).role (if b then restarted c else c).log) g.audit
    covered true c was = Begins-nil g.audit
    covered false c was = was

new_interval_good : (g : Group) (acting up : List ℕ) → Good g → Good (new_interval g acting up)
new_interval_good g acting up good = go (same_set acting (last_set g.sets)) (has_all_intervals g)
  where
    ready : Good (with_up g up)
    ready = restarts_good g up (λ c. is_in g.up c.number && not (is_in up c.number)) good

    go : (b q : Bool) → Good (if b then with_up g up else (if q then g else begin (with_up g up) acting))
    go true q = ready
    go false true = good
    go false false = begin_good (with_up g up) acting ready

restart_good : (g : Group) (d : ℕ) → Good g → Good (restart g d)
restart_good g d good = go (is_in (last_set g.sets) d) (has_all_intervals g)
  where
    h : Group
    h = record g { copies = map (λ c. if c.number == d then restarted c else c) g.copies }

    ready : Good (record g { copies = map (λ c. if c.number == d then restarted c else c) g.copies })
    ready = restarts_good g g.up (λ c. c.number == d) good

    go : (b q : Bool) → Good (if b then (if q then g else begin (record g { copies = map (λ c. if c.number == d then restarted c else c) g.copies }) (last_set g.sets)) else record g { copies = map (λ c. if c.number == d then restarted c else c) g.copies })
    go true true = good
    go true false = begin_good (record g { copies = map (λ c. if c.number == d then restarted c else c) g.copies }) (last_set g.sets) ready
    go false q = ready

-- the last entry stands at the end
pub record IsLast (log : List Entry) (e : Entry) : Type 0 where
  pub front : List Entry
  pub whole : front ++ e ∷ [] ≡ log

pub last_is : (log : List Entry) (e : Entry) → last log ≡ Some e → IsLast log e
last_is [] e is = absurd (cc)
last_is (x ∷ []) e is = record { front = []; whole = cc }
last_is (x ∷ y ∷ ys) e is = let l = last_is (y ∷ ys) e is in record { front = x ∷ l.front; whole = ap (λ v. x ∷ v) l.whole }

append_again_ok : (z : ℕ) (sets : List (List ℕ)) (p : ℕ → ℕ) (h : History) (d : ℕ) (c : Daemon) (e : Option Entry) (ms : List ℕ) → last c.log ≡ e → Owns z sets h d c → Each (SentOk sets p h) (append_again c e ms)
append_again_ok z sets p h d c None ms is owns = tt
append_again_ok z sets p h d c (Some e) ms is owns =
    let l = last_is c.log e is in
    let placed : IsPlaced h c.promise (length c.log) e.sealed = record {
      front = l.front;
      entry = e;
      rest = [];
      whole = l.whole ∙ owns.whole;
      at = ap (λ v. length v) (sym l.whole) ∙ length-append l.front (e ∷ []);
      is = refl;
    } in
    Each-map_all (SentOk sets p h) (λ m. send c (Osd m) (Append c.promise (length c.log) e.sealed)) (λ m. placed) ms

kicked_as_ok : (z : ℕ) (sets : List (List ℕ)) (p : ℕ → ℕ) (h : History) (d : ℕ) (c : Daemon) (r : Role) → StateOk z sets p h d c → RoleOk z sets p h d c r → Each (SentOk sets p h) (retransmit_as r c)
kicked_as_ok z sets p h d c Idle state ok = tt
kicked_as_ok z sets p h d c (Peering informed) state ok = Each-map_all (SentOk sets p h) (λ i. send c (Osd i) (Query c.promise)) (λ i. state.reached) (filter (λ i. not (is_informed c informed i)) (asked c))
kicked_as_ok z sets p h d c (Installing done) state ok = Each-map_all (SentOk sets p h) (λ m. send c (Osd m) (Install c.promise c.log)) (λ m. (state.reached, ok.chosen)) (filter (λ m. not (is_in done m)) (others c))
kicked_as_ok z sets p h d c (Active None) state ok = tt
kicked_as_ok z sets p h d c (Active (Some holders)) state ok = append_again_ok z sets p h d c (last c.log) (filter (λ m. not (is_in holders m)) (others c)) refl ok.0

kick_first_ok : (g : Group) (good : Good g) (ds : List ℕ) → Each (SentOk g.sets good.promise good.h) (retransmit_of g ds)
kick_first_ok g good [] = tt
kick_first_ok g good (d ∷ ds) = found (slice_get g.copies d) refl
  where
    found : (c : Option Daemon) → slice_get g.copies d ≡ c → Each (SentOk g.sets good.promise good.h) (retransmit_from c)
    found None is = tt
    found (Some c) is = (let ok = good.copies d c is in kicked_as_ok g.min_size g.sets good.promise good.h d c c.role ok.state ok.role)

pub kick_good : (g : Group) → Good g → Good (kick g)
kick_good g good = same_copies g (g.wire ++ announced_by g ++ retransmit_of g (last_set g.sets) ++ resent_by g) g.requests g.answers good
    (Each-append (SentOk g.sets good.promise good.h) (g.wire ++ announced_by g ++ retransmit_of g (last_set g.sets)) (resent_by g)
    (Each-append (SentOk g.sets good.promise good.h) (g.wire ++ announced_by g) (retransmit_of g (last_set g.sets))
    (Each-append (SentOk g.sets good.promise good.h) g.wire (announced_by g) good.wire
    (Each-map_all (SentOk g.sets good.promise good.h) (λ d. to_daemon d (Interval g.sets)) (λ d. record { fits = omega arith; same = λ j from upto. refl }) (last_set g.sets)))
    (kick_first_ok g good (last_set g.sets)))
    (tell_first_ok g.sets good.promise good.h (last_set g.sets) (open_requests g)))

pub step_good : (e : Event) (g : Group) → Good g → Good (group_step g e)
step_good (Submit s) g good = submit_good g s good
step_good (Deliver k) g good = deliver_good g k (slice_get g.wire k) refl good
step_good (Lose k) g good = lose_good g k (slice_get g.wire k) good
step_good (Repeat k) g good = again_good g k (slice_get g.wire k) refl good
step_good (NewInterval acting up) g good = new_interval_good g acting up good
step_good (Restart d) g good = restart_good g d good
step_good Kick g good = kick_good g good

pub run_good : (es : List Event) (g : Group) → Good g → Good (run es g)
run_good [] g good = good
run_good (e ∷ es) g good = run_good es (group_step g e) (step_good e g good)

-- the beginning

first_chosen : ℕ → Option (List Entry)
first_chosen n = if n == 0 then Some [] else None

first_held : ℕ → ℕ → Option ℕ
first_held m n = if n == 0 then Some 0 else None

first_history : History
first_history = record { chosen = first_chosen; grown = λ n. []; basis = λ n. 0; held = first_held }

first_sound : (z : ℕ) → IsSound (λ d. 0) z [] first_history
unfolding first_history first_chosen
first_sound z = record {
  zero = refl;
  zero_grown = refl;
  legal = λ n. tt;
  empty = λ n none. refl;
  grows = λ n log is. subst (λ l. Begins l []) (only (n == 0) log is) (Begins-nil []);
  opened = λ n log later is. absurd (never n log later is);
  but_one = λ n. inl refl;
}
  where
    only : (b : Bool) (log : List Entry) → (if b then Some [] else None) ≡ Some log → [] ≡ log
    only true log is = cc
    only false log is = absurd (cc)

    never : (n : ℕ) (log : List Entry) → 1 ≤ n → (if n == 0 then Some [] else None) ≡ Some log → ⊥
    never n log later is = (let other : (n == 0) ≡ false = ne_eqb n 0 (λ (e : n ≡ 0). omega arith) in let bad : None ≡ Some log = rw other at is in cc)

-- the numbers from k on
abbrev pub Counts : ℕ → List ℕ → Type 0
Counts k [] = Unit {0}
Counts k (x ∷ xs) = (x ≡ k) × Counts (k + 1) xs

Counts-take : (k n : ℕ) (xs : List ℕ) → Counts k xs → Counts k (take n xs)
Counts-take k zero xs c = tt
Counts-take k (suc n) [] c = tt
Counts-take k (suc n) (x ∷ xs) c = (c.0, Counts-take (k + 1) n xs c.1)

Counts-get : (k : ℕ) (xs : List ℕ) (d x : ℕ) → Counts k xs → slice_get xs d ≡ Some x → x ≡ k + d
Counts-get k [] d x c is = absurd (cc)
Counts-get k (y ∷ xs) zero x c is = (let same : y ≡ x = cc in omega (arith, c.0))
Counts-get k (y ∷ xs) (suc d) x c is = (let later = Counts-get (k + 1) xs d x c.1 is in omega arith)

pub daemons_count : Counts 0 daemons
daemons_count = (refl, (refl, (refl, (refl, (refl, (refl, (refl, (refl, (refl, (refl, (refl, (refl, (refl, (refl, (refl, (refl, tt))))))))))))))))

blank_ok : (z d : ℕ) → CopyOk z [] (λ m. 0) first_history d (blank z d)
unfolding first_history first_chosen first_held
blank_ok z d = record {
  state = record {
    number = refl;
    same_size = refl;
    promised = refl;
    reached = omega arith;
    base = omega arith;
    known = record { fits = omega arith; same = λ j from upto. absurd (omega arith) };
    source = [];
    source_is = refl;
    begins = Begins-nil [];
    within = Begins-nil [];
    held = refl;
    held_below = λ j k is. low (cases_eq j 0) is;
  };
  role = tt;
}
  where
    low : {j k : ℕ} → (j ≡ 0) ⊎ (j ≡ 0 → ⊥) → (if j == 0 then Some 0 else None) ≡ Some k → j ≤ 0
    low {j} {k} (inl same) is = omega arith
    low {j} {k} (inr other) is = (let no : (j == 0) ≡ false = ne_eqb j 0 other in let bad : None ≡ Some k = rw no at is in absurd (cc))

-- no interval yet
pub empty_good : (group : GroupId) (z count : ℕ) (up : List ℕ) → Good (record { group = group; min_size = z; copies = map (blank z) (take count daemons); wire = []; sets = []; up = up; requests = []; answers = []; audit = [] })
unfolding first_history
empty_good group z count up = record {
  promise = λ d. 0;
  h = first_history;
  sound = first_sound z;
  copies = λ d c is. (
      let m = get-map (blank z) (take count daemons) d c is in
      let same : m.item ≡ d = Counts-get 0 (take count daemons) d m.item (Counts-take 0 count daemons daemons_count) m.is_item ∙ zero-add d in
      subst (λ v. CopyOk z [] (λ m. 0) first_history d v) (ap (blank z) (sym same) ∙ m.is) (blank_ok z d));
  absent = λ d none. refl;
  wire = tt;
  audit = none_decided [] first_history;
  covers = λ d c is. (let m = get-map (blank z) (take count daemons) d c is in subst (λ v. Begins (decided_by v.role v.log) []) m.is (Begins-nil []));
  shown = λ n. Begins-nil [];
}

pub start_good : (group : GroupId) (z count : ℕ) (acting up : List ℕ) → Good (start group z count acting up)
start_good group z count acting up =
    begin_good (record { group = group; min_size = z; copies = map (blank z) (take count daemons); wire = []; sets = []; up = up; requests = []; answers = []; audit = [] }) acting (empty_good group z count up)

-- what was decided

-- an interval after n whose log was chosen has a member of set n that promised more
record MovedOn (promise : ℕ → ℕ) (sets : List (List ℕ)) (n : ℕ) : Type 0 where
  member : ℕ
  is_member : is_in (set_of sets n) member ≡ true
  moved : n < promise member

moved_on : (fuel : ℕ) (p : ℕ → ℕ) (z : ℕ) (sets : List (List ℕ)) (h : History) → IsSound p z sets h → (j n : ℕ) (log : List Entry) → j ≤ fuel → h.chosen j ≡ Some log → n < j → 1 ≤ n → z ≤ length (set_of sets n) → MovedOn p sets n
moved_on zero p z sets h sound j n log small is before later enough = absurd (omega arith)
moved_on (suc fuel) p z sets h sound j n log small is before later enough =
    let o = sound.opened j log (omega arith) is in
    let which : (n < h.basis j) ⊎ (h.basis j ≤ n) = grind arith in
    elim which [
      | inl lower ↦ moved_on fuel p z sets h sound (h.basis j) n o.source (omega (arith, o.below)) o.source_is lower later enough
      | inr above ↦ (let w = o.witness n later above before enough in record { member = w.member; is_member = w.is_member; moved = omega (arith, w.moved) })
    ]

module _ (g : Group) (good : Good g) where
  pub audit_legal : Legal g.audit
  audit_legal = decided_legal good.promise g.min_size g.sets good.h good.sound g.audit good.audit

  -- the log of a member that has what its interval decided
  module _ (d : ℕ) (c : Daemon) (owns : Owns g.min_size g.sets good.h d c) (k : ℕ) (all : AllHold g.sets good.h c.promise k) (state : StateOk g.min_size g.sets good.promise good.h d c)
      (latest : IsLatest g c) (m : ℕ) (other : Daemon) (is_member : is_in (set_of g.sets c.promise) m ≡ true) (is : slice_get g.copies m ≡ Some other) where
    member_base : other.base ≡ c.promise
    member_base =
        let ok = good.copies m other is in
        let held = all m is_member in
        let low = ok.state.held_below c.promise held.most held.is in
        let le = latest m other is_member is in
        omega (arith, ok.state.base)

    source_is : good.h.chosen c.promise ≡ Some state.source
    source_is = subst (λ v. good.h.chosen v ≡ Some state.source) owns.is_base state.source_is

    audit_begins : Begins g.audit other.log
    audit_begins =
        let ok = good.copies m other is in
        let within : Begins other.log (good.h.grown c.promise) = subst (λ v. Begins other.log (good.h.grown v)) member_base ok.state.within in
        let chosen : good.h.chosen c.promise ≡ Some ok.state.source = subst (λ v. good.h.chosen v ≡ Some ok.state.source) member_base ok.state.source_is in
        let here : good.h.held m c.promise ≡ Some (length other.log) = subst (λ v. good.h.held m v ≡ Some (length other.log)) member_base ok.state.held in
        elim good.audit.decided [
          | inl none ↦ subst (λ l. Begins l other.log) (sym (good.audit.is ∙ ap (λ v. take v (good.h.grown good.audit.n)) none)) (Begins-nil other.log)
          | inr one ↦ subst (λ l. Begins l other.log) (sym good.audit.is) (elim (cases_order good.audit.n c.promise) [
            | inl same ↦ (
                let held = one.by_all m (subst (λ v. is_in (set_of g.sets v) m ≡ true) (sym same) is_member) in
                let there : good.h.held m good.audit.n ≡ Some (length other.log) = subst (λ v. good.h.held m v ≡ Some (length other.log)) (sym same) here in
                let was = held.is in
                let equal : held.most ≡ length other.log = cc in
                take-begins good.audit.k (subst (λ v. Begins other.log (good.h.grown v)) (sym same) within) (omega (arith, held.enough)))
            | inr apart ↦ (elim apart [
              | inl below ↦ Begins-trans (decided_begins_chosen good.promise g.min_size g.sets good.h good.sound good.audit.n c.promise good.audit.k ok.state.source one below chosen) ok.state.begins
              | inr above ↦ absurd (too_late one above)
            ])
          ])
        ]
      where
        too_late : IsDecided g.sets good.h good.audit.n good.audit.k → c.promise < good.audit.n → ⊥
        too_late one above =
            let w = moved_on good.audit.n good.promise g.min_size g.sets good.h good.sound good.audit.n c.promise one.log (omega arith) one.begun above owns.leads.later owns.leads.members in
            who w (slice_get g.copies w.member) refl
          where
            who : (w : MovedOn good.promise g.sets c.promise) (found : Option Daemon) → slice_get g.copies w.member ≡ found → ⊥
            who w None none = (let z = good.absent w.member none in omega (arith, w.moved))
            who w (Some e) is_e = (let ok = good.copies w.member e is_e in let le = latest w.member e w.is_member is_e in omega (arith, w.moved, ok.state.promised))

  pub replicated : IsReplicated g
  replicated d c flight is role latest m other is_member is_other = by_flight flight (subst (λ r. RoleOk g.min_size g.sets good.promise good.h d c r) role ok.role)
    where
      ok : CopyOk g.min_size g.sets good.promise good.h d c
      ok = good.copies d c is

      by_flight : (f : Option (List ℕ)) → RoleOk g.min_size g.sets good.promise good.h d c (Active f) → Begins g.audit other.log
      by_flight None r = audit_begins d c r.0 (length c.log) r.1 ok.state latest m other is_member is_other
      by_flight (Some holders) r = audit_begins d c r.0 (length c.log - 1) r.1.before ok.state latest m other is_member is_other

-- the audit grows

arrives_grows : (g : Group) (m : Sent) (to : Party) → Begins g.audit (arrives g m to).audit
arrives_grows g m Client = answers m.body
  where
    go : (b : Bool) (id : ℕ) (reply : EntryReply) → Begins g.audit (if b then g else record g { answers = g.answers ++ record { id = id; reply = reply } ∷ [] }).audit
    go true id reply = Begins-refl g.audit
    go false id reply = Begins-refl g.audit

    answers : (b : Body) → Begins g.audit (answered g b).audit
    answers (Reply id reply) = go (is_answered g.answers id) id reply
    answers (Interval sets) = Begins-refl g.audit
    answers (Query n) = Begins-refl g.audit
    answers (Info n base log) = Begins-refl g.audit
    answers (Install n log) = Begins-refl g.audit
    answers (Installed n) = Begins-refl g.audit
    answers (Append n place s) = Begins-refl g.audit
    answers (Appended n place) = Begins-refl g.audit
    answers (Request s) = Begins-refl g.audit
    answers (NotHere id) = Begins-refl g.audit
arrives_grows g m (Osd d) = go (is_in g.up d) (slice_get g.copies d)
  where
    go : (b : Bool) (found : Option Daemon) → Begins g.audit (if b then copy_hears g m d found else g).audit
    go true None = Begins-refl g.audit
    go true (Some c) = record { rest = filter (λ v. not (is_in (ids g.audit) v.sealed.id)) (decided_by (copy_step c (record { from = m.from; body = m.body })).copy.role (copy_step c (record { from = m.from; body = m.body })).copy.log); whole = refl }
    go false found = Begins-refl g.audit

if_grows : (audit : List Entry) (b : Bool) (x y : Group) → Begins audit x.audit → Begins audit y.audit → Begins audit (if b then x else y).audit
if_grows audit true x y p q = p
if_grows audit false x y p q = q

step_grows : (e : Event) (g : Group) → Begins g.audit (group_step g e).audit
step_grows (Submit s) g = if_grows g.audit (is_submitted g.requests s.id) g (if has_all_requests g then g else take_request g s) (Begins-refl g.audit) (if_grows g.audit (has_all_requests g) g (take_request g s) (Begins-refl g.audit) (Begins-refl g.audit))
step_grows (Deliver k) g = go (slice_get g.wire k)
  where
    go : (found : Option Sent) → Begins g.audit (deliver g k found).audit
    go None = Begins-refl g.audit
    go (Some m) = arrives_grows (without g k) m m.to
step_grows (Lose k) g = go (slice_get g.wire k)
  where
    go : (found : Option Sent) → Begins g.audit (lose g k found).audit
    go None = Begins-refl g.audit
    go (Some m) = Begins-refl g.audit
step_grows (Repeat k) g = go (slice_get g.wire k)
  where
    go : (found : Option Sent) → Begins g.audit (again g found).audit
    go None = Begins-refl g.audit
    go (Some m) = Begins-refl g.audit
step_grows (NewInterval acting up) g = if_grows g.audit (same_set acting (last_set g.sets)) (with_up g up) (if has_all_intervals g then g else begin (with_up g up) acting) (Begins-refl g.audit)
    (if_grows g.audit (has_all_intervals g) g (begin (with_up g up) acting) (Begins-refl g.audit) (Begins-refl g.audit))
step_grows (Restart d) g = if_grows g.audit (is_in (last_set g.sets) d) (if has_all_intervals g then g else begin (record g { copies = map (λ c. if c.number == d then restarted c else c) g.copies }) (last_set g.sets)) (record g { copies = map (λ c. if c.number == d then restarted c else c) g.copies })
    (if_grows g.audit (has_all_intervals g) g (begin (record g { copies = map (λ c. if c.number == d then restarted c else c) g.copies }) (last_set g.sets)) (Begins-refl g.audit) (Begins-refl g.audit)) (Begins-refl g.audit)
step_grows Kick g = Begins-refl g.audit

run_grows : (es : List Event) (g : Group) → Begins g.audit (run es g).audit
run_grows [] g = Begins-refl g.audit
run_grows (e ∷ es) g = Begins-trans (step_grows e g) (run_grows es (group_step g e))

pub run-append : (es fs : List Event) (g : Group) → run (es ++ fs) g ≡ run fs (run es g)
run-append [] fs g = refl
run-append (e ∷ es) fs g = run-append es fs (group_step g e)

pub audit_grows : (es fs : List Event) (g : Group) → Begins (run es g).audit (run (es ++ fs) g).audit
audit_grows es fs g = subst (λ v. Begins (run es g).audit v.audit) (sym (run-append es fs g)) (run_grows fs (run es g))
