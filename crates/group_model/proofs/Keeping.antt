-- What a copy promised and showed to be decided it keeps.
use Rattle.std.proofs.Common.{ℕ, ◌≡◌, ◌≤◌, ◌<◌, ◌-◌, Bool, true, false, not, ◌==◌, ◌&&◌, List, [], ◌∷◌, ◌++◌, map, length, refl, sym, ◌∙◌, ap, subst, arith, inl, inr, ◌⊎◌, if◌then◌else◌}
use Rattle.std.specs.Prelude.{Option, Some, None, slice_get, slice_set}
use Rattle.std.proofs.lemmas.Bool.{cases_eq}
use Rattle.entry_core.specs.Log.{is_in}
use Rattle.store_core.specs.declared.entry.Entry.{Entry}
use Rattle.group_model_whole.specs.Copy.{on_body as whole_on_body}
use Rattle.group_model_whole.specs.Decided.{decided_by as whole_decided_by}
use Rattle.group_model_whole.specs.Types.{Role as WholeRole, Idle as WholeIdle, Peering as WholePeering, Installing as WholeInstalling, Active as WholeActive, Daemon, Sent as WholeSent, Party, Osd, Client}
use Rattle.group_model_whole.specs.Each.{Each}
use Rattle.group_model_whole.specs.Group.{Group as WholeGroup, Event, Submit, Deliver, Lose, Repeat, NewInterval, Restart, Kick, last_set, is_answered, is_submitted, same_set, group_step as whole_group_step, run as whole_run, start as whole_start}
use Rattle.group_model_whole.specs.Asked.{IsAsked, InCopy, InBody}
use Rattle.group_model_whole.specs.History.{Begins, History, Held, IsSound, but_last, IsSettled}
use Rattle.group_model_whole.proofs.Eaches.{Each-get}
use Rattle.group_model_whole.proofs.Fronts.{but_last-begins, IsSettled-shorter, settled_begins}
use Rattle.group_model_whole.proofs.Groups.{get-set_same, get-set_other, get-map, audit_grows}
use Rattle.group_model_whole.proofs.Invariant.{RoleOk, StateOk, CopyOk, SentOk, Extends}
use Rattle.group_model_whole.proofs.Prefixes.{Begins-trans, Begins-refl, Begins-nil, Begins-take, Begins-compare}
use Rattle.group_model_whole.proofs.Stable.{IsSettled-stays}
use Rattle.group_model.specs.Types.{Role, Idle, Peering, Installing, Active, Body, Interval, Query, Info, Install, Installed, Append, Appended, Request, Reply, NotHere, Sent, Copy}
use Rattle.peer_core.specs.Steps.{restarted}
use Rattle.peer_core.specs.Decided.{decided_by}
use Rattle.peer_core.specs.Copy.{on_body}
use Rattle.group_model.specs.Group.{Group, answered, copy_hears, arrives, without, deliver, lose, again, has_all_requests, has_all_intervals, take_request, begin, with_up, group_step, run, start}
use Rattle.group_model.specs.Refinement.{CopyKeeps, GroupKeeps, PromisesAreKept}
use Rattle.group_model.proofs.Agreeing.{BodyAgrees, SentAgrees, CopyAgrees}
use Rattle.group_model.proofs.Lists.{IfBoth, Both-get}
use Rattle.group_model.proofs.Locked.{Facts}
use Rattle.group_model.proofs.Hearing.{shown_same, after, step}
use Rattle.group_model.proofs.Events.{Lock, step_locked, reached_locked}

-- a copy of whole logs, before and after its step
record WholeKeeps (old new : Daemon) : Type 0 where
  promise : old.promise ≤ new.promise
  base : old.base ≤ new.base
  log : Begins (but_last old.log) new.log
  decided : Begins (whole_decided_by old.role old.log) new.log

-- what a copy shows to be decided is settled at its base, and begins its log
shown_begins : (r : WholeRole) (log : List Entry) → Begins (whole_decided_by r log) log
shown_begins WholeIdle log = Begins-nil log
shown_begins (WholePeering infos) log = Begins-nil log
shown_begins (WholeInstalling done) log = Begins-nil log
shown_begins (WholeActive None) log = Begins-refl log
shown_begins (WholeActive (Some holders)) log = Begins-take (length log - 1) log

shown_settled : (z : ℕ) (sets : List (List ℕ)) (p : ℕ → ℕ) (h : History) (d : ℕ) (c : Daemon) (r : WholeRole) → IsSound p z sets h → StateOk z sets p h d c → RoleOk z sets p h d c r → IsSettled sets h c.base (whole_decided_by r c.log)
shown_settled z sets p h d c WholeIdle sound state ok = inl refl
shown_settled z sets p h d c (WholePeering infos) sound state ok = inl refl
shown_settled z sets p h d c (WholeInstalling done) sound state ok = inl refl
shown_settled z sets p h d c (WholeActive (Some holders)) sound state ok = IsSettled-shorter sets h c.base (but_last c.log) (but_last (h.grown c.base)) (but_last-begins state.within) (sound.but_one c.base)
shown_settled z sets p h d c (WholeActive None) sound state ok = subst (λ v. IsSettled sets h v c.log) (sym ok.0.is_base) (inr (record {
  at = c.promise;
  upto = omega arith;
  begins = subst (λ l. Begins c.log l) ok.0.whole (Begins-refl c.log);
  decided = record {
    log = state.source;
    begun = subst (λ v. h.chosen v ≡ Some state.source) ok.0.is_base state.source_is;
    later = ok.0.leads.later;
    by_all = ok.1;
  };
}))

split_le : (a b : ℕ) → a ≤ b → (a ≡ b) ⊎ (a < b)
split_le a b le = elim (cases_eq a b) [ inl same ↦ inl same | inr other ↦ inr (omega arith) ]

whole_keeps : (z : ℕ) (sets : List (List ℕ)) (d : ℕ) (p : ℕ → ℕ) (h : History) (p' : ℕ → ℕ) (h' : History) (old new : Daemon) → Extends sets d p h p' h' → IsSound p z sets h → IsSound p' z sets h' → CopyOk z sets p h d old → StateOk z sets p' h' d new → WholeKeeps old new
whole_keeps z sets d p h p' h' old new to sound sound' ok next =
    let state = ok.state in
    let held : Held h' d old.base (length old.log) = to.kept old.base (length old.log) (record { most = length old.log; is = state.held; enough = omega arith }) in
    let low : old.base ≤ new.base = next.held_below old.base held.most held.is in
    elim (split_le old.base new.base low) [
      | inl same ↦ (
          let longer : Begins old.log new.log = at_base same held in
          record {
            promise = omega (arith, state.promised, next.promised, to.promises d);
            base = low;
            log = Begins-trans (Begins-take (length old.log - 1) old.log) longer;
            decided = Begins-trans (shown_begins old.role old.log) longer;
          })
      | inr above ↦ record {
        promise = omega (arith, state.promised, next.promised, to.promises d);
        base = low;
        log = later (but_last old.log) (IsSettled-shorter sets h old.base (but_last old.log) (but_last (h.grown old.base)) (but_last-begins state.within) (sound.but_one old.base)) above;
        decided = later (whole_decided_by old.role old.log) (shown_settled z sets p h d old old.role sound state ok.role) above;
      }
    ]
  where
    at_base : old.base ≡ new.base → Held h' d old.base (length old.log) → Begins old.log new.log
    at_base same held =
        let there : h'.held d old.base ≡ Some (length new.log) = subst (λ v. h'.held d v ≡ Some (length new.log)) (sym same) next.held in
        let is = held.is in
        let most : held.most ≡ length new.log = cc in
        let mine : Begins old.log (h'.grown old.base) = Begins-trans ok.state.within (to.grows old.base) in
        let within : Begins new.log (h'.grown old.base) = subst (λ v. Begins new.log (h'.grown v)) (sym same) next.within in
        Begins-compare mine within (omega (arith, held.enough, most))

    later : (es : List Entry) → IsSettled sets h old.base es → old.base < new.base → Begins es new.log
    later es settled above = Begins-trans (settled_begins p' z sets h' sound' old.base new.base es next.source (IsSettled-stays z sets d p h p' h' to old.base es settled) above next.source_is) next.begins

-- the same of a copy that sends suffixes
agreed_keeps : (p : ℕ → ℕ) (h : History) (p' : ℕ → ℕ) (h' : History) (c c' : Copy) (w w' : Daemon) → CopyAgrees p h c w → CopyAgrees p' h' c' w' → WholeKeeps w w' → CopyKeeps c c'
agreed_keeps p h p' h' c c' w w' a a' keeps =
    let promise = ap (λ (v : Daemon). v.promise) a.is in
    let promise' = ap (λ (v : Daemon). v.promise) a'.is in
    let base = ap (λ (v : Daemon). v.base) a.is in
    let base' = ap (λ (v : Daemon). v.base) a'.is in
    let log = ap (λ (v : Daemon). v.log) a.is in
    let log' = ap (λ (v : Daemon). v.log) a'.is in
    record {
      promise = subst (λ v. c.promise ≤ v) promise' (subst (λ v. v ≤ w'.promise) promise keeps.promise);
      base = subst (λ v. c.base ≤ v) base' (subst (λ v. v ≤ w'.base) base keeps.base);
      log = subst (λ l. Begins (but_last c.log) l) log' (subst (λ l. Begins (but_last l) w'.log) log keeps.log);
      decided = subst (λ l. Begins (decided_by c.role c.log) l) log' (subst (λ l. Begins l w'.log) (sym (shown_same p h c w a)) keeps.decided);
    }

-- groups

abbrev CopiesKeep : List Copy → List Copy → Type 0
CopiesKeep old new = (d : ℕ) (c c' : Copy) → slice_get old d ≡ Some c → slice_get new d ≡ Some c' → CopyKeeps c c'

copy_stays : (c : Copy) → CopyKeeps c c
copy_stays c = record { promise = omega arith; base = omega arith; log = Begins-take (length c.log - 1) c.log; decided = shown c.role c.log }
  where
    shown : (r : Role) (log : List Entry) → Begins (decided_by r log) log
    shown Idle log = Begins-nil log
    shown (Peering informed) log = Begins-nil log
    shown (Installing done common) log = Begins-nil log
    shown (Active None) log = Begins-refl log
    shown (Active (Some holders)) log = Begins-take (length log - 1) log

copies_stay : (cs : List Copy) → CopiesKeep cs cs
copies_stay cs d c c' is is' = let same : c ≡ c' = cc in subst (CopyKeeps c) same (copy_stays c)

restarts_keep : (which : Copy → Bool) (cs : List Copy) → CopiesKeep cs (map (λ c. if which c then restarted c else c) cs)
restarts_keep which cs d c c' is is' =
    let m = get-map (λ (v : Copy). if which v then restarted v else v) cs d c' is' in
    let there = m.is_item in
    let same : m.item ≡ c = cc in
    subst (CopyKeeps c) (ap (λ (v : Copy). if which v then restarted v else v) (sym same) ∙ m.is) (go (which c))
  where
    go : (b : Bool) → CopyKeeps c (if b then restarted c else c)
    go true = record { promise = (copy_stays c).promise; base = (copy_stays c).base; log = (copy_stays c).log; decided = (copy_stays c).decided }
    go false = copy_stays c

set_keeps : (cs : List Copy) (d : ℕ) (c new : Copy) → slice_get cs d ≡ Some c → CopyKeeps c new → CopiesKeep cs (slice_set cs d new)
set_keeps cs d c new here keeps e v v' is is' = elim (cases_eq e d) [
  | inl same ↦ (
      let there : slice_get (slice_set cs d new) d ≡ Some new = get-set_same cs d c new here in
      let is'' : slice_get (slice_set cs d new) d ≡ Some v' = subst (λ i. slice_get (slice_set cs d new) i ≡ Some v') same is' in
      let was : slice_get cs d ≡ Some v = subst (λ i. slice_get cs i ≡ Some v) same is in
      let one : c ≡ v = cc in
      let two : new ≡ v' = cc in
      subst (λ i. CopyKeeps i v') one (subst (CopyKeeps c) two keeps))
  | inr other ↦ copies_stay cs e v v' is (sym (get-set_other cs d e new other) ∙ is')
]

keep_if : (cs : List Copy) (b : Bool) (x y : Group) → CopiesKeep cs x.copies → CopiesKeep cs y.copies → CopiesKeep cs (if b then x else y).copies
keep_if cs true x y a b = a
keep_if cs false x y a b = b

answered_keeps : (g : Group) (b : Body) → CopiesKeep g.copies (answered g b).copies
answered_keeps g (Reply id reply) = keep_if g.copies (is_answered g.answers id) g (record g { answers = g.answers ++ record { id = id; reply = reply } ∷ [] }) (copies_stay g.copies) (copies_stay g.copies)
answered_keeps g (Interval sets) = copies_stay g.copies
answered_keeps g (Query n len end) = copies_stay g.copies
answered_keeps g (Info n base start part) = copies_stay g.copies
answered_keeps g (Install n start part) = copies_stay g.copies
answered_keeps g (Installed n) = copies_stay g.copies
answered_keeps g (Append n place s) = copies_stay g.copies
answered_keeps g (Appended n place) = copies_stay g.copies
answered_keeps g (Request s) = copies_stay g.copies
answered_keeps g (NotHere id) = copies_stay g.copies

module _ (g : Group) (ws : List Daemon) (ms : List WholeSent) (f : Facts g.min_size g.sets g.requests g.copies g.wire ws ms) (copies_asked : Each (InCopy (IsAsked g.requests)) ws) (wire_asked : Each (λ (m : WholeSent). InBody (IsAsked g.requests) m.body) ms) where
  heard_keeps : (m : Sent) (m' : WholeSent) (d : ℕ) (c : Copy) (w : Daemon) → slice_get ws d ≡ Some w → CopyAgrees f.promise f.h c w → m'.from ≡ m.from → BodyAgrees f.promise f.h m.from (Osd d) m.body m'.body →
      InBody (IsAsked g.requests) m'.body → SentOk g.sets f.promise f.h m' → CopyKeeps c (on_body m.body c m.from).copy
  heard_keeps m m' d c w here agrees from says asks good =
      let a = after g.min_size g.sets g.requests g.copies g.wire ws ms f d c w here agrees (Each-get (InCopy (IsAsked g.requests)) ws d w copies_asked here) m'.body m'.from good in
      let says' = subst (λ v. BodyAgrees f.promise f.h v (Osd d) m.body m'.body) (sym from) says in
      let s = step g.min_size g.sets g.requests g.copies g.wire ws ms f d c w here agrees (Each-get (InCopy (IsAsked g.requests)) ws d w copies_asked here) m.body m'.body m'.from says' asks a good in
      subst (λ v. CopyKeeps c (on_body m.body c v).copy) from
      (agreed_keeps f.promise f.h a.promise' a.h' c (on_body m.body c m'.from).copy w (whole_on_body m'.body w m'.from).copy agrees s.copy
      (whole_keeps g.min_size g.sets d f.promise f.h a.promise' a.h' w (whole_on_body m'.body w m'.from).copy a.to f.sound a.sound (f.copies_ok d w here) a.copy.state))

  hears_keep : (m : Sent) (m' : WholeSent) (d : ℕ) (found : Option Copy) (found' : Option Daemon) → slice_get g.copies d ≡ found → slice_get ws d ≡ found' → IfBoth (CopyAgrees f.promise f.h) found found' → m'.from ≡ m.from → BodyAgrees f.promise f.h m.from (Osd d) m.body m'.body →
      InBody (IsAsked g.requests) m'.body → SentOk g.sets f.promise f.h m' → CopiesKeep g.copies (copy_hears g m d found).copies
  hears_keep m m' d None found' here there agrees from says asks good = copies_stay g.copies
  hears_keep m m' d (Some c) None here there agrees from says asks good = absurd agrees
  hears_keep m m' d (Some c) (Some w) here there agrees from says asks good = set_keeps g.copies d c (on_body m.body c m.from).copy here (heard_keeps m m' d c w there agrees from says asks good)

  arrives_keeps : (k : ℕ) (m : Sent) (m' : WholeSent) (to : Party) → m'.from ≡ m.from → BodyAgrees f.promise f.h m.from to m.body m'.body → InBody (IsAsked g.requests) m'.body → SentOk g.sets f.promise f.h m' → CopiesKeep g.copies (arrives (without g k) m to).copies
  arrives_keeps k m m' Client from says asks good = answered_keeps (without g k) m.body
  arrives_keeps k m m' (Osd d) from says asks good = keep_if g.copies (is_in g.up d) (copy_hears (without g k) m d (slice_get g.copies d)) (without g k) (heard_by (slice_get g.copies d) refl) (copies_stay g.copies)
    where
      same : (found : Option Copy) → CopiesKeep g.copies (copy_hears g m d found).copies → CopiesKeep g.copies (copy_hears (without g k) m d found).copies
      same None keeps = keeps
      same (Some c) keeps = keeps

      heard_by : (found : Option Copy) → slice_get g.copies d ≡ found → CopiesKeep g.copies (copy_hears (without g k) m d found).copies
      heard_by found is = same found (hears_keep m m' d found (slice_get ws d) is refl (subst (λ v. IfBoth (CopyAgrees f.promise f.h) v (slice_get ws d)) is (Both-get (CopyAgrees f.promise f.h) g.copies ws d f.copies)) from says asks good)

  deliver_keeps : (k : ℕ) (found : Option Sent) (found' : Option WholeSent) → slice_get ms k ≡ found' → IfBoth (SentAgrees f.promise f.h) found found' → CopiesKeep g.copies (deliver g k found).copies
  deliver_keeps k None found' is says = copies_stay g.copies
  deliver_keeps k (Some m) None is says = absurd says
  deliver_keeps k (Some m) (Some m') is says = arrives_keeps k m m' m.to says.from says.body
      (Each-get (λ (v : WholeSent). InBody (IsAsked g.requests) v.body) ms k m' wire_asked is) (Each-get (SentOk g.sets f.promise f.h) ms k m' f.wire_ok is)

  lose_keeps : (k : ℕ) (found : Option Sent) → CopiesKeep g.copies (lose g k found).copies
  lose_keeps k None = copies_stay g.copies
  lose_keeps k (Some m) = copies_stay g.copies

  again_keeps : (found : Option Sent) → CopiesKeep g.copies (again g found).copies
  again_keeps None = copies_stay g.copies
  again_keeps (Some m) = copies_stay g.copies

  step_keeps : (e : Event) → CopiesKeep g.copies (group_step g e).copies
  step_keeps (Submit s) = keep_if g.copies (is_submitted g.requests s.id) g (if has_all_requests g then g else take_request g s) (copies_stay g.copies) (keep_if g.copies (has_all_requests g) g (take_request g s) (copies_stay g.copies) (copies_stay g.copies))
  step_keeps (Deliver k) = deliver_keeps k (slice_get g.wire k) (slice_get ms k) refl (Both-get (SentAgrees f.promise f.h) g.wire ms k f.wire)
  step_keeps (Lose k) = lose_keeps k (slice_get g.wire k)
  step_keeps (Repeat k) = again_keeps (slice_get g.wire k)
  step_keeps (NewInterval acting up) = keep_if g.copies (same_set acting (last_set g.sets)) (with_up g up) (if has_all_intervals g then g else begin (with_up g up) acting) restarts
      (keep_if g.copies (has_all_intervals g) g (begin (with_up g up) acting) (copies_stay g.copies) restarts)
    where
      restarts : CopiesKeep g.copies (with_up g up).copies
      restarts = restarts_keep (λ c. is_in g.up c.number && not (is_in up c.number)) g.copies
  step_keeps (Restart d) = keep_if g.copies (is_in (last_set g.sets) d) (if has_all_intervals g then g else begin (record g { copies = map (λ c. if c.number == d then restarted c else c) g.copies }) (last_set g.sets)) (record g { copies = map (λ c. if c.number == d then restarted c else c) g.copies })
      (keep_if g.copies (has_all_intervals g) g (begin (record g { copies = map (λ c. if c.number == d then restarted c else c) g.copies }) (last_set g.sets)) (copies_stay g.copies) restarts) restarts
    where
      restarts : CopiesKeep g.copies (map (λ c. if c.number == d then restarted c else c) g.copies)
      restarts = restarts_keep (λ c. c.number == d) g.copies
  step_keeps Kick = copies_stay g.copies

locked_keeps : (g : Group) (w : WholeGroup) (e : Event) → Lock g w → GroupKeeps g (group_step g e)
locked_keeps g w e l =
    let requests : w.requests ≡ g.requests = ap (λ (v : WholeGroup). v.requests) l.agree.is in
    let next = step_locked g w e l in
    let audit : w.audit ≡ g.audit = ap (λ (v : WholeGroup). v.audit) l.agree.is in
    let audit' : (whole_group_step w e).audit ≡ (group_step g e).audit = ap (λ (v : WholeGroup). v.audit) next.agree.is in
    record {
      copies = step_keeps g w.copies w.wire l.agree.facts
          (subst (λ rs. Each (InCopy (IsAsked rs)) w.copies) requests l.kept.asked.copies)
          (subst (λ rs. Each (λ (m : WholeSent). InBody (IsAsked rs) m.body) w.wire) requests l.kept.asked.wire) e;
      audit = subst (λ v. Begins g.audit v) audit' (subst (λ v. Begins v (whole_group_step w e).audit) audit (audit_grows [] (e ∷ []) w));
    }

pub promises_kept : PromisesAreKept
promises_kept group z count acting up es e = locked_keeps (run es (start group z count acting up)) (whole_run es (whole_start group z count acting up)) e (reached_locked group z count acting up es)
