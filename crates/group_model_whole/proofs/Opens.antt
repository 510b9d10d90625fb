-- A step drops no more than the last entry of a copy's log.
use Rattle.std.proofs.Common.{ℕ, ◌≡◌, ◌≤◌, ◌<◌, ◌-◌, Bool, true, false, not, ◌==◌, ◌&&◌, List, [], ◌∷◌, ◌++◌, map, length, refl, sym, ◌∙◌, ap, subst, arith, inl, inr, if◌then◌else◌}
use Rattle.std.specs.Prelude.{Option, Some, None, slice_get, slice_set}
use Rattle.std.proofs.lemmas.Bool.{cases_eq}
use Rattle.entry_core.specs.Log.{is_in}
use Rattle.store_core.specs.declared.entry.Entry.{Entry}
use Rattle.group_model_whole.specs.Steps.{Stepped, restarted}
use Rattle.group_model_whole.specs.Copy.{copy_step}
use Rattle.group_model_whole.specs.Group.{Group, Event, Submit, Deliver, Lose, Repeat, NewInterval, Restart, Kick, last_set, is_answered, answered, copy_hears, arrives, without, deliver, lose, again, is_submitted, has_all_requests, has_all_intervals, take_request, begin, with_up, same_set, group_step}
use Rattle.group_model_whole.specs.Types.{Daemon, Body, Interval, Query, Info, Install, Installed, Append, Appended, Request, Reply, NotHere, Party, Osd, Client, Sent}
use Rattle.group_model_whole.specs.History.{Begins, History, IsSound, but_last, IsSettled}
use Rattle.group_model_whole.specs.Open.{HasHistory}
use Rattle.group_model_whole.proofs.Eaches.{Each-get}
use Rattle.group_model_whole.proofs.Prefixes.{Begins-trans, Begins-take, Begins-compare}
use Rattle.group_model_whole.proofs.Invariant.{StateOk, SentOk, Extends}
use Rattle.group_model_whole.proofs.Stable.{IsSettled-stays}
use Rattle.group_model_whole.proofs.Fronts.{but_last-begins, IsSettled-shorter, settled_begins}
use Rattle.group_model_whole.proofs.Rules.{comes_after}
use Rattle.group_model_whole.proofs.Groups.{Good, get-set_same, get-set_other, without_good, get-map}

settled_copy : (p : ℕ → ℕ) (z : ℕ) (sets : List (List ℕ)) (h : History) (d : ℕ) (c : Daemon) → IsSound p z sets h → StateOk z sets p h d c → IsSettled sets h c.base (but_last c.log)
settled_copy p z sets h d c sound state = IsSettled-shorter sets h c.base (but_last c.log) (but_last (h.grown c.base)) (but_last-begins state.within) (sound.but_one c.base)

pub has_history : (g : Group) → Good g → HasHistory g
has_history g good = record {
  promise = good.promise;
  history = good.h;
  sound = good.sound;
  fits = λ d c is. (let state = (good.copies d c is).state in
      record { promised = state.promised; held = state.held; within = state.within; but_one = settled_copy good.promise g.min_size g.sets good.h d c good.sound state });
}

-- the same copy before and after the history went on
kept_state : (p : ℕ → ℕ) (z : ℕ) (sets : List (List ℕ)) (h : History) (p' : ℕ → ℕ) (h' : History) (d : ℕ) (c c' : Daemon) → IsSound p z sets h → IsSound p' z sets h' → Extends sets d p h p' h' →
    StateOk z sets p h d c → StateOk z sets p' h' d c' → Begins (but_last c.log) c'.log
kept_state p z sets h p' h' d c c' sound sound' to state state' =
    let kept = to.kept c.base (length c.log) (record { most = length c.log; is = state.held; enough = omega arith }) in
    let low = state'.held_below c.base kept.most kept.is in
    elim (cases_eq c.base c'.base) [
      | inl same ↦ (
          let now : h'.held d c.base ≡ Some (length c'.log) = subst (λ v. h'.held d v ≡ Some (length c'.log)) (sym same) state'.held in
          let was = kept.is in
          let equal : kept.most ≡ length c'.log = cc in
          let le : length c.log ≤ length c'.log = omega (arith, kept.enough) in
          let within : Begins c'.log (h'.grown c.base) = subst (λ v. Begins c'.log (h'.grown v)) (sym same) state'.within in
          Begins-trans (Begins-take (length c.log - 1) c.log) (Begins-compare (Begins-trans state.within (to.grows c.base)) within le))
      | inr other ↦ (
          let before : c.base < c'.base = omega arith in
          let settled = IsSettled-stays z sets d p h p' h' to c.base (but_last c.log) (settled_copy p z sets h d c sound state) in
          Begins-trans (settled_begins p' z sets h' sound' c.base c'.base (but_last c.log) state'.source settled before state'.source_is) state'.begins)
    ]

-- a copy after an event has all but the last entry that it had
abbrev Keeps : ℕ → List Entry → Group → Type 0
Keeps d log g = (c' : Daemon) → slice_get g.copies d ≡ Some c' → Begins (but_last log) c'.log

keeps_if : (d : ℕ) (log : List Entry) (b : Bool) (x y : Group) → Keeps d log x → Keeps d log y → Keeps d log (if b then x else y)
keeps_if d log true x y p q = p
keeps_if d log false x y p q = q

same_keeps : (g : Group) (d : ℕ) (c : Daemon) → slice_get g.copies d ≡ Some c → Keeps d c.log g
same_keeps g d c is c' is' = (let same : c ≡ c' = cc in subst (λ v. Begins (but_last c.log) v.log) same (Begins-take (length c.log - 1) c.log))

mapped_keeps : (g h : Group) (which : Daemon → Bool) (d : ℕ) (c : Daemon) → slice_get g.copies d ≡ Some c → h.copies ≡ map (λ v. if which v then restarted v else v) g.copies → Keeps d c.log h
mapped_keeps g h which d c is copies c' is' =
    let is'' : slice_get (map (λ v. if which v then restarted v else v) g.copies) d ≡ Some c' = subst (λ l. slice_get l d ≡ Some c') copies is' in
    let m = get-map (λ v. if which v then restarted v else v) g.copies d c' is'' in
    let there = m.is_item in
    let same : m.item ≡ c = cc in
    subst (λ v. Begins (but_last c.log) v.log) (ap (λ v. if which v then restarted v else v) (sym same) ∙ m.is) (one (which c))
  where
    one : (b : Bool) → Begins (but_last c.log) (if b then restarted c else c).log
    one true = Begins-take (length c.log - 1) c.log
    one false = Begins-take (length c.log - 1) c.log

hears_keeps : (g : Group) (m : Sent) (e : ℕ) (found : Option Daemon) (good : Good g) → slice_get g.copies e ≡ found → SentOk g.sets good.promise good.h m →
    (d : ℕ) (c : Daemon) → slice_get g.copies d ≡ Some c → Keeps d c.log (copy_hears g m e found)
hears_keeps g m e None good here ok d c is c' is' = same_keeps g d c is c' is'
hears_keeps g m e (Some b) good here ok d c is c' is' =
    let s : Stepped = copy_step b (record { from = m.from; body = m.body }) in
    let a = comes_after g.min_size g.sets e m.body good.promise good.h b m.from good.sound (good.copies e b here) ok in
    elim (cases_eq d e) [
      | inl same ↦ (
          let here' : slice_get g.copies d ≡ Some b = subst (λ v. slice_get g.copies v ≡ Some b) (sym same) here in
          let was : b ≡ c = cc in
          let there : slice_get (slice_set g.copies e s.copy) e ≡ Some s.copy = get-set_same g.copies e b s.copy here in
          let there' : slice_get (slice_set g.copies e s.copy) e ≡ Some c' = subst (λ v. slice_get (slice_set g.copies e s.copy) v ≡ Some c') same is' in
          let now : s.copy ≡ c' = cc in
          let kept : Begins (but_last b.log) s.copy.log = kept_state good.promise g.min_size g.sets good.h a.promise' a.h' e b s.copy good.sound a.sound a.to (good.copies e b here).state a.copy.state in
          subst (λ v. Begins (but_last v.log) c'.log) was (subst (λ v. Begins (but_last b.log) v.log) now kept))
      | inr other ↦ same_keeps g d c is c' (sym (get-set_other g.copies e d s.copy other) ∙ is')
    ]

answered_keeps : (g : Group) (b : Body) (d : ℕ) (c : Daemon) → slice_get g.copies d ≡ Some c → Keeps d c.log (answered g b)
answered_keeps g (Reply id reply) d c is = keeps_if d c.log (is_answered g.answers id) g (record g { answers = g.answers ++ record { id = id; reply = reply } ∷ [] }) (same_keeps g d c is) (same_keeps g d c is)
answered_keeps g (Interval sets) d c is = same_keeps g d c is
answered_keeps g (Query n) d c is = same_keeps g d c is
answered_keeps g (Info n base log) d c is = same_keeps g d c is
answered_keeps g (Install n log) d c is = same_keeps g d c is
answered_keeps g (Installed n) d c is = same_keeps g d c is
answered_keeps g (Append n place s) d c is = same_keeps g d c is
answered_keeps g (Appended n place) d c is = same_keeps g d c is
answered_keeps g (Request s) d c is = same_keeps g d c is
answered_keeps g (NotHere id) d c is = same_keeps g d c is

arrives_keeps : (g : Group) (m : Sent) (to : Party) (good : Good g) → SentOk g.sets good.promise good.h m → (d : ℕ) (c : Daemon) → slice_get g.copies d ≡ Some c → Keeps d c.log (arrives g m to)
arrives_keeps g m Client good ok d c is = answered_keeps g m.body d c is
arrives_keeps g m (Osd e) good ok d c is = keeps_if d c.log (is_in g.up e) (copy_hears g m e (slice_get g.copies e)) g (hears_keeps g m e (slice_get g.copies e) good refl ok d c is) (same_keeps g d c is)

pub step_keeps : (e : Event) (g : Group) → Good g → (d : ℕ) (c : Daemon) → slice_get g.copies d ≡ Some c → Keeps d c.log (group_step g e)
step_keeps (Submit s) g good d c is = keeps_if d c.log (is_submitted g.requests s.id) g (if has_all_requests g then g else take_request g s) (same_keeps g d c is)
    (keeps_if d c.log (has_all_requests g) g (take_request g s) (same_keeps g d c is) (same_keeps g d c is))
step_keeps (Deliver k) g good d c is = go (slice_get g.wire k) refl
  where
    go : (found : Option Sent) → slice_get g.wire k ≡ found → Keeps d c.log (deliver g k found)
    go None here = same_keeps g d c is
    go (Some m) here = arrives_keeps (without g k) m m.to (without_good g k good) (Each-get (SentOk g.sets good.promise good.h) g.wire k m good.wire here) d c is
step_keeps (Lose k) g good d c is = go (slice_get g.wire k)
  where
    go : (found : Option Sent) → Keeps d c.log (lose g k found)
    go None = same_keeps g d c is
    go (Some m) = same_keeps g d c is
step_keeps (Repeat k) g good d c is = go (slice_get g.wire k)
  where
    go : (found : Option Sent) → Keeps d c.log (again g found)
    go None = same_keeps g d c is
    go (Some m) = same_keeps g d c is
step_keeps (NewInterval acting up) g good d c is =
    let ready : Keeps d c.log (with_up g up) = mapped_keeps g (with_up g up) (λ v. is_in g.up v.number && not (is_in up v.number)) d c is refl in
    keeps_if d c.log (same_set acting (last_set g.sets)) (with_up g up) (if has_all_intervals g then g else begin (with_up g up) acting) ready
    (keeps_if d c.log (has_all_intervals g) g (begin (with_up g up) acting) (same_keeps g d c is) ready)
step_keeps (Restart n) g good d c is =
    let ready : Keeps d c.log (record g { copies = map (λ v. if v.number == n then restarted v else v) g.copies }) = mapped_keeps g (record g { copies = map (λ v. if v.number == n then restarted v else v) g.copies }) (λ v. v.number == n) d c is refl in
    keeps_if d c.log (is_in (last_set g.sets) n) (if has_all_intervals g then g else begin (record g { copies = map (λ v. if v.number == n then restarted v else v) g.copies }) (last_set g.sets)) (record g { copies = map (λ v. if v.number == n then restarted v else v) g.copies })
    (keeps_if d c.log (has_all_intervals g) g (begin (record g { copies = map (λ v. if v.number == n then restarted v else v) g.copies }) (last_set g.sets)) (same_keeps g d c is) ready) ready
step_keeps Kick g good d c is = same_keeps g d c is

pub open_shown : (g : Group) → Good g → (d : ℕ) (c : Daemon) → slice_get g.copies d ≡ Some c → Begins (but_last c.log) g.audit
open_shown g good d c is = Begins-trans (but_last-begins (good.copies d c is).state.within) (good.shown c.base)
