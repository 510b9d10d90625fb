-- Each rule of a copy keeps the invariant.
use Rattle.std.proofs.Common.{ℕ, ◌≡◌, ◌≤◌, ◌<◌, ◌+◌, ◌-◌, Bool, true, false, not, ◌==◌, ◌&&◌, nat_lt, List, [], ◌∷◌, ◌++◌, length, refl, sym, ◌∙◌, ap, subst, arith, length-append, append_assoc, inl, inr, ◌⊎◌, if◌then◌else◌}
use Rattle.std.specs.Prelude.{Option, Some, None}
use Rattle.std.specs.List.{list_any, list_all, filter}
use Rattle.std.proofs.lemmas.Bool.{cases_eq, eqb-true, eq-eqb, ne_eqb, ltb-true, ltb-false, and_parts, not-true, both_ways, or_cases}
use Rattle.entry_core.specs.Log.{is_in, ids, Legal, decide, decide-sealed, find}
use Rattle.store_core.specs.Request.{Sealed}
use Rattle.store_core.specs.declared.entry.Entry.{Entry}
use Rattle.group_model_whole.specs.Steps.{Stepped, still, send}
use Rattle.group_model_whole.specs.ActingSets.{set_of, is_primary, others, asked, all_count, counted}
use Rattle.group_model_whole.specs.Copy.{promise_interval, waits, busy_request, on_request_as, on_request, install_chosen, try_choice, queries, learn_sets, leads, lead, on_interval, on_query, on_info, on_install, on_installed, acknowledged, on_append, complete, on_appended, on_body}
use Rattle.group_model_whole.specs.Decided.{not_in_flight, with_entry, last}
use Rattle.group_model_whole.specs.Serve.{push_new, serve_one, serve, reply_with}
use Rattle.group_model_whole.specs.Choice.{best, own_offer, is_informed, can_choose}
use Rattle.group_model_whole.specs.Types.{PeerInfo, Role, Idle, Peering, Installing, Active, Daemon, Body, Interval, Query, Info, Install, Installed, Append, Appended, Request, Reply, NotHere, Party, Osd, Client, Sent}
use Rattle.group_model_whole.specs.Each.{Each}
use Rattle.group_model_whole.specs.History.{Begins, History, Held, IsOpened, IsSound, but_last, IsSettled}
use Rattle.group_model_whole.specs.Offer.{IsTold, IsOffer}
use Rattle.group_model_whole.proofs.Countings.{at_member, Each-counted}
use Rattle.group_model_whole.proofs.Eaches.{Each-append, Each-push, Each-map_all, Each-weaker}
use Rattle.group_model_whole.proofs.Logs.{absent, Legal-push, LegalFrom-at, LegalFrom-front}
use Rattle.group_model_whole.proofs.Prefixes.{Begins-trans, Begins-refl, Begins-nil, Begins-push, Begins-length, Begins-same}
use Rattle.group_model_whole.proofs.Invariant.{IsKnown, Leads, AllHold, Owns, RoleOk, StateOk, CopyOk, IsPlaced, HasInstalled, BodyOk, SentOk, Extends}
use Rattle.group_model_whole.proofs.Stable.{AllHold-stays, BodyOk-stays, Extends-trans, is_first_unique}
use Rattle.group_model_whole.proofs.Changes.{put, put-same, changed, changed-chosen, changed-grown, changed-held, changed-held_other, CanChange, changed_extends, changed_sound, promise_extends, promise_sound}
use Rattle.group_model_whole.proofs.Choices.{chosen_opened, best_among}
use Rattle.group_model_whole.proofs.Fronts.{but_last-begins, IsSettled-shorter, IsSettled-later}
use Rattle.group_model_whole.proofs.Leading.{Grew, or_true, but_last-push, grew_at, grew_same, serve_leads}

pub record After (min_size : ℕ) (sets : List (List ℕ)) (promise : ℕ → ℕ) (h : History) (d : ℕ) (s : Stepped) : Type 0 where
  pub promise' : ℕ → ℕ
  pub h' : History
  pub to : Extends sets d promise h promise' h'
  pub sound : IsSound promise' min_size sets h'
  pub copy : CopyOk min_size sets promise' h' d s.copy
  pub only : (n : ℕ) → (h'.grown n ≡ h.grown n) ⊎ Grew n s.copy
  pub sent : Each (SentOk sets promise' h') s.sent

pub Extends-refl : (sets : List (List ℕ)) (d : ℕ) (p : ℕ → ℕ) (h : History) → Extends sets d p h p h
Extends-refl sets d p h = record {
  promises = λ m. omega arith;
  others = λ m other. (refl, λ j. refl);
  chosen = λ n log is. (is, refl);
  grows = λ n. Begins-refl (h.grown n);
  frozen = λ j early. refl;
  kept = λ j k held. held;
  by_first = λ n. inl (refl, refl);
}

module _ (z : ℕ) (sets : List (List ℕ)) (d : ℕ) where
  -- a change of the copy and messages that the history knows already
  pub plain_after : (p : ℕ → ℕ) (h : History) (c : Daemon) (sent : List Sent) → IsSound p z sets h → CopyOk z sets p h d c → Each (SentOk sets p h) sent → After z sets p h d (record { copy = c; sent = sent })
  plain_after p h c sent sound ok each = record { promise' = p; h' = h; to = Extends-refl sets d p h; sound = sound; copy = ok; only = λ n. inl refl; sent = each }

  pub still_after : (p : ℕ → ℕ) (h : History) (c : Daemon) → IsSound p z sets h → CopyOk z sets p h d c → After z sets p h d (still c)
  still_after p h c sound ok = plain_after p h c [] sound ok tt

  -- more messages before those of a step
  pub sent_before : (p : ℕ → ℕ) (h : History) (first : List Sent) (s : Stepped) → Each (SentOk sets p h) first → After z sets p h d s → After z sets p h d (record { copy = s.copy; sent = first ++ s.sent })
  sent_before p h first s each a = record {
    promise' = a.promise';
    h' = a.h';
    to = a.to;
    sound = a.sound;
    copy = a.copy;
    only = a.only;
    sent = Each-append (SentOk sets a.promise' a.h') first s.sent
        (Each-weaker (SentOk sets p h) (SentOk sets a.promise' a.h') (λ m. BodyOk-stays z sets d p h a.promise' a.h' a.to m.from m.body) first each) a.sent;
  }

  -- a step after the history went on
  pub later_after : (p : ℕ → ℕ) (h : History) (p' : ℕ → ℕ) (h' : History) (s : Stepped) → Extends sets d p h p' h' → ((n : ℕ) → (h'.grown n ≡ h.grown n) ⊎ Grew n s.copy) → After z sets p' h' d s → After z sets p h d s
  later_after p h p' h' s to first a = record {
    promise' = a.promise';
    h' = a.h';
    to = Extends-trans sets d p h p' h' a.promise' a.h' to a.to;
    sound = a.sound;
    copy = a.copy;
    only = λ n. (elim (a.only n) [
      | inl same ↦ (elim (first n) [ inl was ↦ inl (same ∙ was) | inr grew ↦ inr grew ])
      | inr grew ↦ inr grew
    ]);
    sent = a.sent;
  }

  pub by_test : (p : ℕ → ℕ) (h : History) (b : Bool) (x y : Stepped) → (b ≡ true → After z sets p h d x) → (b ≡ false → After z sets p h d y) → After z sets p h d (if b then x else y)
  by_test p h true x y f g = f refl
  by_test p h false x y f g = g refl

  pub StateOk-same : (p : ℕ → ℕ) (h : History) (c : Daemon) (r : Role) (w : List Sealed) → StateOk z sets p h d c → StateOk z sets p h d (record c { role = r; waiting = w })
  StateOk-same p h c r w ok = record {
    number = ok.number;
    same_size = ok.same_size;
    promised = ok.promised;
    reached = ok.reached;
    base = ok.base;
    known = ok.known;
    source = ok.source;
    source_is = ok.source_is;
    begins = ok.begins;
    within = ok.within;
    held = ok.held;
    held_below = ok.held_below;
  }

  -- a later promise, without a role
  pub StateOk-promise : (p : ℕ → ℕ) (h : History) (c : Daemon) (n : ℕ) (r : Role) (w : List Sealed) → StateOk z sets p h d c → c.promise ≤ n → n ≤ length sets → StateOk z sets (put p d n) h d (record c { promise = n; role = r; waiting = w })
  StateOk-promise p h c n r w ok forward known = record {
    number = ok.number;
    same_size = ok.same_size;
    promised = put-same p d n;
    reached = known;
    base = omega (arith, ok.base);
    known = ok.known;
    source = ok.source;
    source_is = ok.source_is;
    begins = ok.begins;
    within = ok.within;
    held = ok.held;
    held_below = ok.held_below;
  }

  -- what a copy tells of itself on behalf of an interval that it promised
  told_of : (p : ℕ → ℕ) (h : History) (c : Daemon) (n : ℕ) → StateOk z sets p h d c → c.promise ≤ n → (p' : ℕ → ℕ) → p' d ≡ n → IsTold p' h n (record { number = c.number; base = c.base; log = c.log })
  told_of p h c n ok forward p' is = record {
    moved = subst (λ v. n ≤ p' v) (sym ok.number) (omega arith);
    reach = omega (arith, ok.base);
    source = ok.source;
    source_is = ok.source_is;
    begins = ok.begins;
    within = ok.within;
    most = λ j k early held. (
        let held' : h.held d j ≡ Some k = subst (λ v. h.held v j ≡ Some k) ok.number held in (
          ok.held_below j k held',
          λ same. (
              let there : h.held d j ≡ Some (length c.log) = subst (λ v. h.held d v ≡ Some (length c.log)) (sym same) ok.held in
              let equal : k ≡ length c.log = cc in
              omega arith),
        ));
  }

  pub query_after : (p : ℕ → ℕ) (h : History) (c : Daemon) (from : Party) (n : ℕ) → IsSound p z sets h → CopyOk z sets p h d c → n ≤ length sets → After z sets p h d (on_query c from n)
  query_after p h c from n sound ok known = by_test p h (nat_lt n c.promise) (still c) (record { copy = promise_interval c n; sent = send c from (Info n c.base c.log) ∷ [] })
      (λ _. still_after p h c sound ok)
      (λ late. (let forward = ltb-false n c.promise late in answer (nat_lt c.promise n) refl forward))
    where
      answer : (b : Bool) → nat_lt c.promise n ≡ b → c.promise ≤ n → After z sets p h d (record { copy = if b then record c { promise = n; role = Idle; waiting = [] } else c; sent = send c from (Info n c.base c.log) ∷ [] })
      answer true e forward = record {
        promise' = put p d n;
        h' = h;
        to = promise_extends sets p h d n (omega (arith, ok.state.promised));
        sound = promise_sound z sets p h d n (omega (arith, ok.state.promised)) sound;
        copy = record { state = StateOk-promise p h c n Idle [] ok.state forward known; role = tt };
        only = λ j. inl refl;
        sent = (told_of p h c n ok.state forward (put p d n) (put-same p d n), tt);
      }
      answer false e forward =
          let same = ltb-false c.promise n e in
          plain_after p h c (send c from (Info n c.base c.log) ∷ []) sound ok (told_of p h c n ok.state forward p (omega (arith, ok.state.promised)), tt)

  -- the copy after a change of its interval's history
  changed_state : (p : ℕ → ℕ) (h : History) (c : Daemon) (n : ℕ) (source log grown : List Entry) (basis : ℕ) (r : Role) (w : List Sealed) →
      CanChange z sets p h d n source grown basis (length log) → StateOk z sets p h d c → n ≤ length sets → c.base ≤ n →
      Begins source log → Begins log grown →
      StateOk z sets (put p d n) (changed h d n source grown basis (length log)) d (record c { promise = n; base = n; log = log; role = r; waiting = w })
  changed_state p h c n source log grown basis r w can ok reached forward begins within = record {
    number = ok.number;
    same_size = ok.same_size;
    promised = put-same p d n;
    reached = reached;
    base = omega arith;
    known = ok.known;
    source = source;
    source_is = changed-chosen h d n source grown basis (length log);
    begins = begins;
    within = rw (changed-grown h d n source grown basis (length log)) within;
    held = changed-held h d n source grown basis (length log);
    held_below = λ j k is. (elim (cases_eq j n) [
      | inl same ↦ omega arith
      | inr other ↦ (let was = ok.held_below j k (sym (changed-held_other h d n source grown basis (length log) j other) ∙ is) in omega (arith, was))
    ]);
  }

  -- an entry more of the log that the copy owns
  can_push : (p : ℕ → ℕ) (h : History) (c : Daemon) (s : Sealed) → IsSound p z sets h → (state : StateOk z sets p h d c) → Owns z sets h d c → AllHold sets h c.promise (length c.log) → is_in (ids c.log) s.id ≡ false →
      CanChange z sets p h d c.promise state.source (c.log ++ decide c.log s ∷ []) (h.basis c.promise) (length (c.log ++ decide c.log s ∷ []))
  can_push p h c s sound state owns all new =
      let chosen : h.chosen c.promise ≡ Some state.source = subst (λ v. h.chosen v ≡ Some state.source) owns.is_base state.source_is in
      let held : h.held d c.promise ≡ Some (length c.log) = subst (λ v. h.held d v ≡ Some (length c.log)) owns.is_base state.held in
      record {
        forward = omega (arith, state.promised);
        later = owns.leads.later;
        same = λ old is. (let agree : state.source ≡ old = cc in (agree, refl));
        grows = subst (λ l. Begins l (c.log ++ decide c.log s ∷ [])) owns.whole (Begins-push c.log (decide c.log s));
        begins = Begins-trans state.begins (Begins-push c.log (decide c.log s));
        more = λ q is. (let agree : q ≡ length c.log = cc in omega (arith, length-append c.log (decide c.log s ∷ [])));
        legal = Legal-push c.log s (rw owns.whole (sound.legal c.promise)) new;
        opened = sound.opened c.promise state.source owns.leads.later chosen;
        but_one = subst (λ l. IsSettled sets h c.promise l) (sym (but_last-push c.log (decide c.log s))) (inr (record {
          at = c.promise;
          upto = omega arith;
          begins = subst (λ l. Begins c.log l) owns.whole (Begins-refl c.log);
          decided = record { log = state.source; begun = chosen; later = owns.leads.later; by_all = all };
        }));
        by_first = inr owns.leads.first;
      }

  pushed_state : (p : ℕ → ℕ) (h : History) (c : Daemon) (s : Sealed) (r : Role) (w : List Sealed) → IsSound p z sets h → (state : StateOk z sets p h d c) → Owns z sets h d c → AllHold sets h c.promise (length c.log) → is_in (ids c.log) s.id ≡ false →
      StateOk z sets (put p d c.promise) (changed h d c.promise state.source (c.log ++ decide c.log s ∷ []) (h.basis c.promise) (length (c.log ++ decide c.log s ∷ []))) d (record (with_entry c s) { role = r; waiting = w })
  pushed_state p h c s r w sound state owns all new =
      subst (λ v. StateOk z sets (put p d c.promise) (changed h d c.promise state.source (c.log ++ decide c.log s ∷ []) (h.basis c.promise) (length (c.log ++ decide c.log s ∷ []))) d (record (with_entry c s) { base = v; role = r; waiting = w }))
      (sym owns.is_base)
      (changed_state p h c c.promise state.source (c.log ++ decide c.log s ∷ []) (c.log ++ decide c.log s ∷ []) (h.basis c.promise) r w
      (can_push p h c s sound state owns all new) state state.reached state.base (Begins-trans state.begins (Begins-push c.log (decide c.log s))) (Begins-refl (c.log ++ decide c.log s ∷ [])))

  pushed_owns : (p : ℕ → ℕ) (h : History) (c : Daemon) (s : Sealed) (source : List Entry) (r : Role) (w : List Sealed) → Owns z sets h d c →
      Owns z sets (changed h d c.promise source (c.log ++ decide c.log s ∷ []) (h.basis c.promise) (length (c.log ++ decide c.log s ∷ []))) d (record (with_entry c s) { role = r; waiting = w })
  pushed_owns p h c s source r w owns = record {
    leads = record { is_known = owns.leads.is_known; later = owns.leads.later; first = owns.leads.first; members = owns.leads.members };
    is_base = owns.is_base;
    whole = sym (changed-grown h d c.promise source (c.log ++ decide c.log s ∷ []) (h.basis c.promise) (length (c.log ++ decide c.log s ∷ [])));
  }

  -- who is a member of the interval that was promised is this copy or one of the others
  all_members : (P : ℕ → Type 0) (c : Daemon) → c.number ≡ d → IsKnown sets c.known → Leads z sets d c → P d → ((m : ℕ) → is_in (others c) m ≡ true → P m) →
      (m : ℕ) → is_in (set_of sets c.promise) m ≡ true → P m
  all_members P c number known leads mine each m is =
      let read : set_of c.known c.promise ≡ set_of sets c.promise = known.same c.promise leads.later (omega (arith, leads.is_known)) in
      let is' : is_in (set_of c.known c.promise) m ≡ true = rw read is in
      elim (cases_eq m d) [
        | inl same ↦ subst P (sym same) mine
        | inr other ↦ each m (kept (set_of c.known c.promise) is' (λ (e : m ≡ c.number). other (e ∙ number)))
      ]
    where
      kept : (ms : List ℕ) → is_in ms m ≡ true → (m ≡ c.number → ⊥) → is_in (filter (λ i. not (i == c.number)) ms) m ≡ true
      kept [] bad other = bad
      kept (i ∷ ms) is other = elim (cases_eq i c.number) [
        | inl own ↦ (rw (eq-eqb i c.number own) (elim (or_cases (i == m) (is_in ms m) is) [
          | inl here ↦ absurd (other (sym (eqb-true i m here) ∙ own))
          | inr later ↦ kept ms later other
        ]))
        | inr apart ↦ (rw (ne_eqb i c.number apart) (elim (or_cases (i == m) (is_in ms m) is) [
          | inl here ↦ rw here refl
          | inr later ↦ rw (kept ms later other) (or_true (i == m))
        ]))
      ]

  Owns-same : (h : History) (c : Daemon) (r : Role) (w : List Sealed) → Owns z sets h d c → Owns z sets h d (record c { role = r; waiting = w })
  Owns-same h c r w owns = record {
    leads = record { is_known = owns.leads.is_known; later = owns.leads.later; first = owns.leads.first; members = owns.leads.members };
    is_base = owns.is_base;
    whole = owns.whole;
  }

  -- a new entry of an active copy
  push_after : (ms : List ℕ) (p : ℕ → ℕ) (h : History) (c : Daemon) (s : Sealed) (rest : List Sealed) → others c ≡ ms → IsSound p z sets h → StateOk z sets p h d c → Owns z sets h d c →
      AllHold sets h c.promise (length c.log) → is_in (ids c.log) s.id ≡ false →
      ((p' : ℕ → ℕ) (h' : History) → IsSound p' z sets h' → StateOk z sets p' h' d (with_entry c s) → Owns z sets h' d (with_entry c s) → AllHold sets h' c.promise (length (with_entry c s).log) → After z sets p' h' d (serve rest (with_entry c s))) →
      After z sets p h d (push_new ms c s rest (serve rest (with_entry c s)))
  push_after [] p h c s rest alone sound state owns all new more =
      let can = can_push p h c s sound state owns all new in
      let log : List Entry = c.log ++ decide c.log s ∷ [] in
      let h' : History = changed h d c.promise state.source (c.log ++ decide c.log s ∷ []) (h.basis c.promise) (length (c.log ++ decide c.log s ∷ [])) in
      let to = changed_extends z sets p h d c.promise state.source log (h.basis c.promise) (length log) can in
      let sound' = changed_sound z sets p h d c.promise state.source log (h.basis c.promise) (length log) can sound in
      let mine : Held h' d c.promise (length log) = record { most = length log; is = changed-held h d c.promise state.source log (h.basis c.promise) (length log); enough = omega arith } in
      let all' : AllHold sets h' c.promise (length log) = all_members (λ m. Held h' m c.promise (length log)) c state.number state.known owns.leads mine (λ m is. absurd (both_ways false refl (rw alone at is))) in
      let next = more (put p d c.promise) h' sound' (pushed_state p h c s c.role c.waiting sound state owns all new) (pushed_owns p h c s state.source c.role c.waiting owns) all' in
      later_after p h (put p d c.promise) h' (record { copy = (serve rest (with_entry c s)).copy; sent = reply_with c (decide c.log s) ++ (serve rest (with_entry c s)).sent }) to
      (grew_at h d c.promise state.source log (h.basis c.promise) (length log) (serve rest (with_entry c s)).copy (serve_leads rest (with_entry c s)).promise (serve_leads rest (with_entry c s)).role)
      (sent_before (put p d c.promise) h' (reply_with c (decide c.log s)) (serve rest (with_entry c s)) (tt, tt) next)
  push_after (m ∷ ms) p h c s rest alone sound state owns all new more =
      let can = can_push p h c s sound state owns all new in
      let log : List Entry = c.log ++ decide c.log s ∷ [] in
      let h' : History = changed h d c.promise state.source (c.log ++ decide c.log s ∷ []) (h.basis c.promise) (length (c.log ++ decide c.log s ∷ [])) in
      let to = changed_extends z sets p h d c.promise state.source log (h.basis c.promise) (length log) can in
      let long : length log ≡ length c.log + 1 = length-append c.log (decide c.log s ∷ []) in
      let before : AllHold sets h' c.promise (length log - 1) = subst (λ k. AllHold sets h' c.promise k) (omega arith) (AllHold-stays z sets d p h (put p d c.promise) h' to c.promise (length c.log) all) in
      let placed : IsPlaced h' c.promise (length c.log + 1) s = record {
        front = c.log;
        entry = decide c.log s;
        rest = [];
        whole = sym (changed-grown h d c.promise state.source log (h.basis c.promise) (length log));
        at = refl;
        is = decide-sealed c.log s;
      } in
      record {
        promise' = put p d c.promise;
        h' = h';
        to = to;
        sound = changed_sound z sets p h d c.promise state.source log (h.basis c.promise) (length log) can sound;
        copy = record {
          state = pushed_state p h c s (Active (Some [])) rest sound state owns all new;
          role = (pushed_owns p h c s state.source (Active (Some [])) rest owns, record { one = omega arith; before = before; holders_hold = tt });
        };
        only = grew_at h d c.promise state.source log (h.basis c.promise) (length log) (record (with_entry c s) { role = Active (Some []); waiting = rest }) refl tt;
        sent = Each-map_all (SentOk sets (put p d c.promise) h') (λ i. send c (Osd i) (Append c.promise (length c.log + 1) s)) (λ i. placed) (others c);
      }

  serve_one_after : (found : Option Entry) (p : ℕ → ℕ) (h : History) (c : Daemon) (s : Sealed) (rest : List Sealed) → find c.log s.id ≡ found → IsSound p z sets h → StateOk z sets p h d c → Owns z sets h d c →
      AllHold sets h c.promise (length c.log) → After z sets p h d (serve rest c) →
      ((p' : ℕ → ℕ) (h' : History) → IsSound p' z sets h' → StateOk z sets p' h' d (with_entry c s) → Owns z sets h' d (with_entry c s) → AllHold sets h' c.promise (length (with_entry c s).log) → After z sets p' h' d (serve rest (with_entry c s))) →
      After z sets p h d (serve_one found c s rest (serve rest c) (serve rest (with_entry c s)))
  serve_one_after (Some e) p h c s rest is sound state owns all same more = sent_before p h (reply_with c e) (serve rest c) (tt, tt) same
  serve_one_after None p h c s rest is sound state owns all same more = push_after (others c) p h c s rest refl sound state owns all (absent c.log s.id is) more

  pub serve_after : (waiting : List Sealed) (p : ℕ → ℕ) (h : History) (c : Daemon) → IsSound p z sets h → StateOk z sets p h d c → Owns z sets h d c → AllHold sets h c.promise (length c.log) → After z sets p h d (serve waiting c)
  serve_after [] p h c sound state owns all = plain_after p h (record c { role = Active None; waiting = [] }) [] sound (record { state = StateOk-same p h c (Active None) [] state; role = (Owns-same h c (Active None) [] owns, all) }) tt
  serve_after (s ∷ rest) p h c sound state owns all =
      serve_one_after (find c.log s.id) p h c s rest refl sound state owns all (serve_after rest p h c sound state owns all)
      (λ p' h' sound' state' owns' all'. serve_after rest p' h' (with_entry c s) sound' state' owns' all')

  -- no fact of a role is about the role that the copy shows or about what waits
  RoleOk-same : (p : ℕ → ℕ) (h : History) (c : Daemon) (shown : Role) (w : List Sealed) (r : Role) → RoleOk z sets p h d c r → RoleOk z sets p h d (record c { role = shown; waiting = w }) r
  RoleOk-same p h c shown w Idle ok = tt
  RoleOk-same p h c shown w (Peering informed) ok = record {
    leads = record { is_known = ok.leads.is_known; later = ok.leads.later; first = ok.leads.first; members = ok.leads.members };
    unchosen = ok.unchosen;
    offers = ok.offers;
  }
  RoleOk-same p h c shown w (Installing done) ok = record { owns = Owns-same h c shown w ok.owns; chosen = ok.chosen; holders = ok.holders }
  RoleOk-same p h c shown w (Active None) ok = (Owns-same h c shown w ok.0, ok.1)
  RoleOk-same p h c shown w (Active (Some holders)) ok = (Owns-same h c shown w ok.0, record { one = ok.1.one; before = ok.1.before; holders_hold = ok.1.holders_hold })

  role_at : (p : ℕ → ℕ) (h : History) (c : Daemon) (r : Role) → c.role ≡ r → CopyOk z sets p h d c → RoleOk z sets p h d c r
  role_at p h c r is ok = subst (λ v. RoleOk z sets p h d c v) is ok.role

  waits_after : (p : ℕ → ℕ) (h : History) (c : Daemon) (s : Sealed) → IsSound p z sets h → CopyOk z sets p h d c → After z sets p h d (waits c s)
  waits_after p h c s sound ok = plain_after p h (record c { waiting = c.waiting ++ s ∷ [] }) [] sound
      (record { state = StateOk-same p h c c.role (c.waiting ++ s ∷ []) ok.state; role = RoleOk-same p h c c.role (c.waiting ++ s ∷ []) c.role ok.role }) tt

  busy_after : (found : Option Entry) (p : ℕ → ℕ) (h : History) (c : Daemon) (s : Sealed) → IsSound p z sets h → CopyOk z sets p h d c → After z sets p h d (busy_request c s found)
  busy_after (Some e) p h c s sound ok = plain_after p h c (reply_with c e) sound ok (tt, tt)
  busy_after None p h c s sound ok = by_test p h (is_in (ids c.log) s.id) (still c) (waits c s) (λ _. still_after p h c sound ok) (λ _. waits_after p h c s sound ok)

  request_as_after : (r : Role) (p : ℕ → ℕ) (h : History) (c : Daemon) (s : Sealed) → c.role ≡ r → IsSound p z sets h → CopyOk z sets p h d c → After z sets p h d (on_request_as r c s)
  request_as_after Idle p h c s is sound ok = plain_after p h c (send c Client (NotHere s.id) ∷ []) sound ok (tt, tt)
  request_as_after (Peering informed) p h c s is sound ok = waits_after p h c s sound ok
  request_as_after (Installing done) p h c s is sound ok = waits_after p h c s sound ok
  request_as_after (Active None) p h c s is sound ok = let role = role_at p h c (Active None) is ok in serve_after (s ∷ c.waiting) p h c sound ok.state role.0 role.1
  request_as_after (Active (Some holders)) p h c s is sound ok = busy_after (find (not_in_flight c.log (Some holders)) s.id) p h c s sound ok

  pub request_after : (p : ℕ → ℕ) (h : History) (c : Daemon) (s : Sealed) → IsSound p z sets h → CopyOk z sets p h d c → After z sets p h d (on_request c s)
  request_after p h c s sound ok = by_test p h (list_any (λ w. w.id == s.id) c.waiting) (still c) (on_request_as c.role c s)
      (λ _. still_after p h c sound ok) (λ _. request_as_after c.role p h c s refl sound ok)

  all_in : (test : ℕ → Bool) (ms : List ℕ) (m : ℕ) → list_all test ms ≡ true → is_in ms m ≡ true → test m ≡ true
  all_in test [] m all bad = absurd (both_ways false refl bad)
  all_in test (i ∷ ms) m all is =
      let parts = and_parts (test i) (list_all test ms) all in
      elim (or_cases (i == m) (is_in ms m) is) [
        | inl here ↦ subst (λ v. test v ≡ true) (eqb-true i m here) parts.0
        | inr later ↦ all_in test ms m parts.1 later
      ]

  -- once every other member counts, every member holds the whole log
  all_hold : (p : ℕ → ℕ) (h : History) (c : Daemon) (ms : List ℕ) → StateOk z sets p h d c → Owns z sets h d c → Each (λ m. Held h m c.promise (length c.log)) ms → all_count c ms ≡ true → AllHold sets h c.promise (length c.log)
  all_hold p h c ms state owns each all =
      let mine : Held h d c.promise (length c.log) = record { most = length c.log; is = subst (λ v. h.held d v ≡ Some (length c.log)) owns.is_base state.held; enough = omega arith } in
      all_members (λ m. Held h m c.promise (length c.log)) c state.number state.known owns.leads mine
      (λ m is. at_member (λ m. Held h m c.promise (length c.log)) ms m each (all_in (λ i. is_in ms i) (others c) m all is))

  installed_as_after : (r : Role) (p : ℕ → ℕ) (h : History) (c : Daemon) (n m : ℕ) → c.role ≡ r → IsSound p z sets h → CopyOk z sets p h d c → HasInstalled h m n → After z sets p h d (on_installed r c n m)
  installed_as_after (Installing done) p h c n m is sound ok has = by_test p h (c.promise == n)
      (if all_count c (counted c done m) then serve c.waiting c else still (record c { role = Installing (counted c done m) })) (still c)
      (λ same. (
      let now : c.promise ≡ n = eqb-true c.promise n same in
      let role = role_at p h c (Installing done) is ok in
      let chosen : h.chosen c.promise ≡ Some has.log = subst (λ v. h.chosen v ≡ Some has.log) (sym now) has.chosen in
      let was = role.chosen in
      let whole : has.log ≡ c.log = cc in
      let holds : Held h m c.promise (length c.log) = subst (λ v. Held h m v (length c.log)) (sym now) (subst (λ l. Held h m n (length l)) whole has.holds) in
      let each : Each (λ i. Held h i c.promise (length c.log)) (counted c done m) = Each-counted (λ i. Held h i c.promise (length c.log)) c done m role.holders holds in
      by_test p h (all_count c (counted c done m)) (serve c.waiting c) (still (record c { role = Installing (counted c done m) }))
      (λ all. serve_after c.waiting p h c sound ok.state role.owns (all_hold p h c (counted c done m) ok.state role.owns each all))
      (λ _. still_after p h (record c { role = Installing (counted c done m) }) sound (record {
        state = StateOk-same p h c (Installing (counted c done m)) c.waiting ok.state;
        role = record { owns = Owns-same h c (Installing (counted c done m)) c.waiting role.owns; chosen = role.chosen; holders = each };
      }))))
      (λ _. still_after p h c sound ok)
  installed_as_after Idle p h c n m is sound ok has = still_after p h c sound ok
  installed_as_after (Peering informed) p h c n m is sound ok has = still_after p h c sound ok
  installed_as_after (Active flight) p h c n m is sound ok has = still_after p h c sound ok

  complete_after : (e : Option Entry) (p : ℕ → ℕ) (h : History) (c : Daemon) → After z sets p h d (serve c.waiting c) → After z sets p h d (complete c e)
  complete_after None p h c next = next
  complete_after (Some e) p h c next = sent_before p h (reply_with c e) (serve c.waiting c) (tt, tt) next

  appended_as_after : (r : Role) (p : ℕ → ℕ) (h : History) (c : Daemon) (n place m : ℕ) → c.role ≡ r → IsSound p z sets h → CopyOk z sets p h d c → Held h m n place → After z sets p h d (on_appended r c n place m)
  appended_as_after (Active (Some holders)) p h c n place m is sound ok has = by_test p h ((c.promise == n) && (place == length c.log))
      (if all_count c (counted c holders m) then complete c (last c.log) else still (record c { role = Active (Some (counted c holders m)) })) (still c)
      (λ both. (
      let parts = and_parts (c.promise == n) (place == length c.log) both in
      let now : c.promise ≡ n = eqb-true c.promise n parts.0 in
      let there : place ≡ length c.log = eqb-true place (length c.log) parts.1 in
      let role = role_at p h c (Active (Some holders)) is ok in
      let holds : Held h m c.promise (length c.log) = subst (λ v. Held h m v (length c.log)) (sym now) (subst (λ k. Held h m n k) there has) in
      let each : Each (λ i. Held h i c.promise (length c.log)) (counted c holders m) = Each-counted (λ i. Held h i c.promise (length c.log)) c holders m role.1.holders_hold holds in
      by_test p h (all_count c (counted c holders m)) (complete c (last c.log)) (still (record c { role = Active (Some (counted c holders m)) }))
      (λ all. complete_after (last c.log) p h c (serve_after c.waiting p h c sound ok.state role.0 (all_hold p h c (counted c holders m) ok.state role.0 each all)))
      (λ _. still_after p h (record c { role = Active (Some (counted c holders m)) }) sound (record {
        state = StateOk-same p h c (Active (Some (counted c holders m))) c.waiting ok.state;
        role = (Owns-same h c (Active (Some (counted c holders m))) c.waiting role.0, record { one = role.1.one; before = role.1.before; holders_hold = each });
      }))))
      (λ _. still_after p h c sound ok)
  appended_as_after (Active None) p h c n place m is sound ok has = still_after p h c sound ok
  appended_as_after Idle p h c n place m is sound ok has = still_after p h c sound ok
  appended_as_after (Peering informed) p h c n place m is sound ok has = still_after p h c sound ok
  appended_as_after (Installing done) p h c n place m is sound ok has = still_after p h c sound ok

  -- a copy that lacks a part of its interval's chosen or grown log has no role
  without_role : (p : ℕ → ℕ) (h : History) (c : Daemon) (r : Role) → RoleOk z sets p h d c r → (log : List Entry) → h.chosen c.promise ≡ Some log → (c.base ≡ c.promise → c.log ≡ h.grown c.promise → ⊥) →
      (p' : ℕ → ℕ) (h' : History) (c' : Daemon) → RoleOk z sets p' h' d c' r
  without_role p h c Idle ok log chosen lacks p' h' c' = tt
  without_role p h c (Peering informed) ok log chosen lacks p' h' c' = let none = ok.unchosen in absurd (cc)
  without_role p h c (Installing done) ok log chosen lacks p' h' c' = absurd (lacks ok.owns.is_base ok.owns.whole)
  without_role p h c (Active flight) ok log chosen lacks p' h' c' = absurd (lacks ok.0.is_base ok.0.whole)

  can_install : (p : ℕ → ℕ) (h : History) (c : Daemon) (n : ℕ) (log : List Entry) → IsSound p z sets h → StateOk z sets p h d c → c.promise ≤ n → c.base < n → h.chosen n ≡ Some log →
      CanChange z sets p h d n log (h.grown n) (h.basis n) (length log)
  can_install p h c n log sound state forward below chosen = record {
    forward = omega (arith, state.promised);
    later = omega arith;
    same = λ old is. (let agree : log ≡ old = cc in (agree, refl));
    grows = Begins-refl (h.grown n);
    begins = sound.grows n log chosen;
    more = λ q is. (let low = state.held_below n q is in omega (arith, low));
    legal = sound.legal n;
    opened = sound.opened n log (omega arith) chosen;
    but_one = sound.but_one n;
    by_first = inl (chosen, refl);
  }

  new_install : (p : ℕ → ℕ) (h : History) (c : Daemon) (from : Party) (n : ℕ) (log : List Entry) (c' : Daemon) → IsSound p z sets h → StateOk z sets p h d c → c.promise ≤ n → c.base < n → n ≤ length sets → h.chosen n ≡ Some log →
      c'.number ≡ d → CopyOk z sets (put p d n) (changed h d n log (h.grown n) (h.basis n) (length log)) d c' →
      After z sets p h d (record { copy = c'; sent = send c from (Installed n) ∷ [] })
  new_install p h c from n log c' sound state forward below reached chosen number ok =
      let can = can_install p h c n log sound state forward below chosen in
      let h' : History = changed h d n log (h.grown n) (h.basis n) (length log) in
      record {
        promise' = put p d n;
        h' = h';
        to = changed_extends z sets p h d n log (h.grown n) (h.basis n) (length log) can;
        sound = changed_sound z sets p h d n log (h.grown n) (h.basis n) (length log) can sound;
        copy = ok;
        only = λ j. inl (grew_same h d n log (h.basis n) (length log) j);
        sent = (
          record {
            log = log;
            chosen = changed-chosen h d n log (h.grown n) (h.basis n) (length log);
            holds = subst (λ v. Held h' v n (length log)) (sym state.number) (record { most = length log; is = changed-held h d n log (h.grown n) (h.basis n) (length log); enough = omega arith });
          },
          tt,
        );
      }

  pub install_comes_after : (p : ℕ → ℕ) (h : History) (c : Daemon) (from : Party) (n : ℕ) (log : List Entry) → IsSound p z sets h → CopyOk z sets p h d c → n ≤ length sets → h.chosen n ≡ Some log → After z sets p h d (on_install c from n log)
  install_comes_after p h c from n log sound ok reached chosen = by_test p h (nat_lt n c.promise) (still c)
      (record { copy = if nat_lt c.base n then record (promise_interval c n) { base = n; log = log } else promise_interval c n; sent = send c from (Installed n) ∷ [] })
      (λ _. still_after p h c sound ok)
      (λ late. step (nat_lt c.base n) (nat_lt c.promise n) refl refl (ltb-false n c.promise late))
    where
      step : (b q : Bool) → nat_lt c.base n ≡ b → nat_lt c.promise n ≡ q → c.promise ≤ n →
          After z sets p h d (record {
            copy = if b then record (if q then record c { promise = n; role = Idle; waiting = [] } else c) { base = n; log = log } else (if q then record c { promise = n; role = Idle; waiting = [] } else c);
            sent = send c from (Installed n) ∷ [];
          })
      step true true below newer forward =
          let lt = ltb-true c.base n below in
          new_install p h c from n log (record c { promise = n; base = n; log = log; role = Idle; waiting = [] }) sound ok.state forward lt reached chosen ok.state.number
          (record { state = changed_state p h c n log log (h.grown n) (h.basis n) Idle [] (can_install p h c n log sound ok.state forward lt chosen) ok.state reached (omega arith) (Begins-refl log) (sound.grows n log chosen); role = tt })
      step true false below same forward =
          let lt = ltb-true c.base n below in
          let now : n ≡ c.promise = (let le = ltb-false c.promise n same in omega arith) in
          let h' : History = changed h d n log (h.grown n) (h.basis n) (length log) in
          new_install p h c from n log (record c { base = n; log = log }) sound ok.state forward lt reached chosen ok.state.number
          (record {
            state = subst (λ v. StateOk z sets (put p d n) h' d (record c { promise = v; base = n; log = log })) now
                (changed_state p h c n log log (h.grown n) (h.basis n) c.role c.waiting (can_install p h c n log sound ok.state forward lt chosen) ok.state reached (omega arith) (Begins-refl log) (sound.grows n log chosen));
            role = without_role p h c c.role ok.role log (subst (λ v. h.chosen v ≡ Some log) now chosen) (λ is whole. omega (arith, is)) (put p d n) h' (record c { base = n; log = log });
          })
      step false true above newer forward = (let le = ltb-false c.base n above in let lt = ltb-true c.promise n newer in absurd (omega (arith, ok.state.base)))
      step false false above same forward =
          let le = ltb-false c.base n above in
          let now : c.base ≡ n = omega (arith, ok.state.base) in
          let state = ok.state in
          let source : h.chosen n ≡ Some state.source = subst (λ v. h.chosen v ≡ Some state.source) now state.source_is in
          let agree : state.source ≡ log = cc in
          let long : length log ≤ length c.log = subst (λ l. length l ≤ length c.log) agree (Begins-length state.begins) in
          let held : Held h d n (length log) = record { most = length c.log; is = subst (λ v. h.held d v ≡ Some (length c.log)) now state.held; enough = long } in
          plain_after p h c (send c from (Installed n) ∷ []) sound ok (record { log = log; chosen = chosen; holds = subst (λ v. Held h v n (length log)) (sym state.number) held }, tt)

  acknowledged_after : (p : ℕ → ℕ) (h : History) (c : Daemon) (from : Party) (n place : ℕ) → IsSound p z sets h → CopyOk z sets p h d c → h.held d n ≡ Some (length c.log) → After z sets p h d (acknowledged c from n place)
  acknowledged_after p h c from n place sound ok held = by_test p h (nat_lt (length c.log) place) (still c) (record { copy = c; sent = send c from (Appended n place) ∷ [] })
      (λ _. still_after p h c sound ok)
      (λ there. (
      let le = ltb-false (length c.log) place there in
      let has : Held h d n place = record { most = length c.log; is = held; enough = omega arith } in
      plain_after p h c (send c from (Appended n place) ∷ []) sound ok (subst (λ v. Held h v n place) (sym ok.state.number) has, tt)))

  -- the entry that a copy decides itself is that of its interval's log
  next_entry : (h : History) (c : Daemon) (n place : ℕ) (s : Sealed) → Legal (h.grown n) → Begins c.log (h.grown n) → IsPlaced h n place s → length c.log + 1 ≡ place → Begins (c.log ++ decide c.log s ∷ []) (h.grown n)
  next_entry h c n place s legal within placed next =
      let front : Begins placed.front (h.grown n) = record { rest = placed.entry ∷ placed.rest; whole = placed.whole } in
      let long : length c.log ≡ length placed.front = omega (arith, placed.at) in
      let same : c.log ≡ placed.front = Begins-same within front long in
      let decided : placed.entry ≡ decide placed.front placed.entry.sealed = LegalFrom-at [] placed.front placed.entry placed.rest (subst (λ l. Legal l) (sym placed.whole) legal) in
      let is : placed.entry ≡ decide c.log s = decided ∙ ap (λ v. decide placed.front v) placed.is ∙ ap (λ l. decide l s) (sym same) in
      let whole : (c.log ++ decide c.log s ∷ []) ++ placed.rest ≡ h.grown n =
      append_assoc c.log (decide c.log s ∷ []) placed.rest ∙ ap (λ e. c.log ++ e ∷ placed.rest) (sym is) ∙ ap (λ l. l ++ placed.entry ∷ placed.rest) same ∙ placed.whole in
      record { rest = placed.rest; whole = whole }

  append_next : (p : ℕ → ℕ) (h : History) (c : Daemon) (from : Party) (n place : ℕ) (s : Sealed) → IsSound p z sets h → CopyOk z sets p h d c → IsPlaced h n place s → c.promise ≡ n → c.base ≡ n → length c.log + 1 ≡ place →
      After z sets p h d (acknowledged (with_entry c s) from n place)
  append_next p h c from n place s sound ok placed now is_base next =
      let state = ok.state in
      let log : List Entry = c.log ++ decide c.log s ∷ [] in
      let source : h.chosen n ≡ Some state.source = subst (λ v. h.chosen v ≡ Some state.source) is_base state.source_is in
      let within : Begins c.log (h.grown n) = subst (λ v. Begins c.log (h.grown v)) is_base state.within in
      let held : h.held d n ≡ Some (length c.log) = subst (λ v. h.held d v ≡ Some (length c.log)) is_base state.held in
      let longer : Begins log (h.grown n) = next_entry h c n place s (sound.legal n) within placed next in
      let size : length log ≡ length c.log + 1 = length-append c.log (decide c.log s ∷ []) in
      let later : 1 ≤ n = elim (cases_eq n 0) [
        | inl none ↦ (
            let empty : h.grown n ≡ [] = subst (λ v. h.grown v ≡ []) (sym none) sound.zero_grown in
            let fits : length log ≤ length (h.grown n) = Begins-length longer in
            let zero_long : length (h.grown n) ≡ 0 = ap (λ l. length l) empty in
            absurd (omega arith))
        | inr some ↦ omega arith
      ] in
      let can : CanChange z sets p h d n state.source (h.grown n) (h.basis n) (length log) = record {
        forward = omega (arith, state.promised);
        later = later;
        same = λ old was. (let agree : state.source ≡ old = cc in (agree, refl));
        grows = Begins-refl (h.grown n);
        begins = sound.grows n state.source source;
        more = λ q was. (let agree : q ≡ length c.log = cc in omega arith);
        legal = sound.legal n;
        opened = sound.opened n state.source later source;
        but_one = sound.but_one n;
        by_first = inl (source, refl);
      } in
      let h' : History = changed h d n state.source (h.grown n) (h.basis n) (length log) in
      let sound' = changed_sound z sets p h d n state.source (h.grown n) (h.basis n) (length log) can sound in
      let begins : Begins state.source log = Begins-trans state.begins (Begins-push c.log (decide c.log s)) in
      let raw = changed_state p h c n state.source log (h.grown n) (h.basis n) c.role c.waiting can state (omega (arith, state.reached)) (omega arith) begins longer in
      let based : StateOk z sets (put p d n) h' d (record (with_entry c s) { base = n }) = subst (λ v. StateOk z sets (put p d n) h' d (record (with_entry c s) { promise = v; base = n })) (sym now) raw in
      let state' : StateOk z sets (put p d n) h' d (with_entry c s) = subst (λ v. StateOk z sets (put p d n) h' d (record (with_entry c s) { base = v })) (sym is_base) based in
      let role' = without_role p h c c.role ok.role state.source (subst (λ v. h.chosen v ≡ Some state.source) (sym now) source)
      (λ (_ : c.base ≡ c.promise) (whole : c.log ≡ h.grown c.promise). (
      let fits : length log ≤ length (h.grown n) = Begins-length longer in
      let equal : length c.log ≡ length (h.grown n) = ap (λ l. length l) whole ∙ ap (λ v. length (h.grown v)) now in
      let bad : ⊥ = omega arith in bad))
      (put p d n) h' (with_entry c s) in
      later_after p h (put p d n) h' (acknowledged (with_entry c s) from n place)
      (changed_extends z sets p h d n state.source (h.grown n) (h.basis n) (length log) can)
      (λ j. inl (grew_same h d n state.source (h.basis n) (length log) j))
      (acknowledged_after (put p d n) h' (with_entry c s) from n place sound' (record { state = state'; role = role' })
      (changed-held h d n state.source (h.grown n) (h.basis n) (length log)))

  pub append_after : (p : ℕ → ℕ) (h : History) (c : Daemon) (from : Party) (n place : ℕ) (s : Sealed) → IsSound p z sets h → CopyOk z sets p h d c → IsPlaced h n place s → After z sets p h d (on_append c from n place s)
  append_after p h c from n place s sound ok placed = by_test p h ((c.promise == n) && (c.base == n))
      (if (length c.log + 1 == place) && not (is_in (ids c.log) s.id) then acknowledged (with_entry c s) from n place else acknowledged c from n place) (still c)
      (λ both. (
      let parts = and_parts (c.promise == n) (c.base == n) both in
      let now = eqb-true c.promise n parts.0 in
      let is_base = eqb-true c.base n parts.1 in
      by_test p h ((length c.log + 1 == place) && not (is_in (ids c.log) s.id)) (acknowledged (with_entry c s) from n place) (acknowledged c from n place)
      (λ next. append_next p h c from n place s sound ok placed now is_base (eqb-true (length c.log + 1) place (and_parts (length c.log + 1 == place) (not (is_in (ids c.log) s.id)) next).0))
      (λ _. acknowledged_after p h c from n place sound ok (subst (λ v. h.held d v ≡ Some (length c.log)) is_base ok.state.held))))
      (λ _. still_after p h c sound ok)

  -- a copy that leads a peering
  module _ (p : ℕ → ℕ) (h : History) (c : Daemon) (informed : List PeerInfo) (sound : IsSound p z sets h) (state : StateOk z sets p h d c)
      (leads : Leads z sets d c) (unchosen : h.chosen c.promise ≡ None) (offers : Each (IsOffer p h c.promise) informed) where
    base_below : c.base < c.promise
    base_below = elim (cases_eq c.base c.promise) [
      | inl same ↦ (let some : h.chosen c.promise ≡ Some state.source = subst (λ v. h.chosen v ≡ Some state.source) same state.source_is in absurd (cc))
      | inr other ↦ omega (arith, state.base)
    ]

    own_offers : IsOffer p h c.promise (own_offer c)
    own_offers =
        let t = told_of p h c c.promise state (omega arith) p state.promised in
        record { moved = t.moved; below = base_below; source = t.source; source_is = t.source_is; begins = t.begins; within = t.within; most = t.most }

    winner_ok : IsOffer p h c.promise (best (own_offer c) informed)
    winner_ok = best_among (IsOffer p h c.promise) (own_offer c) informed own_offers offers

    can_open : can_choose c informed ≡ true → CanChange z sets p h d c.promise (best (own_offer c) informed).log (best (own_offer c) informed).log (best (own_offer c) informed).base (length (best (own_offer c) informed).log)
    can_open chosen =
        let known = state.known in
        let opened = chosen_opened p sets h c informed own_offers offers (λ j from upto. known.same j from (omega (arith, leads.is_known))) leads.is_known chosen state.reached
        (subst (λ v. v ≤ length (set_of sets c.promise)) (sym state.same_size) leads.members)
        (λ e first. (let same : e ≡ d = is_first_unique (set_of sets c.promise) e d first leads.first in subst (λ v. c.promise ≤ p v) (sym same) (omega (arith, state.promised)))) in
        record {
          forward = omega (arith, state.promised);
          later = leads.later;
          same = λ old is. absurd (cc);
          grows = subst (λ l. Begins l (best (own_offer c) informed).log) (sym (sound.empty c.promise unchosen)) (Begins-nil (best (own_offer c) informed).log);
          begins = Begins-refl (best (own_offer c) informed).log;
          more = λ q is. (let low = state.held_below c.promise q is in let below = base_below in absurd (omega arith));
          legal = LegalFrom-front [] (best (own_offer c) informed).log winner_ok.within.rest (subst (λ l. Legal l) (sym winner_ok.within.whole) (sound.legal (best (own_offer c) informed).base));
          opened = subst (λ v. IsOpened p v sets h c.promise (best (own_offer c) informed).base (best (own_offer c) informed).log) state.same_size opened;
          but_one = IsSettled-later sets h (best (own_offer c) informed).base c.promise (but_last (best (own_offer c) informed).log) (omega (arith, winner_ok.below))
              (IsSettled-shorter sets h (best (own_offer c) informed).base (but_last (best (own_offer c) informed).log) (but_last (h.grown (best (own_offer c) informed).base)) (but_last-begins winner_ok.within) (sound.but_one (best (own_offer c) informed).base));
          by_first = inr leads.first;
        }

    install_after : (log : List Entry) (basis : ℕ) (ms : List ℕ) → others c ≡ ms → CanChange z sets p h d c.promise log log basis (length log) → After z sets p h d (install_chosen c log ms)
    install_after log basis [] alone can =
        let h' : History = changed h d c.promise log log basis (length log) in
        let next : Daemon = record c { base = c.promise; log = log; role = Active None } in
        let state' = changed_state p h c c.promise log log log basis (Active None) c.waiting can state state.reached state.base (Begins-refl log) (Begins-refl log) in
        let owns' : Owns z sets h' d (record c { base = c.promise; log = log; role = Active None }) = record {
          leads = record { is_known = leads.is_known; later = leads.later; first = leads.first; members = leads.members };
          is_base = refl;
          whole = sym (changed-grown h d c.promise log log basis (length log));
        } in
        let mine : Held h' d c.promise (length log) = record { most = length log; is = changed-held h d c.promise log log basis (length log); enough = omega arith } in
        let all' : AllHold sets h' c.promise (length log) = all_members (λ m. Held h' m c.promise (length log)) c state.number state.known leads mine (λ m is. absurd (both_ways false refl (subst (λ l. is_in l m ≡ true) alone is))) in
        later_after p h (put p d c.promise) h' (serve c.waiting (record c { base = c.promise; log = log; role = Active None }))
        (changed_extends z sets p h d c.promise log log basis (length log) can)
        (grew_at h d c.promise log log basis (length log) (serve c.waiting (record c { base = c.promise; log = log; role = Active None })).copy
        (serve_leads c.waiting (record c { base = c.promise; log = log; role = Active None })).promise (serve_leads c.waiting (record c { base = c.promise; log = log; role = Active None })).role)
        (serve_after c.waiting (put p d c.promise) h' (record c { base = c.promise; log = log; role = Active None })
        (changed_sound z sets p h d c.promise log log basis (length log) can sound) state' owns' all')
    install_after log basis (m ∷ ms) alone can =
        let h' : History = changed h d c.promise log log basis (length log) in
        let state' = changed_state p h c c.promise log log log basis (Installing []) c.waiting can state state.reached state.base (Begins-refl log) (Begins-refl log) in
        record {
          promise' = put p d c.promise;
          h' = h';
          to = changed_extends z sets p h d c.promise log log basis (length log) can;
          sound = changed_sound z sets p h d c.promise log log basis (length log) can sound;
          copy = record {
            state = state';
            role = record {
              owns = record {
                leads = record { is_known = leads.is_known; later = leads.later; first = leads.first; members = leads.members };
                is_base = refl;
                whole = sym (changed-grown h d c.promise log log basis (length log));
              };
              chosen = changed-chosen h d c.promise log log basis (length log);
              holders = tt;
            };
          };
          only = grew_at h d c.promise log log basis (length log) (record c { base = c.promise; log = log; role = Installing [] }) refl tt;
          sent = Each-map_all (SentOk sets (put p d c.promise) h') (λ i. send c (Osd i) (Install c.promise log)) (λ i. (state.reached, changed-chosen h d c.promise log log basis (length log))) (m ∷ ms);
        }

    try_choice_after : After z sets p h d (try_choice c informed)
    try_choice_after = by_test p h (can_choose c informed) (install_chosen c (best (own_offer c) informed).log (others c)) (still (record c { role = Peering informed }))
        (λ chosen. install_after (best (own_offer c) informed).log (best (own_offer c) informed).base (others c) refl (can_open chosen))
        (λ _. still_after p h (record c { role = Peering informed }) sound (record {
          state = StateOk-same p h c (Peering informed) c.waiting state;
          role = record { leads = record { is_known = leads.is_known; later = leads.later; first = leads.first; members = leads.members }; unchosen = unchosen; offers = offers };
        }))

  offer_of : (p : ℕ → ℕ) (h : History) (n : ℕ) (i : PeerInfo) → h.chosen n ≡ None → IsTold p h n i → IsOffer p h n i
  offer_of p h n i none learn_sets = record {
    moved = learn_sets.moved;
    source = learn_sets.source;
    source_is = learn_sets.source_is;
    begins = learn_sets.begins;
    within = learn_sets.within;
    most = learn_sets.most;
    below = elim (cases_eq i.base n) [
      | inl same ↦ (let some : h.chosen n ≡ Some learn_sets.source = subst (λ v. h.chosen v ≡ Some learn_sets.source) same learn_sets.source_is in absurd (cc))
      | inr other ↦ omega (arith, learn_sets.reach)
    ];
  }

  info_as_after : (r : Role) (p : ℕ → ℕ) (h : History) (c : Daemon) (n : ℕ) (offer : PeerInfo) → c.role ≡ r → IsSound p z sets h → CopyOk z sets p h d c → IsTold p h n offer → After z sets p h d (on_info r c n offer)
  info_as_after (Peering informed) p h c n offer is sound ok learn_sets = by_test p h ((c.promise == n) && not (is_informed c informed offer.number)) (try_choice c (informed ++ offer ∷ [])) (still c)
      (λ both. (
      let now : c.promise ≡ n = eqb-true c.promise n (and_parts (c.promise == n) (not (is_informed c informed offer.number)) both).0 in
      let role = role_at p h c (Peering informed) is ok in
      let more : IsOffer p h c.promise offer = offer_of p h c.promise offer role.unchosen (subst (λ v. IsTold p h v offer) (sym now) learn_sets) in
      try_choice_after p h c (informed ++ offer ∷ []) sound ok.state role.leads role.unchosen (Each-push (IsOffer p h c.promise) informed offer role.offers more)))
      (λ _. still_after p h c sound ok)
  info_as_after Idle p h c n offer is sound ok learn_sets = still_after p h c sound ok
  info_as_after (Installing done) p h c n offer is sound ok learn_sets = still_after p h c sound ok
  info_as_after (Active flight) p h c n offer is sound ok learn_sets = still_after p h c sound ok

  told_state : (p : ℕ → ℕ) (h : History) (c : Daemon) (known : List (List ℕ)) → StateOk z sets p h d c → IsKnown sets known → StateOk z sets p h d (learn_sets c known)
  told_state p h c known ok is = record {
    number = ok.number;
    same_size = ok.same_size;
    promised = ok.promised;
    reached = ok.reached;
    base = ok.base;
    known = is;
    source = ok.source;
    source_is = ok.source_is;
    begins = ok.begins;
    within = ok.within;
    held = ok.held;
    held_below = ok.held_below;
  }

  lead_after : (p : ℕ → ℕ) (h : History) (c : Daemon) (known : List (List ℕ)) → IsSound p z sets h → StateOk z sets p h d c → IsKnown sets known → 1 ≤ length known → c.promise < length known →
      is_primary (set_of sets (length known)) d ≡ true → z ≤ length (set_of sets (length known)) →
      After z sets p h d (lead (record (learn_sets c known) { promise = length known }))
  lead_after p h c known sound ok is later newer first members =
      let n : ℕ = length known in
      let c' : Daemon = record (learn_sets c known) { promise = length known } in
      let forward : p d ≤ length known = omega (arith, ok.promised) in
      let state' = StateOk-promise p h (learn_sets c known) (length known) Idle [] (told_state p h c known ok is) (omega arith) is.fits in
      let sound' = promise_sound z sets p h d (length known) forward sound in
      let unchosen : h.chosen (length known) ≡ None = none_chosen (h.chosen (length known)) refl in
      let next = try_choice_after (put p d (length known)) h (record (learn_sets c known) { promise = length known }) [] sound' state' (record { is_known = refl; later = later; first = first; members = members }) unchosen tt in
      later_after p h (put p d (length known)) h (lead (record (learn_sets c known) { promise = length known })) (promise_extends sets p h d (length known) forward)
      (λ j. inl refl)
      (sent_before (put p d (length known)) h (queries (record (learn_sets c known) { promise = length known })) (try_choice (record (learn_sets c known) { promise = length known }) [])
      (Each-map_all (SentOk sets (put p d (length known)) h) (λ i. send c (Osd i) (Query (length known))) (λ i. is.fits) (asked (record (learn_sets c known) { promise = length known }))) next)
    where
      none_chosen : (found : Option (List Entry)) → h.chosen (length known) ≡ found → h.chosen (length known) ≡ None
      none_chosen None e = e
      none_chosen (Some log) e = (let o = sound.opened (length known) log later e in let led = o.led d first in absurd (omega (arith, led, ok.promised)))

  interval_after : (p : ℕ → ℕ) (h : History) (c : Daemon) (known : List (List ℕ)) → IsSound p z sets h → CopyOk z sets p h d c → IsKnown sets known → After z sets p h d (on_interval c known)
  interval_after p h c known sound ok is = by_test p h (nat_lt (length c.known) (length known)) (if leads c known then lead (record (learn_sets c known) { promise = length known }) else still (learn_sets c known)) (still c)
      (λ more. (
      let longer = ltb-true (length c.known) (length known) more in
      by_test p h (leads c known) (lead (record (learn_sets c known) { promise = length known })) (still (learn_sets c known))
      (λ all. (
      let parts = and_parts (not (nat_lt (length (set_of known (length known))) c.min_size) && is_primary (set_of known (length known)) c.number) (nat_lt c.promise (length known)) all in
      let two = and_parts (not (nat_lt (length (set_of known (length known))) c.min_size)) (is_primary (set_of known (length known)) c.number) parts.0 in
      let same : set_of known (length known) ≡ set_of sets (length known) = is.same (length known) (omega arith) (omega arith) in
      let enough : c.min_size ≤ length (set_of known (length known)) = ltb-false (length (set_of known (length known))) c.min_size (not-true (nat_lt (length (set_of known (length known))) c.min_size) two.0) in
      let members : z ≤ length (set_of sets (length known)) = subst (λ v. v ≤ length (set_of sets (length known))) ok.state.same_size (subst (λ l. c.min_size ≤ length l) same enough) in
      let first : is_primary (set_of sets (length known)) d ≡ true = subst (λ v. is_primary (set_of sets (length known)) v ≡ true) ok.state.number (subst (λ l. is_primary l c.number ≡ true) same two.1) in
      lead_after p h c known sound ok.state is (omega arith) (ltb-true c.promise (length known) parts.1) first members))
      (λ _. still_after p h (learn_sets c known) sound (record { state = told_state p h c known ok.state is; role = tt }))))
      (λ _. still_after p h c sound ok)

  pub comes_after : (b : Body) (p : ℕ → ℕ) (h : History) (c : Daemon) (from : Party) → IsSound p z sets h → CopyOk z sets p h d c → BodyOk sets p h from b → After z sets p h d (on_body b c from)
  comes_after (Interval known) p h c from sound ok good = interval_after p h c known sound ok good
  comes_after (Query n) p h c from sound ok good = query_after p h c from n sound ok good
  comes_after (Info n base log) p h c (Osd m) sound ok good = info_as_after c.role p h c n (record { number = m; base = base; log = log }) refl sound ok good
  comes_after (Info n base log) p h c Client sound ok good = still_after p h c sound ok
  comes_after (Install n log) p h c from sound ok good = install_comes_after p h c from n log sound ok good.0 good.1
  comes_after (Installed n) p h c (Osd m) sound ok good = installed_as_after c.role p h c n m refl sound ok good
  comes_after (Installed n) p h c Client sound ok good = still_after p h c sound ok
  comes_after (Append n place s) p h c from sound ok good = append_after p h c from n place s sound ok good
  comes_after (Appended n place) p h c (Osd m) sound ok good = appended_as_after c.role p h c n place m refl sound ok good
  comes_after (Appended n place) p h c Client sound ok good = still_after p h c sound ok
  comes_after (Request s) p h c from sound ok good = request_after p h c s sound ok
  comes_after (Reply id reply) p h c from sound ok good = still_after p h c sound ok
  comes_after (NotHere id) p h c from sound ok good = still_after p h c sound ok
