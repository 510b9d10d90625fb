-- The answer to a Query agrees.
use Rattle.std.proofs.Common.{ℕ, suc, ◌≡◌, ◌≤◌, ◌<◌, ◌-◌, Bool, true, false, ◌==◌, ◌||◌, nat_lt, leb, min, List, [], ◌∷◌, length, take, refl, sym, ◌∙◌, ap, subst, arith, inl, inr, if◌then◌else◌}
use Rattle.std.specs.Prelude.{Option, Some, None, slice_get}
use Rattle.std.specs.Option.{option_map}
use Rattle.std.proofs.lemmas.Bool.{cases_eq, eqb-true, leb-true, ltb-false, and_parts, or_cases}
use Rattle.std.proofs.lemmas.List.{length-take-le}
use Rattle.entry_core.specs.Log.{Legal}
use Rattle.store_core.specs.Request.{Sealed}
use Rattle.entry_core.specs.Fitting.{part_of, last_id}
use Rattle.store_core.specs.declared.entry.Entry.{Entry}
use Rattle.group_model_whole.specs.Steps.{still as whole_still, send as whole_send}
use Rattle.group_model_whole.specs.Copy.{promise_interval as whole_promise_interval, on_query as whole_on_query}
use Rattle.group_model_whole.specs.Types.{Role as WholeRole, Idle as WholeIdle, Daemon, Info as WholeInfo, Party, Osd, Client}
use Rattle.group_model_whole.specs.Asked.{IsAsked, InLog}
use Rattle.group_model_whole.specs.History.{History, IsSound}
use Rattle.group_model_whole.proofs.Invariant.{StateOk, CopyOk}
use Rattle.group_model.specs.Types.{Idle, Copy}
use Rattle.peer_core.specs.Steps.{still, send}
use Rattle.peer_core.specs.ActingSets.{others}
use Rattle.peer_core.specs.Copy.{promise_interval, info, on_query}
use Rattle.group_messages.specs.Starts.{same_id, agrees_at, start_for}
use Rattle.group_model.proofs.Agreeing.{Past, IsPart, QueryAgrees, OfBoth, ToldAgrees, InfoStands, RoleAgrees, CopyAgrees, StepAgrees, whole}
use Rattle.group_model.proofs.Lists.{get-take, take-next, At, at_place}
use Rattle.group_model.proofs.Leading.{legal_of, asked_of, same_at}
use Rattle.group_model.proofs.Pasts.{past_of_state, pasts_agree}

pub past_legal : (p : ℕ → ℕ) (z : ℕ) (sets : List (List ℕ)) (h : History) (m n : ℕ) (log : List Entry) → IsSound p z sets h → Past p h m n log → Legal log
past_legal p z sets h m n log sound past = legal_of log (h.grown past.at) past.within (sound.legal past.at)

pub past_asked : (P : Sealed → Type 0) (p : ℕ → ℕ) (h : History) (m n : ℕ) (log : List Entry) → ((k : ℕ) → InLog P (h.grown k)) → Past p h m n log → InLog P log
past_asked P p h m n log asked past = asked_of P log (h.grown past.at) past.within (asked past.at)

-- a copy whose interval has chosen nothing yet did not install it
pub base_before : (p : ℕ → ℕ) (z : ℕ) (sets : List (List ℕ)) (h : History) (d n : ℕ) (c : Daemon) → StateOk z sets p h d c → h.chosen n ≡ None → c.base ≤ n → c.base < n
base_before p z sets h d n c state none upto = elim (cases_eq c.base n) [
  | inl same ↦ (let some : h.chosen n ≡ Some state.source = subst (λ v. h.chosen v ≡ Some state.source) same state.source_is in absurd (cc))
  | inr other ↦ omega (arith, upto)
]

-- the last place of the asker's log: where the numbers are the same, the entries are
last_place : (requests : List Sealed) (mine log : List Entry) → Legal mine → Legal log → InLog (IsAsked requests) mine → InLog (IsAsked requests) log → 1 ≤ length mine → length mine ≤ length log →
    take (length mine - 1) mine ≡ take (length mine - 1) log → same_id (last_id (take (length mine) log)) (last_id mine) ≡ true → take (length mine) mine ≡ take (length mine) log
last_place requests mine log legal legal' asked asked' some fits fronts same =
    let k : ℕ = length mine - 1 in
    let here : At mine k = at_place mine k (omega arith) in
    let there : At log k = at_place log k (omega arith) in
    let cut : length (take (length mine) log) ≡ length mine = length-take-le (length mine) log fits in
    let front : slice_get (take (length mine) log) (length (take (length mine) log) - 1) ≡ Some there.item =
    ap (λ v. slice_get (take (length mine) log) (v - 1)) cut ∙ get-take (length mine) log k (omega arith) ∙ there.is in
    let first : last_id (take (length mine) log) ≡ Some there.item.sealed.id = ap (λ v. option_map (λ (e : Entry). e.sealed.id) v) front in
    let second : last_id mine ≡ Some here.item.sealed.id = ap (λ v. option_map (λ (e : Entry). e.sealed.id) v) here.is in
    let equal : (there.item.sealed.id == here.item.sealed.id) ≡ true = sym (λ i. same_id (first i) (second i)) ∙ same in
    let one : here.item ≡ there.item = same_at requests mine log k here.item there.item legal legal' asked asked' here.is there.is fronts (sym (eqb-true there.item.sealed.id here.item.sealed.id equal)) in
    let next : take (suc k) mine ≡ take (suc k) log = take-next k mine log there.item fronts (here.is ∙ ap Some one) there.is in
    let long : suc k ≡ length mine = omega arith in
    subst (λ v. take v mine ≡ take v log) long next

-- the answer begins at a place up to which both logs are the same
pub answer_part : (requests : List Sealed) (mine log : List Entry) → Legal mine → Legal log → InLog (IsAsked requests) mine → InLog (IsAsked requests) log →
    ((k : ℕ) → k ≤ length mine - 1 → k ≤ length log - 1 → take k mine ≡ take k log) →
    IsPart mine log (start_for log (length mine) (last_id mine)) (part_of log (start_for log (length mine) (last_id mine)))
answer_part requests mine log legal legal' asked asked' fronts = go (agrees_at log (length mine) (last_id mine)) refl
  where
    at_last : length mine ≤ length log → ((length mine == 0) || same_id (last_id (take (length mine) log)) (last_id mine)) ≡ true → take (length mine) mine ≡ take (length mine) log
    at_last fits either = elim (or_cases (length mine == 0) (same_id (last_id (take (length mine) log)) (last_id mine)) either) [
      | inl none ↦ (let zero : length mine ≡ 0 = eqb-true (length mine) 0 none in subst (λ v. take v mine ≡ take v log) (sym zero) refl)
      | inr same ↦ (elim (cases_eq (length mine) 0) [
        | inl zero ↦ subst (λ v. take v mine ≡ take v log) (sym zero) refl
        | inr some ↦ last_place requests mine log legal legal' asked asked' (omega arith) fits (fronts (length mine - 1) (omega arith) (omega arith)) same
      ])
    ]

    go : (b : Bool) → agrees_at log (length mine) (last_id mine) ≡ b →
        IsPart mine log (if b then length mine else min (length mine) (length log) - 1) (part_of log (if b then length mine else min (length mine) (length log) - 1))
    go true e =
        let parts = and_parts (leb (length mine) (length log)) ((length mine == 0) || same_id (last_id (take (length mine) log)) (last_id mine)) e in
        let fits : length mine ≤ length log = leb-true (length mine) (length log) parts.0 in
        record { within = omega arith; within_log = fits; same = at_last fits parts.1; part_is = refl }
    go false e = record { within = omega arith; within_log = omega arith; same = fronts (min (length mine) (length log) - 1) (omega arith) (omega arith); part_is = refl }

pub promise_agrees : (p : ℕ → ℕ) (h : History) (c : Copy) (r : WholeRole) (n : ℕ) → RoleAgrees p h c.promise c.log (others c) c.role r → CopyAgrees p h (promise_interval c n) (whole_promise_interval (whole c r) n)
promise_agrees p h c r n a = go (nat_lt c.promise n)
  where
    go : (b : Bool) → CopyAgrees p h (if b then record c { promise = n; role = Idle; waiting = [] } else c) (if b then record (whole c r) { promise = n; role = WholeIdle; waiting = [] } else whole c r)
    go true = record { role = WholeIdle; is = refl; agrees = refl }
    go false = record { role = r; is = refl; agrees = a }

module _ (requests : List Sealed) (z : ℕ) (sets : List (List ℕ)) (d : ℕ) (p : ℕ → ℕ) (h : History) (sound : IsSound p z sets h) (asked : (n : ℕ) → InLog (IsAsked requests) (h.grown n)) where
  -- who answers had that log when it promised
  answers_past : (c : Copy) (r : WholeRole) (n : ℕ) → c.promise ≤ n → h.chosen n ≡ None → CopyOk z sets p h d (whole_promise_interval (whole c r) n) → Past p h d n c.log
  answers_past c r n forward none ok = go (nat_lt c.promise n) refl ok
    where
      go : (b : Bool) → nat_lt c.promise n ≡ b → CopyOk z sets p h d (if b then record (whole c r) { promise = n; role = WholeIdle; waiting = [] } else whole c r) → Past p h d n c.log
      go true e ok = past_of_state p z sets h d n (record (whole c r) { promise = n; role = WholeIdle; waiting = [] }) ok.state (omega arith)
          (base_before p z sets h d n (record (whole c r) { promise = n; role = WholeIdle; waiting = [] }) ok.state none ok.state.base)
      go false e ok =
          let late = ltb-false c.promise n e in
          past_of_state p z sets h d n (whole c r) ok.state (omega arith) (base_before p z sets h d n (whole c r) ok.state none (omega (arith, ok.state.base)))

  told_of : (c : Copy) (n len asker : ℕ) (end : Option ℕ) → Past p h d n c.log → QueryAgrees p h asker n len end → ToldAgrees p h n d asker c.log (start_for c.log len end) (part_of c.log (start_for c.log len end))
  told_of c n len asker end past q = record {
    mine = q.log;
    asked = q.past;
    told = record {
      is_part = subst (λ v. IsPart q.log c.log (start_for c.log v end) (part_of c.log (start_for c.log v end))) (sym q.len_is)
          (subst (λ v. IsPart q.log c.log (start_for c.log (length q.log) v) (part_of c.log (start_for c.log (length q.log) v))) (sym q.end_is)
          (answer_part requests q.log c.log (past_legal p z sets h asker n q.log sound q.past) (past_legal p z sets h d n c.log sound past)
          (past_asked (IsAsked requests) p h asker n q.log asked q.past) (past_asked (IsAsked requests) p h d n c.log asked past)
          (λ k fits fits'. pasts_agree p z sets h sound asker d n n k q.log c.log q.past past fits fits')));
      past = past;
    };
  }

  info_stands : (c : Copy) (from : Party) (n len : ℕ) (end : Option ℕ) → c.number ≡ d → (h.chosen n ≡ None → Past p h d n c.log) → (h.chosen n ≡ None → OfBoth from (Osd d) (λ m e. QueryAgrees p h m n len end)) →
      InfoStands p h (Osd c.number) from n c.base (start_for c.log len end) (part_of c.log (start_for c.log len end)) (WholeInfo n c.base c.log)
  info_stands c Client n len end number past asks = record { log = c.log; is = refl; agrees = λ none. tt }
  info_stands c (Osd asker) n len end number past asks = record {
    log = c.log;
    is = refl;
    agrees = λ none. subst (λ v. ToldAgrees p h n v asker c.log (start_for c.log len end) (part_of c.log (start_for c.log len end))) (sym number) (told_of c n len asker end (past none) (asks none));
  }

  pub query_agrees : (c : Copy) (r : WholeRole) (from : Party) (n len : ℕ) (end : Option ℕ) → c.number ≡ d → RoleAgrees p h c.promise c.log (others c) c.role r →
      (h.chosen n ≡ None → OfBoth from (Osd d) (λ m e. QueryAgrees p h m n len end)) → CopyOk z sets p h d (whole_on_query (whole c r) from n).copy →
      StepAgrees p h (on_query c from n len end) (whole_on_query (whole c r) from n)
  query_agrees c r from n len end number a asks ok = go (nat_lt n c.promise) refl ok
    where
      go : (b : Bool) → nat_lt n c.promise ≡ b →
          CopyOk z sets p h d (if b then whole_still (whole c r) else record { copy = whole_promise_interval (whole c r) n; sent = whole_send (whole c r) from (WholeInfo n c.base c.log) ∷ [] }).copy →
          StepAgrees p h (if b then still c else record { copy = promise_interval c n; sent = send c from (info c n (start_for c.log len end)) ∷ [] })
          (if b then whole_still (whole c r) else record { copy = whole_promise_interval (whole c r) n; sent = whole_send (whole c r) from (WholeInfo n c.base c.log) ∷ [] })
      go true e ok = record { copy = record { role = r; is = refl; agrees = a }; sent = tt }
      go false e ok = record {
        copy = promise_agrees p h c r n a;
        sent = (
          record {
            from = refl;
            to = refl;
            body = info_stands c from n len end number (λ none. answers_past c r n (ltb-false n c.promise e) none ok) asks;
          },
          tt,
        );
      }
