-- Each rule does at once what its role can, and the copy that leads the last interval takes its role there.
use Rattle.std.proofs.Common.{ℕ, ◌≡◌, ◌≤◌, ◌<◌, ◌+◌, Bool, true, false, not, ◌&&◌, nat_lt, ◌==◌, List, [], ◌∷◌, ◌++◌, length, refl, sym, ◌∙◌, ap, subst, arith, inl, inr, if◌then◌else◌}
use Rattle.std.specs.Prelude.{Some, None}
use Rattle.std.specs.List.{list_any}
use Rattle.std.proofs.lemmas.Bool.{ltb-true, ltb-false, eqb-true, cases_lt, both_ways, and_parts, and_from, le-ltb, lt-ltb, not_from_false}
use Rattle.entry_core.specs.Log.{is_in, decide, ids}
use Rattle.store_core.specs.Request.{Sealed}
use Rattle.store_core.specs.declared.entry.Entry.{Entry}
use Rattle.group_model_whole.specs.Steps.{Stepped, still, send}
use Rattle.group_model_whole.specs.ActingSets.{set_of, is_primary}
use Rattle.group_model_whole.specs.Decided.{with_entry}
use Rattle.group_model_whole.specs.Copy.{retransmit_as, on_info, on_installed, on_appended, on_request, on_request_as, on_query, promise_interval, on_append, acknowledged, on_install, on_interval, leads, lead, learn_sets, on_body}
use Rattle.group_model_whole.specs.Types.{PeerInfo, Role, Idle, Peering, Installing, Active, Daemon, Body, Interval, Query, Info, Install, Installed, Append, Appended, Request, Reply, NotHere, Party, Client, Osd, Sent}
use Rattle.group_model_whole.specs.History.{History}
use Rattle.group_model_whole.proofs.RecoveryStates.{RoleDue, RoleIsPrompt, IsLeader}
use Rattle.group_model_whole.proofs.Invariant.{IsKnown, IsPeering, RoleOk, StateOk, BodyOk}
use Rattle.group_model_whole.proofs.RecoveryMoves.{Moved, to_copy, installed_moved, appended_moved, info_moved}
use Rattle.group_model_whole.proofs.RecoveryTakes.{request_moved}
use Rattle.group_model_whole.proofs.RecoveryServes.{role_due-right}
use Rattle.group_model_whole.proofs.RecoveryKicks.{Started, kicked_due, known_of, lead_started}
use Rattle.group_model_whole.proofs.RecoveryFits.{BodyFits}

due_prompt : (up : List ℕ) (wire : List Sent) (c : Daemon) (r : Role) → RoleDue up wire c r → RoleIsPrompt c r
due_prompt up wire c Idle due = absurd due
due_prompt up wire c (Peering informed) due = due.0
due_prompt up wire c (Installing done) due = due.0
due_prompt up wire c (Active None) due = due
due_prompt up wire c (Active (Some holders)) due = due.0

pub record PromptStep (z : ℕ) (sets : List (List ℕ)) (d : ℕ) (c : Daemon) (s : Stepped) : Type 0 where
  pub prompt : RoleIsPrompt s.copy s.copy.role
  pub leader : is_primary (set_of sets (length sets)) d ≡ true → z ≤ length (set_of sets (length sets)) → IsLeader sets c → IsLeader sets s.copy

module _ (z : ℕ) (sets : List (List ℕ)) (promise : ℕ → ℕ) (h : History) (d : ℕ) (c : Daemon) (state : StateOk z sets promise h d c) (role : RoleOk z sets promise h d c c.role) (prompt : RoleIsPrompt c c.role)
    (promise' : ℕ → ℕ) (h' : History) where
  abbrev After' : Stepped → Type 0
  After' s = RoleOk z sets promise' h' d s.copy s.copy.role

  same_step : (s : Stepped) → s.copy ≡ c → PromptStep z sets d c s
  same_step s same = record {
    prompt = subst (λ v. RoleIsPrompt v v.role) (sym same) prompt;
    leader = λ first enough was. subst (λ v. IsLeader sets v) (sym same) was;
  }

  -- a step after which the copy has a role in the same interval
  due_step : (wire : List Sent) (s : Stepped) → s.copy.promise ≡ c.promise → RoleDue [] wire s.copy s.copy.role → After' s → PromptStep z sets d c s
  due_step wire s same due after = record {
    prompt = due_prompt [] wire s.copy s.copy.role due;
    leader = λ first enough was. go was;
  }
    where
      busy : s.copy.role ≡ Idle → ⊥
      busy idle = subst (λ v. RoleDue [] wire s.copy v) idle due

      go : IsLeader sets c → IsLeader sets s.copy
      go (inl late) = let known : s.copy.promise ≡ length s.copy.known = known_of z sets promise' h' d s.copy s.copy.role after busy in inl (omega (arith, late.0), omega (arith, late.0))
      go (inr there) = inr (same ∙ there.0, busy)

  due_now : (from : Party) (body : Body) (r : Role) → c.role ≡ r → (r ≡ Idle → ⊥) → RoleDue [] (to_copy c from body ∷ retransmit_as r c) c r
  due_now from body r is busy = role_due-right [] (to_copy c from body ∷ []) (retransmit_as r c) c r
      (kicked_due z sets promise h [] d c r (subst (λ v. RoleOk z sets promise h d c v) is role) (subst (λ v. RoleIsPrompt c v) is prompt) busy)

  moved_step : (rest : List Sent) (from : Party) (body : Body) (s : Stepped) → Moved [] rest from body c s → After' s → PromptStep z sets d c s
  moved_step rest from body s m after = due_step (rest ++ s.sent) s m.promise m.role after

  info_prompt : (r : Role) (n m base : ℕ) (log : List Entry) → c.role ≡ r → After' (on_info r c n (record { number = m; base = base; log = log })) → PromptStep z sets d c (on_info r c n (record { number = m; base = base; log = log }))
  info_prompt Idle n m base log is after = same_step (still c) refl
  info_prompt (Peering informed) n m base log is after = moved_step (retransmit_as (Peering informed) c) (Osd m) (Info n base log) (on_info (Peering informed) c n (record { number = m; base = base; log = log }))
      (info_moved [] (retransmit_as (Peering informed) c) c (Peering informed) n m base log is (due_now (Osd m) (Info n base log) (Peering informed) is (λ bad. cc))) after
  info_prompt (Installing done) n m base log is after = same_step (still c) refl
  info_prompt (Active flight) n m base log is after = same_step (still c) refl

  installed_prompt : (r : Role) (n m : ℕ) → c.role ≡ r → After' (on_installed r c n m) → PromptStep z sets d c (on_installed r c n m)
  installed_prompt Idle n m is after = same_step (still c) refl
  installed_prompt (Peering informed) n m is after = same_step (still c) refl
  installed_prompt (Installing done) n m is after = moved_step (retransmit_as (Installing done) c) (Osd m) (Installed n) (on_installed (Installing done) c n m)
      (installed_moved [] (retransmit_as (Installing done) c) c (Installing done) n m is (due_now (Osd m) (Installed n) (Installing done) is (λ bad. cc))) after
  installed_prompt (Active flight) n m is after = same_step (still c) refl

  appended_prompt : (r : Role) (n place m : ℕ) → c.role ≡ r → After' (on_appended r c n place m) → PromptStep z sets d c (on_appended r c n place m)
  appended_prompt Idle n place m is after = same_step (still c) refl
  appended_prompt (Peering informed) n place m is after = same_step (still c) refl
  appended_prompt (Installing done) n place m is after = same_step (still c) refl
  appended_prompt (Active None) n place m is after = same_step (still c) refl
  appended_prompt (Active (Some holders)) n place m is after = moved_step (retransmit_as (Active (Some holders)) c) (Osd m) (Appended n place) (on_appended (Active (Some holders)) c n place m)
      (appended_moved [] (retransmit_as (Active (Some holders)) c) c (Active (Some holders)) n place m is (due_now (Osd m) (Appended n place) (Active (Some holders)) is (λ bad. cc))) after

  request_prompt : (r : Role) (from : Party) (s : Sealed) → c.role ≡ r → After' (on_request c s) → PromptStep z sets d c (on_request c s)
  request_prompt Idle from s is after = same_step (on_request c s) (go (list_any (λ w. w.id == s.id) c.waiting))
    where
      go : (b : Bool) → (if b then still c else on_request_as c.role c s).copy ≡ c
      go true = refl
      go false = subst (λ v. (on_request_as v c s).copy ≡ c) (sym is) refl
  request_prompt (Peering informed) from s is after = moved_step (retransmit_as c.role c) from (Request s) (on_request c s) (request_moved [] (retransmit_as c.role c) from c s (due_now from (Request s) c.role refl (λ bad. (let e : Peering informed ≡ Idle = sym is ∙ bad in cc)))) after
  request_prompt (Installing done) from s is after = moved_step (retransmit_as c.role c) from (Request s) (on_request c s) (request_moved [] (retransmit_as c.role c) from c s (due_now from (Request s) c.role refl (λ bad. (let e : Installing done ≡ Idle = sym is ∙ bad in cc)))) after
  request_prompt (Active flight) from s is after = moved_step (retransmit_as c.role c) from (Request s) (on_request c s) (request_moved [] (retransmit_as c.role c) from c s (due_now from (Request s) c.role refl (λ bad. (let e : Active flight ≡ Idle = sym is ∙ bad in cc)))) after

  -- a later promise, which the first of the last interval does not make
  later_leader : (n : ℕ) → c.promise < n → n ≤ length sets → is_primary (set_of sets n) d ≡ false → is_primary (set_of sets (length sets)) d ≡ true → IsLeader sets c → (n < length sets) × (length c.known < length sets)
  later_leader n less within not_first first (inl late) = elim (cases_lt n (length sets)) [
    | inl before ↦ (before, late.1)
    | inr same ↦ (let e : n ≡ length sets = omega arith in absurd (both_ways (is_primary (set_of sets n) d) not_first (subst (λ v. is_primary (set_of sets v) d ≡ true) (sym e) first)))
  ]
  later_leader n less within not_first first (inr there) = absurd (omega (arith, there.0))

  query_prompt : (from : Party) (n : ℕ) → n ≤ length sets → is_primary (set_of sets n) d ≡ false → PromptStep z sets d c (on_query c from n)
  query_prompt from n within not_first = outer (nat_lt n c.promise)
    where
      inner : (b : Bool) → nat_lt c.promise n ≡ b → PromptStep z sets d c (record { copy = if b then record c { promise = n; role = Idle; waiting = [] } else c; sent = send c from (Info n c.base c.log) ∷ [] })
      inner true e = let less : c.promise < n = ltb-true c.promise n e in record { prompt = tt; leader = λ first enough was. inl (later_leader n less within not_first first was) }
      inner false e = same_step (record { copy = c; sent = send c from (Info n c.base c.log) ∷ [] }) refl

      outer : (b : Bool) → PromptStep z sets d c (if b then still c else record { copy = promise_interval c n; sent = send c from (Info n c.base c.log) ∷ [] })
      outer true = same_step (still c) refl
      outer false = inner (nat_lt c.promise n) refl

  changed_prompt : (base : ℕ) (log : List Entry) (r : Role) → ((informed : List PeerInfo) → r ≡ Peering informed → ⊥) → RoleIsPrompt c r → RoleIsPrompt (record c { base = base; log = log }) r
  changed_prompt base log Idle not_peering p = tt
  changed_prompt base log (Peering informed) not_peering p = absurd (not_peering informed refl)
  changed_prompt base log (Installing done) not_peering p = p
  changed_prompt base log (Active None) not_peering p = p
  changed_prompt base log (Active (Some holders)) not_peering p = p

  not_chosen : (n : ℕ) (log : List Entry) → n ≡ c.promise → h.chosen n ≡ Some log → (informed : List PeerInfo) → c.role ≡ Peering informed → ⊥
  not_chosen n log same is informed peering =
      let ok : IsPeering z sets promise h d c informed = subst (λ v. RoleOk z sets promise h d c v) peering role in
      let is' : h.chosen c.promise ≡ Some log = subst (λ v. h.chosen v ≡ Some log) same is in
      let no = ok.unchosen in cc

  changed_step : (base : ℕ) (log : List Entry) (sent : List Sent) → ((informed : List PeerInfo) → c.role ≡ Peering informed → ⊥) → PromptStep z sets d c (record { copy = record c { base = base; log = log }; sent = sent })
  changed_step base log sent not_peering = record { prompt = changed_prompt base log c.role not_peering prompt; leader = λ first enough was. was }

  install_prompt : (from : Party) (n : ℕ) (log : List Entry) → n ≤ length sets → h.chosen n ≡ Some log → is_primary (set_of sets n) d ≡ false → PromptStep z sets d c (on_install c from n log)
  install_prompt from n log within chosen not_first = outer (nat_lt n c.promise) refl
    where
      base : (b : Bool) → nat_lt c.promise n ≡ b → (t : Bool) → c.promise ≤ n → PromptStep z sets d c (record { copy = if t then record (if b then record c { promise = n; role = Idle; waiting = [] } else c) { base = n; log = log } else (if b then record c { promise = n; role = Idle; waiting = [] } else c); sent = send c from (Installed n) ∷ [] })
      base true e true le = let less : c.promise < n = ltb-true c.promise n e in record { prompt = tt; leader = λ first enough was. inl (later_leader n less within not_first first was) }
      base true e false le = let less : c.promise < n = ltb-true c.promise n e in record { prompt = tt; leader = λ first enough was. inl (later_leader n less within not_first first was) }
      base false e true le = let not_less : n ≤ c.promise = ltb-false c.promise n e in let same : n ≡ c.promise = omega arith in changed_step n log (send c from (Installed n) ∷ []) (not_chosen n log same chosen)
      base false e false le = same_step (record { copy = c; sent = send c from (Installed n) ∷ [] }) refl

      outer : (b : Bool) → nat_lt n c.promise ≡ b → PromptStep z sets d c (if b then still c else (let next : Daemon = promise_interval c n in record { copy = if nat_lt c.base n then record next { base = n; log = log } else next; sent = send c from (Installed n) ∷ [] }))
      outer true e = same_step (still c) refl
      outer false e = base (nat_lt c.promise n) refl (nat_lt c.base n) (ltb-false n c.promise e)

  append_prompt : (from : Party) (n place : ℕ) (s : Sealed) → PromptStep z sets d c (on_append c from n place s)
  append_prompt from n place s = outer ((c.promise == n) && (c.base == n)) refl
    where
      ack : (log : List Entry) → ((informed : List PeerInfo) → c.role ≡ Peering informed → ⊥) → (b : Bool) → PromptStep z sets d c (if b then still (record c { log = log }) else record { copy = record c { log = log }; sent = send (record c { log = log }) from (Appended n place) ∷ [] })
      ack log out true = changed_step c.base log [] out
      ack log out false = changed_step c.base log (send (record c { log = log }) from (Appended n place) ∷ []) out

      inner : ((informed : List PeerInfo) → c.role ≡ Peering informed → ⊥) → (b : Bool) → PromptStep z sets d c (if b then acknowledged (with_entry c s) from n place else acknowledged c from n place)
      inner out true = ack (c.log ++ decide c.log s ∷ []) out (nat_lt (length (c.log ++ decide c.log s ∷ [])) place)
      inner out false = ack c.log out (nat_lt (length c.log) place)

      outer : (b : Bool) → ((c.promise == n) && (c.base == n)) ≡ b → PromptStep z sets d c (if b then (if (length c.log + 1 == place) && not (is_in (ids c.log) s.id) then acknowledged (with_entry c s) from n place else acknowledged c from n place) else still c)
      outer true e = let q = and_parts (c.promise == n) (c.base == n) e in inner (not_chosen c.base state.source (eqb-true c.base n q.1 ∙ sym (eqb-true c.promise n q.0)) state.source_is) ((length c.log + 1 == place) && not (is_in (ids c.log) s.id))
      outer false e = same_step (still c) refl

  interval_prompt : (known : List (List ℕ)) → IsKnown sets known → After' (on_interval c known) → PromptStep z sets d c (on_interval c known)
  interval_prompt known is_known after = outer (nat_lt (length c.known) (length known)) refl after
    where
      it_leads : length known ≡ length sets → length c.known < length known → is_primary (set_of sets (length sets)) d ≡ true → z ≤ length (set_of sets (length sets)) → c.promise < length sets → leads c known ≡ true
      it_leads all newer first enough late =
          let same : set_of known (length known) ≡ set_of sets (length sets) = is_known.same (length known) (omega arith) (omega arith) ∙ ap (set_of sets) all in
          let own : is_primary (set_of known (length known)) c.number ≡ true = subst (λ v. is_primary v c.number ≡ true) (sym same) (subst (λ v. is_primary (set_of sets (length sets)) v ≡ true) (sym state.number) first) in
          let many : c.min_size ≤ length (set_of known (length known)) = subst (λ v. c.min_size ≤ length v) (sym same) (subst (λ v. v ≤ length (set_of sets (length sets))) (sym state.same_size) enough) in
          and_from (not (nat_lt (length (set_of known (length known))) c.min_size) && is_primary (set_of known (length known)) c.number) (nat_lt c.promise (length known))
          (and_from (not (nat_lt (length (set_of known (length known))) c.min_size)) (is_primary (set_of known (length known)) c.number)
          (not_from_false (nat_lt (length (set_of known (length known))) c.min_size) (le-ltb (length (set_of known (length known))) c.min_size many)) own)
          (lt-ltb c.promise (length known) (omega arith))

      -- a copy that leads the last interval knows of it
      knows : length c.known < length known → (c.promise ≡ length sets) × (c.role ≡ Idle → ⊥) → ⊥
      knows newer there =
          let all : c.promise ≡ length c.known = known_of z sets promise h d c c.role role there.1 in
          let same : c.promise ≡ length sets = there.0 in
          let fits : length known ≤ length sets = is_known.fits in
          absurd (omega arith)

      told_leader : length c.known < length known → leads c known ≡ false → is_primary (set_of sets (length sets)) d ≡ true → z ≤ length (set_of sets (length sets)) → IsLeader sets c → IsLeader sets (learn_sets c known)
      told_leader newer not_leads first enough (inl late) = elim (cases_lt (length known) (length sets)) [
        | inl before ↦ inl (late.0, before)
        | inr all ↦ (let same : length known ≡ length sets = omega (arith, is_known.fits) in absurd (both_ways (leads c known) not_leads (it_leads same newer first enough late.0)))
      ]
      told_leader newer not_leads first enough (inr there) = absurd (knows newer there)

      lead_leader : length c.known < length known → (s : Started [] [] (length known) (lead (record (learn_sets c known) { promise = length known }))) → After' (lead (record (learn_sets c known) { promise = length known })) →
          IsLeader sets c → IsLeader sets (lead (record (learn_sets c known) { promise = length known })).copy
      lead_leader newer s after (inl late) = elim (cases_lt (length known) (length sets)) [
        | inl before ↦ (
            let all : (lead (record (learn_sets c known) { promise = length known })).copy.promise ≡ length (lead (record (learn_sets c known) { promise = length known })).copy.known = known_of z sets promise' h' d (lead (record (learn_sets c known) { promise = length known })).copy (lead (record (learn_sets c known) { promise = length known })).copy.role after (busy s) in
            let b : length known < length sets = before in
            let same : (lead (record (learn_sets c known) { promise = length known })).copy.promise ≡ length known = s.promise in
            inl (omega arith, omega arith))
        | inr all ↦ (let a : length sets ≤ length known = all in let same : (lead (record (learn_sets c known) { promise = length known })).copy.promise ≡ length known = s.promise in let fits : length known ≤ length sets = is_known.fits in inr (omega arith, busy s))
      ]
        where
          busy : Started [] [] (length known) (lead (record (learn_sets c known) { promise = length known })) → (lead (record (learn_sets c known) { promise = length known })).copy.role ≡ Idle → ⊥
          busy s idle = subst (λ v. RoleDue [] (lead (record (learn_sets c known) { promise = length known })).sent (lead (record (learn_sets c known) { promise = length known })).copy v) idle s.role
      lead_leader newer s after (inr there) = absurd (knows newer there)

      inner : nat_lt (length c.known) (length known) ≡ true → (b : Bool) → leads c known ≡ b → After' (if b then lead (record (learn_sets c known) { promise = length known }) else still (learn_sets c known)) → PromptStep z sets d c (if b then lead (record (learn_sets c known) { promise = length known }) else still (learn_sets c known))
      inner newer true it after =
          let s : Started [] [] (length known) (lead (record (learn_sets c known) { promise = length known })) = lead_started [] [] (record (learn_sets c known) { promise = length known }) refl in
          record {
            prompt = due_prompt [] (lead (record (learn_sets c known) { promise = length known })).sent (lead (record (learn_sets c known) { promise = length known })).copy (lead (record (learn_sets c known) { promise = length known })).copy.role s.role;
            leader = λ first enough was. lead_leader (ltb-true (length c.known) (length known) newer) s after was;
          }
      inner newer false it after = record { prompt = tt; leader = told_leader (ltb-true (length c.known) (length known) newer) it }

      outer : (b : Bool) → nat_lt (length c.known) (length known) ≡ b → After' (if b then (if leads c known then lead (record (learn_sets c known) { promise = length known }) else still (learn_sets c known)) else still c) →
          PromptStep z sets d c (if b then (if leads c known then lead (record (learn_sets c known) { promise = length known }) else still (learn_sets c known)) else still c)
      outer true newer after = inner newer (leads c known) refl after
      outer false old after = same_step (still c) refl

  pub comes_prompt : (b : Body) (from : Party) → BodyOk sets promise h from b → BodyFits sets (Osd d) b → After' (on_body b c from) → PromptStep z sets d c (on_body b c from)
  comes_prompt (Interval known) from ok fits after = interval_prompt known ok after
  comes_prompt (Query n) from ok fits after = query_prompt from n ok (fits.1 d refl)
  comes_prompt (Info n base log) (Osd m) ok fits after = info_prompt c.role n m base log refl after
  comes_prompt (Info n base log) Client ok fits after = same_step (still c) refl
  comes_prompt (Install n log) from ok fits after = install_prompt from n log ok.0 ok.1 (fits.1 d refl).1
  comes_prompt (Installed n) (Osd m) ok fits after = installed_prompt c.role n m refl after
  comes_prompt (Installed n) Client ok fits after = same_step (still c) refl
  comes_prompt (Append n place s) from ok fits after = append_prompt from n place s
  comes_prompt (Appended n place) (Osd m) ok fits after = appended_prompt c.role n place m refl after
  comes_prompt (Appended n place) Client ok fits after = same_step (still c) refl
  comes_prompt (Request s) from ok fits after = request_prompt c.role from s refl after
  comes_prompt (Reply id reply) from ok fits after = same_step (still c) refl
  comes_prompt (NotHere id) from ok fits after = same_step (still c) refl
