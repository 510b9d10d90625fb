-- The rules of members agree: what they acknowledge, and what they install.
use Rattle.std.proofs.Common.{ℕ, ◌≡◌, ◌≤◌, ◌<◌, ◌+◌, Bool, true, false, not, ◌==◌, ◌&&◌, nat_lt, List, [], ◌∷◌, ◌++◌, length, refl, sym, ◌∙◌, ap, subst, arith, length-append, if◌then◌else◌}
use Rattle.std.specs.Prelude.{Some, None}
use Rattle.std.proofs.lemmas.Bool.{eqb-true, ltb-true, ltb-false, and_parts}
use Rattle.entry_core.specs.Log.{decide, is_in, ids}
use Rattle.store_core.specs.Request.{Sealed}
use Rattle.entry_core.specs.Fitting.{fitted}
use Rattle.store_core.specs.declared.entry.Entry.{Entry}
use Rattle.group_model_whole.specs.Serve.{serve as whole_serve}
use Rattle.group_model_whole.specs.Decided.{with_entry as whole_with_entry, last}
use Rattle.group_model_whole.specs.Copy.{promise_interval as whole_promise_interval, on_install as whole_on_install, on_installed as whole_on_installed, acknowledged as whole_acknowledged, on_append as whole_on_append, complete as whole_complete, on_appended as whole_on_appended}
use Rattle.group_model_whole.specs.Steps.{still as whole_still, send as whole_send}
use Rattle.group_model_whole.specs.Types.{Role as WholeRole, Idle as WholeIdle, Installing as WholeInstalling, Active as WholeActive, Daemon, Installed as WholeInstalled, Appended as WholeAppended, Party}
use Rattle.group_model_whole.specs.Asked.{IsAsked, InLog}
use Rattle.group_model_whole.specs.History.{History, IsSound}
use Rattle.group_model_whole.proofs.Invariant.{RoleOk, CopyOk}
use Rattle.group_model.specs.Types.{Installed, Role, Idle, Peering, Installing, Active, Copy}
use Rattle.peer_core.specs.Steps.{still, send}
use Rattle.peer_core.specs.ActingSets.{others, counted, all_count}
use Rattle.peer_core.specs.Decided.{with_entry}
use Rattle.peer_core.specs.Serve.{serve}
use Rattle.peer_core.specs.Copy.{promise_interval, install_fitted, on_install, on_installed, acknowledged, on_append, complete, on_appended}
use Rattle.group_model.proofs.Agreeing.{Past, IsPart, InstallAgrees, RoleAgrees, CopyAgrees, StepAgrees, whole}
use Rattle.group_model.proofs.Leading.{legal_of, asked_of}
use Rattle.group_model.proofs.Pasts.{past_unique, past_of_state}
use Rattle.group_model.proofs.Fits.{past_begins_chosen}
use Rattle.group_model.proofs.Choosing.{fits_by}
use Rattle.group_model.proofs.Queries.{promise_agrees}
use Rattle.group_model.proofs.SuffixServing.{by_test, serve_agrees, complete_agrees, acknowledged_agrees}

-- Installed and Appended

module _ (p : ℕ → ℕ) (h : History) (c : Copy) (r : WholeRole) (unchanged : CopyAgrees p h c (whole c r)) where
  same_still : StepAgrees p h (still c) (whole_still (whole c r))
  same_still = record { copy = unchanged; sent = tt }

  pub installed_agrees : (q : Role) (n m : ℕ) → RoleAgrees p h c.promise c.log (others c) q r → StepAgrees p h (on_installed q c n m) (whole_on_installed r (whole c r) n m)
  installed_agrees Idle n m is = subst (λ v. StepAgrees p h (still c) (whole_on_installed v (whole c r) n m)) (sym is) same_still
  installed_agrees (Peering informed) n m is = subst (λ v. StepAgrees p h (still c) (whole_on_installed v (whole c r) n m)) (sym is.is) same_still
  installed_agrees (Active flight) n m is = subst (λ v. StepAgrees p h (still c) (whole_on_installed v (whole c r) n m)) (sym is) same_still
  installed_agrees (Installing done common) n m is = subst (λ v. StepAgrees p h (on_installed (Installing done common) c n m) (whole_on_installed v (whole c r) n m)) (sym is.0)
      (by_test p h (c.promise == n) (if all_count c (counted c done m) then serve c.waiting c else still (record c { role = Installing (counted c done m) common })) (still c)
      (if all_count c (counted c done m) then whole_serve c.waiting (whole c r) else whole_still (record (whole c r) { role = WholeInstalling (counted c done m) })) (whole_still (whole c r))
      (λ _. by_test p h (all_count c (counted c done m)) (serve c.waiting c) (still (record c { role = Installing (counted c done m) common }))
      (whole_serve c.waiting (whole c r)) (whole_still (record (whole c r) { role = WholeInstalling (counted c done m) }))
      (λ _. serve_agrees p h c.waiting c r)
      (λ _. record { copy = record { role = WholeInstalling (counted c done m); is = refl; agrees = (refl, is.1) }; sent = tt }))
      (λ _. same_still))

  pub appended_agrees : (q : Role) (n place m : ℕ) → RoleAgrees p h c.promise c.log (others c) q r → StepAgrees p h (on_appended q c n place m) (whole_on_appended r (whole c r) n place m)
  appended_agrees Idle n place m is = subst (λ v. StepAgrees p h (still c) (whole_on_appended v (whole c r) n place m)) (sym is) same_still
  appended_agrees (Peering informed) n place m is = subst (λ v. StepAgrees p h (still c) (whole_on_appended v (whole c r) n place m)) (sym is.is) same_still
  appended_agrees (Installing done common) n place m is = subst (λ v. StepAgrees p h (still c) (whole_on_appended v (whole c r) n place m)) (sym is.0) same_still
  appended_agrees (Active None) n place m is = subst (λ v. StepAgrees p h (still c) (whole_on_appended v (whole c r) n place m)) (sym is) same_still
  appended_agrees (Active (Some holders)) n place m is = subst (λ v. StepAgrees p h (on_appended (Active (Some holders)) c n place m) (whole_on_appended v (whole c r) n place m)) (sym is)
      (by_test p h ((c.promise == n) && (place == length c.log)) (if all_count c (counted c holders m) then complete c (last c.log) else still (record c { role = Active (Some (counted c holders m)) })) (still c)
      (if all_count c (counted c holders m) then whole_complete (whole c r) (last c.log) else whole_still (record (whole c r) { role = WholeActive (Some (counted c holders m)) })) (whole_still (whole c r))
      (λ _. by_test p h (all_count c (counted c holders m)) (complete c (last c.log)) (still (record c { role = Active (Some (counted c holders m)) }))
      (whole_complete (whole c r) (last c.log)) (whole_still (record (whole c r) { role = WholeActive (Some (counted c holders m)) }))
      (λ _. complete_agrees p h (last c.log) c r)
      (λ _. record { copy = record { role = WholeActive (Some (counted c holders m)); is = refl; agrees = refl }; sent = tt }))
      (λ _. same_still))

-- Append

module _ (z : ℕ) (sets : List (List ℕ)) (d : ℕ) (p : ℕ → ℕ) (h : History) (p' : ℕ → ℕ) (h' : History) (chosen_stays : (n : ℕ) (log : List Entry) → h.chosen n ≡ Some log → h'.chosen n ≡ Some log)
    (c : Copy) (r : WholeRole) (ok : CopyOk z sets p h d (whole c r)) where
  -- a copy that takes an entry of its interval leads none, unless it is active
  pushed_role : (s : Sealed) (q : Role) → RoleAgrees p' h' c.promise c.log (others c) q r → c.base ≡ c.promise → CopyOk z sets p' h' d (whole (with_entry c s) r) →
      RoleAgrees p' h' c.promise (c.log ++ decide c.log s ∷ []) (others c) q r
  pushed_role s Idle is based ok' = is
  pushed_role s (Active flight) is based ok' = is
  pushed_role s (Peering informed) is based ok' =
      let peering = subst (λ v. RoleOk z sets p' h' d (whole (with_entry c s) r) v) is.is ok'.role in
      let none = peering.unchosen in
      let state = ok'.state in
      let some : h'.chosen c.promise ≡ Some state.source = subst (λ v. h'.chosen v ≡ Some state.source) based state.source_is in
      absurd (cc)
  pushed_role s (Installing done common) is based ok' =
      let before = subst (λ v. RoleOk z sets p h d (whole c r) v) is.0 ok.role in
      let after = subst (λ v. RoleOk z sets p' h' d (whole (with_entry c s) r) v) is.0 ok'.role in
      let was : h'.chosen c.promise ≡ Some c.log = chosen_stays c.promise c.log before.chosen in
      let now = after.chosen in
      let same : c.log ≡ c.log ++ decide c.log s ∷ [] = cc in
      absurd (omega (arith, ap length same, length-append c.log (decide c.log s ∷ [])))

  acknowledged_copy : (w : Daemon) (from : Party) (n place : ℕ) → CopyOk z sets p' h' d (whole_acknowledged w from n place).copy → CopyOk z sets p' h' d w
  acknowledged_copy w from n place ok' = go (nat_lt (length w.log) place) ok'
    where
      go : (b : Bool) → CopyOk z sets p' h' d (if b then whole_still w else record { copy = w; sent = whole_send w from (WholeAppended n place) ∷ [] }).copy → CopyOk z sets p' h' d w
      go true ok' = ok'
      go false ok' = ok'

  pub append_agrees : (from : Party) (n place : ℕ) (s : Sealed) → RoleAgrees p' h' c.promise c.log (others c) c.role r → CopyOk z sets p' h' d (whole_on_append (whole c r) from n place s).copy →
      StepAgrees p' h' (on_append c from n place s) (whole_on_append (whole c r) from n place s)
  append_agrees from n place s a ok' = go ((c.promise == n) && (c.base == n)) ((length c.log + 1 == place) && not (is_in (ids c.log) s.id)) refl ok'
    where
      unchanged : CopyAgrees p' h' c (whole c r)
      unchanged = record { role = r; is = refl; agrees = a }

      go : (b q : Bool) → ((c.promise == n) && (c.base == n)) ≡ b →
          CopyOk z sets p' h' d (if b then (if q then whole_acknowledged (whole_with_entry (whole c r) s) from n place else whole_acknowledged (whole c r) from n place) else whole_still (whole c r)).copy →
          StepAgrees p' h' (if b then (if q then acknowledged (with_entry c s) from n place else acknowledged c from n place) else still c)
          (if b then (if q then whole_acknowledged (whole_with_entry (whole c r) s) from n place else whole_acknowledged (whole c r) from n place) else whole_still (whole c r))
      go false q both ok' = record { copy = unchanged; sent = tt }
      go true false both ok' = acknowledged_agrees p' h' c (whole c r) from n place unchanged
      go true true both ok' =
          let parts = and_parts (c.promise == n) (c.base == n) both in
          let based : c.base ≡ c.promise = eqb-true c.base n parts.1 ∙ sym (eqb-true c.promise n parts.0) in
          acknowledged_agrees p' h' (with_entry c s) (whole (with_entry c s) r) from n place
          (record { role = r; is = refl; agrees = pushed_role s c.role a based (acknowledged_copy (whole (with_entry c s) r) from n place ok') })

-- Install

module _ (requests : List Sealed) (z : ℕ) (sets : List (List ℕ)) (d : ℕ) (p : ℕ → ℕ) (h : History) (sound : IsSound p z sets h) (asks : (n : ℕ) → InLog (IsAsked requests) (h.grown n))
    (c : Copy) (r : WholeRole) (ok : CopyOk z sets p h d (whole c r)) (n start : ℕ) (part : List Sealed) (log : List Entry) (chosen : h.chosen n ≡ Some log) (sent : InstallAgrees p h n d log start part) where
  -- so `fit` answers true at an Install
  pub install_fits : c.promise ≤ n → c.base < n → fitted c.log start part ≡ Some log
  install_fits forward below =
      let state = ok.state in
      let moved : n ≤ c.promise = omega (arith, sent.past.moved, state.promised) in
      let own : Past p h d n c.log = past_of_state p z sets h d n (whole c r) state moved below in
      let is_part : IsPart c.log log start part = subst (λ v. IsPart v log start part) (past_unique p h d n sent.theirs c.log sent.past own) sent.is_part in
      fits_by requests c.log log start part
      (legal_of c.log (h.grown c.base) state.within (sound.legal c.base)) (legal_of log (h.grown n) (sound.grows n log chosen) (sound.legal n))
      (asked_of (IsAsked requests) c.log (h.grown c.base) state.within (asks c.base)) (asked_of (IsAsked requests) log (h.grown n) (sound.grows n log chosen) (asks n))
      (past_begins_chosen p z sets h d n c.log log sound own chosen) is_part

  module _ (p' : ℕ → ℕ) (h' : History) where
    -- a copy that promised the interval and did not install it leads nothing
    installed_role : (q : Role) → RoleAgrees p' h' c.promise c.log (others c) q r → n ≡ c.promise → c.base < n → RoleAgrees p' h' c.promise log (others c) q r
    installed_role Idle is now below = is
    installed_role (Active flight) is now below = is
    installed_role (Peering informed) is now below =
        let peering = subst (λ v. RoleOk z sets p h d (whole c r) v) is.is ok.role in
        let none = peering.unchosen in
        let some : h.chosen c.promise ≡ Some log = subst (λ v. h.chosen v ≡ Some log) now chosen in
        absurd (cc)
    installed_role (Installing done common) is now below =
        let installing = subst (λ v. RoleOk z sets p h d (whole c r) v) is.0 ok.role in
        absurd (omega (arith, installing.owns.is_base))

    fitted_agrees : RoleAgrees p' h' c.promise c.log (others c) c.role r → c.promise ≤ n → c.base < n → CopyAgrees p' h' (record (promise_interval c n) { base = n; log = log }) (record (whole_promise_interval (whole c r) n) { base = n; log = log })
    fitted_agrees a forward below = go (nat_lt c.promise n) refl
      where
        go : (b : Bool) → nat_lt c.promise n ≡ b → CopyAgrees p' h' (record (if b then record c { promise = n; role = Idle; waiting = [] } else c) { base = n; log = log })
            (record (if b then record (whole c r) { promise = n; role = WholeIdle; waiting = [] } else whole c r) { base = n; log = log })
        go true e = record { role = WholeIdle; is = refl; agrees = refl }
        go false e = (let late = ltb-false c.promise n e in record { role = r; is = refl; agrees = installed_role c.role a (omega arith) below })

    pub install_comes_agrees : (from : Party) → RoleAgrees p' h' c.promise c.log (others c) c.role r → StepAgrees p' h' (on_install c from n start part) (whole_on_install (whole c r) from n log)
    install_comes_agrees from a = go (nat_lt n c.promise) (nat_lt c.base n) refl refl
      where
        go : (b q : Bool) → nat_lt n c.promise ≡ b → nat_lt c.base n ≡ q →
            StepAgrees p' h' (if b then still c else (if q then install_fitted c from n (fitted c.log start part) else record { copy = promise_interval c n; sent = send c from (Installed n) ∷ [] }))
            (if b then whole_still (whole c r) else record { copy = if q then record (whole_promise_interval (whole c r) n) { base = n; log = log } else whole_promise_interval (whole c r) n; sent = whole_send (whole c r) from (WholeInstalled n) ∷ [] })
        go true q early based = record { copy = record { role = r; is = refl; agrees = a }; sent = tt }
        go false false early based = record { copy = promise_agrees p' h' c r n a; sent = (record { from = refl; to = refl; body = refl }, tt) }
        go false true early based =
            let forward : c.promise ≤ n = ltb-false n c.promise early in
            let below : c.base < n = ltb-true c.base n based in
            subst (λ v. StepAgrees p' h' (install_fitted c from n v) (record { copy = record (whole_promise_interval (whole c r) n) { base = n; log = log }; sent = whole_send (whole c r) from (WholeInstalled n) ∷ [] }))
            (sym (install_fits forward below))
            (record { copy = fitted_agrees a forward below; sent = (record { from = refl; to = refl; body = refl }, tt) })
