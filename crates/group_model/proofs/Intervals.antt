-- The Interval rule agrees: a copy that leads asks every other daemon.
use Rattle.std.proofs.Common.{ℕ, ◌≡◌, ◌≤◌, ◌<◌, Bool, true, false, not, ◌&&◌, nat_lt, List, [], ◌∷◌, length, refl, sym, subst, arith, if◌then◌else◌}
use Rattle.std.specs.Prelude.{Option, Some, None}
use Rattle.std.proofs.lemmas.Bool.{ltb-true, ltb-false, and_parts, not-true}
use Rattle.store_core.specs.Request.{Sealed}
use Rattle.entry_core.specs.Fitting.{can_fit}
use Rattle.store_core.specs.declared.entry.Entry.{Entry}
use Rattle.group_model_whole.specs.ActingSets.{set_of, is_primary, others as whole_others}
use Rattle.group_model_whole.specs.Choice.{best as whole_best, own_offer as whole_own_offer, can_choose as whole_can_choose}
use Rattle.group_model_whole.specs.Copy.{install_chosen as whole_install_chosen, try_choice as whole_try_choice, queries as whole_queries, learn_sets as whole_learn_sets, lead as whole_lead, on_interval as whole_on_interval}
use Rattle.group_model_whole.specs.Steps.{still as whole_still, send as whole_send}
use Rattle.group_model_whole.specs.Types.{Role as WholeRole, Idle as WholeIdle, Peering as WholePeering, Installing as WholeInstalling, Active as WholeActive, Daemon, Query as WholeQuery, Osd}
use Rattle.group_model_whole.specs.Asked.{IsAsked, InLog}
use Rattle.group_model_whole.specs.History.{History, IsSound}
use Rattle.group_model_whole.proofs.Invariant.{IsKnown, Leads, RoleOk, StateOk, CopyOk}
use Rattle.group_model_whole.proofs.Changes.{put, promise_sound}
use Rattle.group_model_whole.proofs.Leading.{IsLeading, Leading, serve_leads}
use Rattle.group_model_whole.proofs.Rules.{StateOk-promise}
use Rattle.group_model.specs.Types.{Copy}
use Rattle.peer_core.specs.Steps.{still, send}
use Rattle.peer_core.specs.ActingSets.{asked}
use Rattle.peer_core.specs.Copy.{try_choice, query, queries, learn_sets, leads, lead, on_interval}
use Rattle.group_model.specs.Standing.{Both}
use Rattle.group_model.specs.Fits.{Fit, choice_fit, interval_fit}
use Rattle.group_model.proofs.Agreeing.{Past, SentAgrees, CopyAgrees, StepAgrees, whole}
use Rattle.group_model.proofs.Lists.{Both-append, Both-map}
use Rattle.group_model.proofs.Pasts.{past_of_state}
use Rattle.group_model.proofs.Queries.{base_before}
use Rattle.group_model.proofs.Peering.{try_agrees}
use Rattle.group_model.proofs.Choosing.{choice_can_fit}

-- a copy that has chosen shows that its interval has
leading_chosen : (z : ℕ) (sets : List (List ℕ)) (p : ℕ → ℕ) (h : History) (d : ℕ) (c : Daemon) (r : WholeRole) → StateOk z sets p h d c → RoleOk z sets p h d c r → IsLeading r → h.chosen c.promise ≡ None → ⊥
leading_chosen z sets p h d c WholeIdle state role leads none = leads
leading_chosen z sets p h d c (WholePeering infos) state role leads none = leads
leading_chosen z sets p h d c (WholeInstalling done) state role leads none = let some = role.chosen in absurd (cc)
leading_chosen z sets p h d c (WholeActive flight) state role leads none =
    let some : h.chosen c.promise ≡ Some state.source = subst (λ v. h.chosen v ≡ Some state.source) role.0.is_base state.source_is in absurd (cc)

chosen_leads : (c : Daemon) (log : List Entry) (ms : List ℕ) → Leading c (whole_install_chosen c log ms)
chosen_leads c log [] = (let l = serve_leads c.waiting (record c { base = c.promise; log = log; role = WholeActive None }) in record { promise = l.promise; role = l.role })
chosen_leads c log (m ∷ ms) = record { promise = refl; role = tt }

module _ (requests : List Sealed) (z : ℕ) (sets : List (List ℕ)) (d : ℕ) (p : ℕ → ℕ) (h : History) (sound : IsSound p z sets h) (asks : (n : ℕ) → InLog (IsAsked requests) (h.grown n)) (p' : ℕ → ℕ) (h' : History) where
  told_state : (c : Daemon) (known : List (List ℕ)) → StateOk z sets p h d c → IsKnown sets known → StateOk z sets p h d (whole_learn_sets c known)
  told_state c known ok is = record {
    number = ok.number;
    same_size = ok.same_size;
    promised = ok.promised;
    reached = ok.reached;
    base = ok.base;
    known = is;
    source = ok.source;
    source_is = ok.source_is;
    begins = ok.begins;
    within = ok.within;
    held = ok.held;
    held_below = ok.held_below;
  }

  -- a copy that leads a peering had its log when it promised the interval
  pub peering_past : (c : Copy) → CopyOk z sets p' h' d (whole_try_choice (whole c WholeIdle) []).copy → h'.chosen c.promise ≡ None → Past p' h' d c.promise c.log
  peering_past c ok none = go (whole_can_choose (whole c WholeIdle) []) ok
    where
      go : (b : Bool) → CopyOk z sets p' h' d (if b then whole_install_chosen (whole c WholeIdle) (whole_best (whole_own_offer (whole c WholeIdle)) []).log (whole_others (whole c WholeIdle)) else whole_still (record (whole c WholeIdle) { role = WholePeering [] })).copy → Past p' h' d c.promise c.log
      go true ok =
          let s = whole_install_chosen (whole c WholeIdle) (whole_best (whole_own_offer (whole c WholeIdle)) []).log (whole_others (whole c WholeIdle)) in
          let l = chosen_leads (whole c WholeIdle) (whole_best (whole_own_offer (whole c WholeIdle)) []).log (whole_others (whole c WholeIdle)) in
          absurd (leading_chosen z sets p' h' d s.copy s.copy.role ok.state ok.role l.role (subst (λ v. h'.chosen v ≡ None) l.promise none))
      go false ok = past_of_state p' z sets h' d c.promise (record (whole c WholeIdle) { role = WholePeering [] }) ok.state (omega arith) (base_before p' z sets h' d c.promise (record (whole c WholeIdle) { role = WholePeering [] }) ok.state none ok.state.base)

  queries_agree : (c : Copy) → (h'.chosen c.promise ≡ None → Past p' h' c.number c.promise c.log) → Both (SentAgrees p' h') (queries c) (whole_queries (whole c WholeIdle))
  queries_agree c past = Both-map (SentAgrees p' h') (λ i. send c (Osd i) (query c)) (λ i. whole_send (whole c WholeIdle) (Osd i) (WholeQuery c.promise))
      (λ i. record { from = refl; to = refl; body = (refl, λ none. record { log = c.log; past = past none; len_is = refl; end_is = refl }) }) (asked c)

  -- a copy that begins to lead, with the promise that it makes
  pub record Asking (c : Copy) (known : List (List ℕ)) : Type 0 where
    pub sound_then : IsSound (put p d (length known)) z sets h
    pub state : StateOk z sets (put p d (length known)) h d (whole (record (learn_sets c known) { promise = length known }) WholeIdle)
    pub leads : Leads z sets d (whole (record (learn_sets c known) { promise = length known }) WholeIdle)
    pub unchosen : h.chosen (length known) ≡ None

  pub asking : (c : Copy) (r : WholeRole) (known : List (List ℕ)) → StateOk z sets p h d (whole c r) → IsKnown sets known → nat_lt (length c.known) (length known) ≡ true → leads c known ≡ true → Asking c known
  asking c r known state is more all =
      let longer = ltb-true (length c.known) (length known) more in
      let parts = and_parts (not (nat_lt (length (set_of known (length known))) c.min_size) && is_primary (set_of known (length known)) c.number) (nat_lt c.promise (length known)) all in
      let two = and_parts (not (nat_lt (length (set_of known (length known))) c.min_size)) (is_primary (set_of known (length known)) c.number) parts.0 in
      let same : set_of known (length known) ≡ set_of sets (length known) = is.same (length known) (omega arith) (omega arith) in
      let enough : c.min_size ≤ length (set_of known (length known)) = ltb-false (length (set_of known (length known))) c.min_size (not-true (nat_lt (length (set_of known (length known))) c.min_size) two.0) in
      let newer : c.promise < length known = ltb-true c.promise (length known) parts.1 in
      let forward : p d ≤ length known = omega (arith, state.promised) in
      let first : is_primary (set_of sets (length known)) d ≡ true = subst (λ v. is_primary (set_of sets (length known)) v ≡ true) state.number (subst (λ l. is_primary l c.number ≡ true) same two.1) in
      record {
        sound_then = promise_sound z sets p h d (length known) forward sound;
        state = StateOk-promise z sets d p h (whole_learn_sets (whole c r) known) (length known) WholeIdle [] (told_state (whole c r) known state is) (omega arith) is.fits;
        leads = record {
          is_known = refl;
          later = omega arith;
          first = first;
          members = subst (λ v. v ≤ length (set_of sets (length known))) state.same_size (subst (λ l. c.min_size ≤ length l) same enough);
        };
        unchosen = none_chosen (h.chosen (length known)) refl (omega arith) first newer;
      }
    where
      none_chosen : (found : Option (List Entry)) → h.chosen (length known) ≡ found → 1 ≤ length known → is_primary (set_of sets (length known)) d ≡ true → c.promise < length known → h.chosen (length known) ≡ None
      none_chosen None e later first newer = e
      none_chosen (Some log) e later first newer = (let o = sound.opened (length known) log later e in let led = o.led d first in absurd (omega (arith, led, state.promised)))

  -- what is fitted at an Interval fits
  pub interval_fits : (c : Copy) (r : WholeRole) (known : List (List ℕ)) → StateOk z sets p h d (whole c r) → IsKnown sets known → (f : Fit) → interval_fit c known ≡ Some f → can_fit c.log f.start f.part ≡ true
  interval_fits c r known state is f fits = go (nat_lt (length c.known) (length known)) (leads c known) refl refl fits
    where
      go : (b q : Bool) → nat_lt (length c.known) (length known) ≡ b → leads c known ≡ q → (if b then (if q then choice_fit (record (learn_sets c known) { promise = length known }) [] else None) else None) ≡ Some f → can_fit c.log f.start f.part ≡ true
      go false q more all fits = absurd (cc)
      go true false more all fits = absurd (cc)
      go true true more all fits =
          let a = asking c r known state is more all in
          choice_can_fit requests z sets d (put p d (length known)) h a.sound_then asks (record (learn_sets c known) { promise = length known }) WholeIdle [] [] a.state a.leads a.unchosen tt tt f fits

  lead_agrees : (c : Copy) (r : WholeRole) (known : List (List ℕ)) → c.number ≡ d → Asking c known → CopyOk z sets p' h' d (whole_lead (record (whole_learn_sets (whole c r) known) { promise = length known })).copy →
      StepAgrees p' h' (lead (record (learn_sets c known) { promise = length known })) (whole_lead (record (whole_learn_sets (whole c r) known) { promise = length known }))
  lead_agrees c r known number a ok' =
      let next : Copy = record (learn_sets c known) { promise = length known } in
      let past : h'.chosen (length known) ≡ None → Past p' h' c.number (length known) c.log = λ none. subst (λ v. Past p' h' v (length known) c.log) (sym number) (peering_past next ok' none) in
      let choice = try_agrees requests z sets d (put p d (length known)) h a.sound_then asks p' h' next WholeIdle [] [] a.state a.leads a.unchosen tt tt tt in
      record { copy = choice.copy; sent = Both-append (SentAgrees p' h') (queries next) (whole_queries (whole next WholeIdle)) (try_choice next []).sent (whole_try_choice (whole next WholeIdle) []).sent (queries_agree next past) choice.sent }

  pub interval_agrees : (c : Copy) (r : WholeRole) (known : List (List ℕ)) → StateOk z sets p h d (whole c r) → CopyAgrees p' h' c (whole c r) → IsKnown sets known →
      CopyOk z sets p' h' d (whole_on_interval (whole c r) known).copy → StepAgrees p' h' (on_interval c known) (whole_on_interval (whole c r) known)
  interval_agrees c r known state a is ok = go (nat_lt (length c.known) (length known)) (leads c known) refl refl ok
    where
      go : (b q : Bool) → nat_lt (length c.known) (length known) ≡ b → leads c known ≡ q →
          CopyOk z sets p' h' d (if b then (if q then whole_lead (record (whole_learn_sets (whole c r) known) { promise = length known }) else whole_still (whole_learn_sets (whole c r) known)) else whole_still (whole c r)).copy →
          StepAgrees p' h' (if b then (if q then lead (record (learn_sets c known) { promise = length known }) else still (learn_sets c known)) else still c)
          (if b then (if q then whole_lead (record (whole_learn_sets (whole c r) known) { promise = length known }) else whole_still (whole_learn_sets (whole c r) known)) else whole_still (whole c r))
      go false q more all ok = record { copy = a; sent = tt }
      go true false more all ok = record { copy = record { role = WholeIdle; is = refl; agrees = refl }; sent = tt }
      go true true more all ok = lead_agrees c r known state.number (asking c r known state is more all) ok
