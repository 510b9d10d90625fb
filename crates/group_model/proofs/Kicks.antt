-- What a copy sends again agrees, and is known to the history.
use Rattle.std.proofs.Common.{ℕ, ◌≡◌, not, List, [], ◌∷◌, map, length, refl, sym, ◌∙◌, ap, subst, arith, length-append}
use Rattle.std.specs.Prelude.{Option, Some, None}
use Rattle.std.specs.List.{filter}
use Rattle.entry_core.specs.Log.{is_in}
use Rattle.entry_core.specs.Fitting.{part_of, last_id}
use Rattle.store_core.specs.declared.entry.Entry.{Entry}
use Rattle.group_model_whole.specs.ActingSets.{asked as whole_asked, others as whole_others}
use Rattle.group_model_whole.specs.Choice.{is_informed as whole_is_informed}
use Rattle.group_model_whole.specs.Decided.{last}
use Rattle.group_model_whole.specs.Copy.{append_again as whole_append_again, uninformed as whole_uninformed, retransmit_as as whole_retransmit_as}
use Rattle.group_model_whole.specs.Steps.{send as whole_send}
use Rattle.group_model_whole.specs.Types.{Role as WholeRole, Idle as WholeIdle, Peering as WholePeering, Installing as WholeInstalling, Active as WholeActive, Daemon, Query as WholeQuery, Install as WholeInstall, Append as WholeAppend, Osd}
use Rattle.group_model_whole.specs.Each.{Each}
use Rattle.group_model_whole.specs.History.{History}
use Rattle.group_model_whole.proofs.Eaches.{Each-map_all}
use Rattle.group_model_whole.proofs.Groups.{last_is}
use Rattle.group_model_whole.proofs.Invariant.{Owns, IsPlaced, RoleOk, StateOk, CopyOk, SentOk}
use Rattle.group_model.specs.Types.{Append, Offer, Role, Idle, Peering, Installing, Active, Copy}
use Rattle.peer_core.specs.Steps.{send}
use Rattle.peer_core.specs.ActingSets.{others, asked, missing}
use Rattle.peer_core.specs.Choice.{is_informed}
use Rattle.group_messages.specs.Beginnings.{count_at}
use Rattle.peer_core.specs.Copy.{query, install_from, append_again, uninformed, retransmit_as}
use Rattle.group_model.specs.Standing.{Both}
use Rattle.group_model.proofs.Agreeing.{Past, InstallAgrees, QueryAgrees, SentAgrees, RoleAgrees, whole}
use Rattle.group_model.proofs.Lists.{Both-map, Both-map_each, Each-in, in-filter}
use Rattle.group_model.proofs.Pasts.{past_of_state}
use Rattle.group_model.proofs.Queries.{base_before}
use Rattle.group_model.proofs.Offers.{informed_same}
use Rattle.group_model.proofs.Installs.{install_sent}

-- the history knows it

append_again_ok : (z : ℕ) (sets : List (List ℕ)) (p : ℕ → ℕ) (h : History) (d : ℕ) (c : Daemon) (e : Option Entry) (ms : List ℕ) → last c.log ≡ e → Owns z sets h d c → Each (SentOk sets p h) (whole_append_again c e ms)
append_again_ok z sets p h d c None ms is owns = tt
append_again_ok z sets p h d c (Some e) ms is owns =
    let l = last_is c.log e is in
    let placed : IsPlaced h c.promise (length c.log) e.sealed = record {
      front = l.front;
      entry = e;
      rest = [];
      whole = l.whole ∙ owns.whole;
      at = ap (λ v. length v) (sym l.whole) ∙ length-append l.front (e ∷ []);
      is = refl;
    } in
    Each-map_all (SentOk sets p h) (λ m. whole_send c (Osd m) (WholeAppend c.promise (length c.log) e.sealed)) (λ m. placed) ms

pub kicked_ok : (z : ℕ) (sets : List (List ℕ)) (p : ℕ → ℕ) (h : History) (d : ℕ) (c : Daemon) (r : WholeRole) → StateOk z sets p h d c → RoleOk z sets p h d c r → Each (SentOk sets p h) (whole_retransmit_as r c)
kicked_ok z sets p h d c WholeIdle state ok = tt
kicked_ok z sets p h d c (WholePeering infos) state ok = Each-map_all (SentOk sets p h) (λ i. whole_send c (Osd i) (WholeQuery c.promise)) (λ i. state.reached) (filter (λ i. not (whole_is_informed c infos i)) (whole_asked c))
kicked_ok z sets p h d c (WholeInstalling done) state ok = Each-map_all (SentOk sets p h) (λ m. whole_send c (Osd m) (WholeInstall c.promise c.log)) (λ m. (state.reached, ok.chosen)) (filter (λ m. not (is_in done m)) (whole_others c))
kicked_ok z sets p h d c (WholeActive None) state ok = tt
kicked_ok z sets p h d c (WholeActive (Some holders)) state ok = append_again_ok z sets p h d c (last c.log) (filter (λ m. not (is_in holders m)) (whole_others c)) refl ok.0

-- it agrees

append_again_agrees : (p : ℕ → ℕ) (h : History) (c : Copy) (r : WholeRole) (e : Option Entry) (ms : List ℕ) → Both (SentAgrees p h) (append_again c e ms) (whole_append_again (whole c r) e ms)
append_again_agrees p h c r None ms = tt
append_again_agrees p h c r (Some e) ms = Both-map (SentAgrees p h) (λ m. send c (Osd m) (Append c.promise (length c.log) e.sealed)) (λ m. whole_send (whole c r) (Osd m) (WholeAppend c.promise (length c.log) e.sealed))
    (λ m. record { from = refl; to = refl; body = refl }) ms

module _ (z : ℕ) (sets : List (List ℕ)) (p : ℕ → ℕ) (h : History) (d : ℕ) (c : Copy) (r : WholeRole) (ok : CopyOk z sets p h d (whole c r)) where
  asks_again : h.chosen c.promise ≡ None → QueryAgrees p h c.number c.promise (length c.log) (last_id c.log)
  asks_again none = record {
    log = c.log;
    past = subst (λ v. Past p h v c.promise c.log) (sym ok.state.number)
        (past_of_state p z sets h d c.promise (whole c r) ok.state (omega arith) (base_before p z sets h d c.promise (whole c r) ok.state none ok.state.base));
    len_is = refl;
    end_is = refl;
  }

  queries_again : (informed : List Offer) (w : WholeRole) → RoleAgrees p h c.promise c.log (others c) (Peering informed) w → Both (SentAgrees p h) (retransmit_as (Peering informed) c) (whole_retransmit_as w (whole c r))
  queries_again informed w a =
      let who : is_informed c informed ≡ whole_is_informed (whole c r) a.infos = (λ k. λ m. informed_same p h c.promise c.log c r informed a.infos a.agree m k) in
      let to : uninformed c informed ≡ whole_uninformed (whole c r) a.infos = (λ k. filter (λ i. not (who k i)) (asked c)) in
      let both : Both (SentAgrees p h) (map (λ i. send c (Osd i) (query c)) (uninformed c informed)) (map (λ i. whole_send (whole c r) (Osd i) (WholeQuery c.promise)) (uninformed c informed)) =
      Both-map (SentAgrees p h) (λ i. send c (Osd i) (query c)) (λ i. whole_send (whole c r) (Osd i) (WholeQuery c.promise))
      (λ i. record { from = refl; to = refl; body = (refl, asks_again) }) (uninformed c informed) in
      subst (λ v. Both (SentAgrees p h) (retransmit_as (Peering informed) c) (whole_retransmit_as v (whole c r))) (sym a.is)
      (subst (λ l. Both (SentAgrees p h) (map (λ i. send c (Osd i) (query c)) (uninformed c informed)) (map (λ i. whole_send (whole c r) (Osd i) (WholeQuery c.promise)) l)) to both)

  pub kick_agrees : (q : Role) → RoleAgrees p h c.promise c.log (others c) q r → Both (SentAgrees p h) (retransmit_as q c) (whole_retransmit_as r (whole c r))
  kick_agrees Idle is = subst (λ v. Both (SentAgrees p h) [] (whole_retransmit_as v (whole c r))) (sym is) tt
  kick_agrees (Peering informed) is = queries_again informed r is
  kick_agrees (Installing done common) is = subst (λ v. Both (SentAgrees p h) (retransmit_as (Installing done common) c) (whole_retransmit_as v (whole c r))) (sym is.0)
      (Both-map_each (SentAgrees p h) (λ m. InstallAgrees p h c.promise m c.log (count_at common m) (part_of c.log (count_at common m)))
      (λ m. install_from c c.log m (count_at common m)) (λ m. whole_send (whole c r) (Osd m) (WholeInstall c.promise c.log))
      (λ m a. install_sent p h c r c.log m (count_at common m) a) (missing c done)
      (Each-in (λ m. InstallAgrees p h c.promise m c.log (count_at common m) (part_of c.log (count_at common m))) (missing c done)
      (λ m inside. is.1 m (in-filter (λ i. not (is_in done i)) (others c) m inside).0)))
  kick_agrees (Active None) is = subst (λ v. Both (SentAgrees p h) [] (whole_retransmit_as v (whole c r))) (sym is) tt
  kick_agrees (Active (Some holders)) is = subst (λ v. Both (SentAgrees p h) (retransmit_as (Active (Some holders)) c) (whole_retransmit_as v (whole c r))) (sym is)
      (append_again_agrees p h c r (last c.log) (missing c holders))
