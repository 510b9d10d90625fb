-- What another copy sends back keeps what is due at the copy that leads.
use Rattle.std.proofs.Common.{ℕ, ◌≡◌, ◌≤◌, ◌<◌, ◌+◌, ◌-◌, Bool, true, false, not, ◌&&◌, ◌==◌, List, [], ◌∷◌, ◌++◌, length, refl, sym, ◌∙◌, ap, subst, arith, inl, inr, ◌⊎◌, if◌then◌else◌, length-append}
use Rattle.std.specs.Prelude.{Some}
use Rattle.std.proofs.lemmas.Bool.{eqb-true, eq-eqb, cases_lt, both_ways, and_parts, and_from, le-ltb, not_from_false}
use Rattle.entry_core.specs.Log.{is_in, decide, ids, Legal}
use Rattle.store_core.specs.Request.{Sealed}
use Rattle.store_core.specs.declared.entry.Entry.{Entry}
use Rattle.group_model_whole.specs.Steps.{still, send}
use Rattle.group_model_whole.specs.ActingSets.{set_of, others, asked}
use Rattle.group_model_whole.specs.Decided.{last, with_entry}
use Rattle.group_model_whole.specs.Choice.{is_informed}
use Rattle.group_model_whole.specs.Copy.{on_query, on_append, acknowledged, on_install, copy_step}
use Rattle.group_model_whole.specs.Types.{PeerInfo, Peering, Installing, Active, Daemon, Info, Installed, Appended, Party, Client, Osd, Sent}
use Rattle.group_model_whole.specs.History.{Begins, History, Held, IsSound}
use Rattle.group_model_whole.proofs.RecoveryStates.{Any, IsAsking, IsInstallingAt, IsAppendingAt, RoleDue}
use Rattle.group_model_whole.proofs.Prefixes.{Begins-same}
use Rattle.group_model_whole.proofs.Invariant.{RoleOk, StateOk}
use Rattle.group_model_whole.proofs.RecoveryLists.{Any-left, Any-right, filter_kept}
use Rattle.group_model_whole.proofs.RecoveryServes.{role_due}
use Rattle.group_model_whole.proofs.RecoveryMoves.{osd_same}
use Rattle.group_model_whole.proofs.Groups.{IsLast, last_is}
use Rattle.group_model_whole.proofs.Audits.{legal_rest}

query_sent : (o : Daemon) (from : Party) (n : ℕ) → o.promise ≤ n → (on_query o from n).sent ≡ send o from (Info n o.base o.log) ∷ []
query_sent o from n le = rw (le-ltb n o.promise le) refl

install_sent : (o : Daemon) (from : Party) (n : ℕ) (log : List Entry) → o.promise ≤ n → (on_install o from n log).sent ≡ send o from (Installed n) ∷ []
install_sent o from n log le = rw (le-ltb n o.promise le) refl

acknowledged_sent : (o : Daemon) (from : Party) (n place : ℕ) → place ≤ length o.log → (acknowledged o from n place).sent ≡ send o from (Appended n place) ∷ []
acknowledged_sent o from n place le = rw (le-ltb (length o.log) place le) refl

append_sent : (o : Daemon) (from : Party) (n place : ℕ) (s : Sealed) → o.promise ≡ n → o.base ≡ n → (place ≤ length o.log) ⊎ ((length o.log + 1 ≡ place) × (is_in (ids o.log) s.id ≡ false)) → (on_append o from n place s).sent ≡ send o from (Appended n place) ∷ []
append_sent o from n place s p b has = outer ((o.promise == n) && (o.base == n)) (and_from (o.promise == n) (o.base == n) (eq-eqb o.promise n p) (eq-eqb o.base n b))
  where
    inner : (t : Bool) → ((length o.log + 1 == place) && not (is_in (ids o.log) s.id)) ≡ t → (if t then acknowledged (with_entry o s) from n place else acknowledged o from n place).sent ≡ send o from (Appended n place) ∷ []
    inner true e =
        let next : length o.log + 1 ≡ place = eqb-true (length o.log + 1) place (and_parts (length o.log + 1 == place) (not (is_in (ids o.log) s.id)) e).0 in
        acknowledged_sent (with_entry o s) from n place (omega (arith, length-append o.log (decide o.log s ∷ [])))
    inner false e = here has
      where
        here : (place ≤ length o.log) ⊎ ((length o.log + 1 ≡ place) × (is_in (ids o.log) s.id ≡ false)) → (acknowledged o from n place).sent ≡ send o from (Appended n place) ∷ []
        here (inl le) = acknowledged_sent o from n place le
        here (inr q) = absurd (both_ways ((length o.log + 1 == place) && not (is_in (ids o.log) s.id)) e
            (and_from (length o.log + 1 == place) (not (is_in (ids o.log) s.id)) (eq-eqb (length o.log + 1) place q.0) (not_from_false (is_in (ids o.log) s.id) q.1)))

    outer : (t : Bool) → t ≡ true → (if t then (if (length o.log + 1 == place) && not (is_in (ids o.log) s.id) then acknowledged (with_entry o s) from n place else acknowledged o from n place) else still o).sent ≡ send o from (Appended n place) ∷ []
    outer true e = inner ((length o.log + 1 == place) && not (is_in (ids o.log) s.id)) refl
    outer false e = absurd (both_ways false refl e)

module _ (z : ℕ) (sets : List (List ℕ)) (promise : ℕ → ℕ) (h : History) (up : List ℕ) (rest : List Sent) (p d : ℕ) (c o : Daemon)
    (sound : IsSound promise z sets h) (state : StateOk z sets promise h p c) (role : RoleOk z sets promise h p c c.role) (is_last : c.promise ≡ length sets)
    (other : StateOk z sets promise h d o) (apart : d ≡ c.number → ⊥) where
  below : o.promise ≤ c.promise
  below = omega (arith, other.reached)

  -- a member of the interval takes the entry that is in flight, or has it
  takes_it : (holders : List ℕ) (e : Entry) → c.role ≡ Active (Some holders) → last c.log ≡ Some e → is_in (others c) d ≡ true →
      (on_append o (Osd c.number) c.promise (length c.log) e.sealed).sent ≡ send o (Osd c.number) (Appended c.promise (length c.log)) ∷ []
  takes_it holders e is end in_others =
      let r : RoleOk z sets promise h p c (Active (Some holders)) = subst (λ v. RoleOk z sets promise h p c v) is role in
      let member_known : is_in (set_of c.known c.promise) d ≡ true = (filter_kept (λ m. not (m == c.number)) (set_of c.known c.promise) d in_others).is_item in
      let same_set : set_of c.known c.promise ≡ set_of sets c.promise = state.known.same c.promise r.0.leads.later (omega (arith, r.0.leads.is_known)) in
      let held : Held h d c.promise (length c.log - 1) = r.1.before d (subst (λ v. is_in v d ≡ true) same_set member_known) in
      let reach : c.promise ≤ o.base = other.held_below c.promise held.most held.is in
      let base_is : o.base ≡ c.promise = omega (arith, other.base, below) in
      let promise_is : o.promise ≡ c.promise = omega (arith, other.base, below) in
      let held' : h.held d c.promise ≡ Some (length o.log) = subst (λ v. h.held d v ≡ Some (length o.log)) base_is other.held in
      let most_is : held.most ≡ length o.log = most_same held.most (length o.log) (sym held.is ∙ held') in
      let long : length c.log - 1 ≤ length o.log = omega (arith, held.enough) in
      let o_begins : Begins o.log c.log = subst (λ v. Begins o.log v) (sym r.0.whole) (subst (λ v. Begins o.log (h.grown v)) base_is other.within) in
      let legal : Legal c.log = subst Legal (sym r.0.whole) (sound.legal c.promise) in
      append_sent o (Osd c.number) c.promise (length c.log) e.sealed promise_is base_is (has o_begins long legal)
    where
      most_same : (a b : ℕ) → Some a ≡ Some b → a ≡ b
      most_same a b e = cc

      has : Begins o.log c.log → length c.log - 1 ≤ length o.log → Legal c.log → (length c.log ≤ length o.log) ⊎ ((length o.log + 1 ≡ length c.log) × (is_in (ids o.log) e.sealed.id ≡ false))
      has begins long legal = elim (cases_lt (length o.log) (length c.log)) [
        | inr all ↦ inl all
        | inl less ↦ (let l : length o.log < length c.log = less in let next : length o.log + 1 ≡ length c.log = omega arith in inr (next, new l))
      ]
        where
          f : IsLast c.log e
          f = last_is c.log e end

          flen : length f.front + 1 ≡ length c.log
          flen = sym (length-append f.front (e ∷ [])) ∙ ap (λ v. length v) f.whole

          new : length o.log < length c.log → is_in (ids o.log) e.sealed.id ≡ false
          new less =
              let same : o.log ≡ f.front = Begins-same begins (record { rest = e ∷ []; whole = f.whole }) (omega (arith, flen)) in
              subst (λ v. is_in (ids v) e.sealed.id ≡ false) (sym same) (legal_rest [] f.front (e ∷ []) (subst Legal (sym f.whole) legal)).0

  -- what it sends back
  pub others_due : (m : Sent) → m.to ≡ Osd d → RoleDue up (m ∷ rest) c c.role → RoleDue up (rest ++ (copy_step o (record { from = m.from; body = m.body })).sent) c c.role
  others_due m to due = role_due up (m ∷ rest) (rest ++ (copy_step o (record { from = m.from; body = m.body })).sent) c c.role asking installing appending due
    where
      asking : (informed : List PeerInfo) → c.role ≡ Peering informed → (e : ℕ) → is_in (asked c) e ≡ true → is_in up e ≡ true → Any (IsAsking c e) (m ∷ rest) → (is_informed c informed e ≡ true) ⊎ Any (IsAsking c e) (rest ++ (copy_step o (record { from = m.from; body = m.body })).sent)
      asking informed is e in_asked u (inl (inl q)) =
          let same : d ≡ e = osd_same d e (sym to ∙ ap (λ v. v.to) q) in
          let sent : (copy_step o (record { from = m.from; body = m.body })).sent ≡ send o (Osd c.number) (Info c.promise o.base o.log) ∷ [] =
          ap (λ v. (copy_step o (record { from = v.from; body = v.body })).sent) q ∙ query_sent o (Osd c.number) c.promise below in
          inr (Any-right (IsAsking c e) rest (copy_step o (record { from = m.from; body = m.body })).sent (subst (λ v. Any (IsAsking c e) v) (sym sent)
          (inl (inr (record { base = o.base; log = o.log; is = ap (λ v. record { from = Osd v; to = Osd c.number; body = Info c.promise o.base o.log }) (other.number ∙ same) })))))
      asking informed is e in_asked u (inl (inr t)) = absurd (apart (osd_same d c.number (sym to ∙ ap (λ v. v.to) t.is)))
      asking informed is e in_asked u (inr w) = inr (Any-left (IsAsking c e) rest (copy_step o (record { from = m.from; body = m.body })).sent w)

      installing : (done : List ℕ) → c.role ≡ Installing done → (e : ℕ) → is_in (others c) e ≡ true → Any (IsInstallingAt c e) (m ∷ rest) → (is_in done e ≡ true) ⊎ Any (IsInstallingAt c e) (rest ++ (copy_step o (record { from = m.from; body = m.body })).sent)
      installing done is e in_others (inl (inl q)) =
          let same : d ≡ e = osd_same d e (sym to ∙ ap (λ v. v.to) q.is) in
          let sent : (copy_step o (record { from = m.from; body = m.body })).sent ≡ send o (Osd c.number) (Installed c.promise) ∷ [] =
          ap (λ v. (copy_step o (record { from = v.from; body = v.body })).sent) q.is ∙ install_sent o (Osd c.number) c.promise q.log below in
          inr (Any-right (IsInstallingAt c e) rest (copy_step o (record { from = m.from; body = m.body })).sent (subst (λ v. Any (IsInstallingAt c e) v) (sym sent)
          (inl (inr (ap (λ v. record { from = Osd v; to = Osd c.number; body = Installed c.promise }) (other.number ∙ same))))))
      installing done is e in_others (inl (inr t)) = absurd (apart (osd_same d c.number (sym to ∙ ap (λ v. v.to) t)))
      installing done is e in_others (inr w) = inr (Any-left (IsInstallingAt c e) rest (copy_step o (record { from = m.from; body = m.body })).sent w)

      appending : (holders : List ℕ) → c.role ≡ Active (Some holders) → (e : ℕ) → is_in (others c) e ≡ true → Any (IsAppendingAt c e) (m ∷ rest) → (is_in holders e ≡ true) ⊎ Any (IsAppendingAt c e) (rest ++ (copy_step o (record { from = m.from; body = m.body })).sent)
      appending holders is e in_others (inl (inl q)) =
          let same : d ≡ e = osd_same d e (sym to ∙ ap (λ v. v.to) q.is) in
          let sent : (copy_step o (record { from = m.from; body = m.body })).sent ≡ send o (Osd c.number) (Appended c.promise (length c.log)) ∷ [] =
          ap (λ v. (copy_step o (record { from = v.from; body = v.body })).sent) q.is ∙ takes_it holders q.entry is q.is_last (subst (λ v. is_in (others c) v ≡ true) (sym same) in_others) in
          inr (Any-right (IsAppendingAt c e) rest (copy_step o (record { from = m.from; body = m.body })).sent (subst (λ v. Any (IsAppendingAt c e) v) (sym sent)
          (inl (inr (ap (λ v. record { from = Osd v; to = Osd c.number; body = Appended c.promise (length c.log) }) (other.number ∙ same))))))
      appending holders is e in_others (inl (inr t)) = absurd (apart (osd_same d c.number (sym to ∙ ap (λ v. v.to) t)))
      appending holders is e in_others (inr w) = inr (Any-left (IsAppendingAt c e) rest (copy_step o (record { from = m.from; body = m.body })).sent w)

-- a message that reaches nobody
pub lost_due : (up : List ℕ) (rest : List Sent) (c : Daemon) (d : ℕ) (m : Sent) → m.to ≡ Osd d → (d ≡ c.number → ⊥) →
    (is_in (asked c) d ≡ true → is_in up d ≡ true → ⊥) → (is_in (others c) d ≡ true → ⊥) → RoleDue up (m ∷ rest) c c.role → RoleDue up rest c c.role
lost_due up rest c d m to apart not_asked not_other due = role_due up (m ∷ rest) rest c c.role asking installing appending due
  where
    asking : (informed : List PeerInfo) → c.role ≡ Peering informed → (e : ℕ) → is_in (asked c) e ≡ true → is_in up e ≡ true → Any (IsAsking c e) (m ∷ rest) → (is_informed c informed e ≡ true) ⊎ Any (IsAsking c e) rest
    asking informed is e a u (inl (inl q)) = let same : e ≡ d = osd_same e d (sym (ap (λ v. v.to) q) ∙ to) in absurd (not_asked (subst (λ v. is_in (asked c) v ≡ true) same a) (subst (λ v. is_in up v ≡ true) same u))
    asking informed is e a u (inl (inr t)) = absurd (apart (osd_same d c.number (sym to ∙ ap (λ v. v.to) t.is)))
    asking informed is e a u (inr w) = inr w

    installing : (done : List ℕ) → c.role ≡ Installing done → (e : ℕ) → is_in (others c) e ≡ true → Any (IsInstallingAt c e) (m ∷ rest) → (is_in done e ≡ true) ⊎ Any (IsInstallingAt c e) rest
    installing done is e a (inl (inl q)) = let same : e ≡ d = osd_same e d (sym (ap (λ v. v.to) q.is) ∙ to) in absurd (not_other (subst (λ v. is_in (others c) v ≡ true) same a))
    installing done is e a (inl (inr t)) = absurd (apart (osd_same d c.number (sym to ∙ ap (λ v. v.to) t)))
    installing done is e a (inr w) = inr w

    appending : (holders : List ℕ) → c.role ≡ Active (Some holders) → (e : ℕ) → is_in (others c) e ≡ true → Any (IsAppendingAt c e) (m ∷ rest) → (is_in holders e ≡ true) ⊎ Any (IsAppendingAt c e) rest
    appending holders is e a (inl (inl q)) = let same : e ≡ d = osd_same e d (sym (ap (λ v. v.to) q.is) ∙ to) in absurd (not_other (subst (λ v. is_in (others c) v ≡ true) same a))
    appending holders is e a (inl (inr t)) = absurd (apart (osd_same d c.number (sym to ∙ ap (λ v. v.to) t)))
    appending holders is e a (inr w) = inr w

-- a message to the client
pub client_due : (up : List ℕ) (rest : List Sent) (c : Daemon) (m : Sent) → m.to ≡ Client → RoleDue up (m ∷ rest) c c.role → RoleDue up rest c c.role
client_due up rest c m to due = role_due up (m ∷ rest) rest c c.role
    (λ informed is e a u w. inr (drop (IsAsking c e) (λ q. elim q [ inl x ↦ bad e (sym (ap (λ v. v.to) x) ∙ to) | inr x ↦ bad c.number (sym (ap (λ v. v.to) x.is) ∙ to) ]) w))
    (λ done is e a w. inr (drop (IsInstallingAt c e) (λ q. elim q [ inl x ↦ bad e (sym (ap (λ v. v.to) x.is) ∙ to) | inr x ↦ bad c.number (sym (ap (λ v. v.to) x) ∙ to) ]) w))
    (λ holders is e a w. inr (drop (IsAppendingAt c e) (λ q. elim q [ inl x ↦ bad e (sym (ap (λ v. v.to) x.is) ∙ to) | inr x ↦ bad c.number (sym (ap (λ v. v.to) x) ∙ to) ]) w)) due
  where
    bad : (e : ℕ) → Osd e ≡ Client → ⊥
    bad e is = cc

    drop : (P : Sent → Type 0) → (P m → ⊥) → P m ⊎ Any P rest → Any P rest
    drop P none (inl q) = absurd (none q)
    drop P none (inr w) = w
