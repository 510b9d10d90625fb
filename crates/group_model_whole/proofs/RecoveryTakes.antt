-- A request at the copy that leads, and the messages that leave it as it is.
use Rattle.std.proofs.Common.{ℕ, suc, ◌≡◌, ◌≤◌, ◌+◌, ◌-◌, Bool, true, false, not, ◌&&◌, ◌||◌, nat_lt, ◌==◌, List, [], ◌∷◌, ◌++◌, length, take, refl, sym, ◌∙◌, ap, subst, arith, inl, inr, ◌⊎◌, if◌then◌else◌, length-append}
use Rattle.std.specs.Prelude.{Option, Some, None}
use Rattle.std.specs.List.{list_any}
use Rattle.std.proofs.lemmas.Bool.{ltb-false, eqb-true, both_ways, or_cases, and_parts, le-ltb}
use Rattle.entry_core.specs.Log.{is_in, find, ids}
use Rattle.store_core.specs.Request.{Sealed}
use Rattle.store_core.specs.declared.entry.Entry.{Entry}
use Rattle.group_model_whole.specs.Steps.{Stepped, still, send}
use Rattle.group_model_whole.specs.Serve.{serve, reply_with}
use Rattle.group_model_whole.specs.Decided.{with_entry, not_in_flight}
use Rattle.group_model_whole.specs.Copy.{on_info, on_installed, on_appended, on_request, on_request_as, busy_request, waits, on_query, promise_interval, on_append, acknowledged, on_install, on_interval, on_body, of_daemon}
use Rattle.group_model_whole.specs.Types.{Role, Idle, Peering, Installing, Active, Daemon, Body, Interval, Query, Info, Install, Installed, Append, Appended, Request, Reply, NotHere, Party, Client, Osd, Sent}
use Rattle.group_model_whole.specs.History.{History}
use Rattle.group_model_whole.proofs.RecoveryStates.{Any, IsAsking, IsInstallingAt, IsAppendingAt, RoleDue, IsReply, IsEntryOf, InFlight, IsTaken}
use Rattle.group_model_whole.proofs.Invariant.{RoleOk, StateOk, BodyOk}
use Rattle.group_model_whole.proofs.RecoveryLists.{Any-left, Any-right, Any-weaker}
use Rattle.group_model_whole.proofs.RecoveryServes.{role_due-right, served}
use Rattle.group_model_whole.proofs.RecoveryMoves.{to_copy, Moved, due_left, each_left, stays_moved, installed_moved, appended_moved, info_moved}
use Rattle.group_model_whole.proofs.Replies.{find-id}

-- a number of the log that is not settled is that of its last entry
in_flight : (log : List Entry) (id : ℕ) → find (take (length log - 1) log) id ≡ None → is_in (ids log) id ≡ true → IsEntryOf log id
in_flight [] id none is = absurd (both_ways false refl is)
in_flight (x ∷ []) id none is = elim (or_cases (x.sealed.id == id) false is) [
  | inl here ↦ record { entry = x; is_last = refl; same = eqb-true x.sealed.id id here }
  | inr bad ↦ absurd (both_ways false refl bad)
]
in_flight (x ∷ y ∷ ys) id none is =
    let back : length (x ∷ y ∷ ys) - 1 ≡ suc (length (y ∷ ys) - 1) = omega arith in
    let none' : find (take (suc (length (y ∷ ys) - 1)) (x ∷ y ∷ ys)) id ≡ None = subst (λ v. find (take v (x ∷ y ∷ ys)) id ≡ None) back none in
    go (x.sealed.id == id) none' is (in_flight (y ∷ ys) id)
  where
    go : (b : Bool) → (if b then Some x else find (take (length (y ∷ ys) - 1) (y ∷ ys)) id) ≡ None → (b || is_in (ids (y ∷ ys)) id) ≡ true →
        (find (take (length (y ∷ ys) - 1) (y ∷ ys)) id ≡ None → is_in (ids (y ∷ ys)) id ≡ true → IsEntryOf (y ∷ ys) id) → IsEntryOf (x ∷ y ∷ ys) id
    go true none is rec = absurd (cc)
    go false none is rec = let e : IsEntryOf (y ∷ ys) id = rec none is in record { entry = e.entry; is_last = e.is_last; same = e.same }

waiting_among : (ws : List Sealed) (id : ℕ) → list_any (λ w. w.id == id) ws ≡ true → Any (λ w. w.id ≡ id) ws
waiting_among [] id h = absurd (both_ways false refl h)
waiting_among (w ∷ ws) id h = elim (or_cases (w.id == id) (list_any (λ w. w.id == id) ws) h) [
  | inl here ↦ inl (eqb-true w.id id here)
  | inr later ↦ inr (waiting_among ws id later)
]

request_same : (s r : Sealed) → Request s ≡ Request r → s ≡ r
request_same s r e = cc

module _ (up : List ℕ) (rest : List Sent) (from : Party) (c : Daemon) (s : Sealed) where
  left : (r : Role) (sent : List Sent) → RoleDue up (to_copy c from (Request s) ∷ rest) c r → RoleDue up (rest ++ sent) c r
  left r sent due = due_left up rest from (Request s) c r sent (λ v e d b l f bad. absurd (cc)) (λ v e d f bad. absurd (cc)) (λ v e d f bad. absurd (cc)) due

  -- the copy stays
  kept : (r : Role) (sent : List Sent) → c.role ≡ r → RoleDue up (to_copy c from (Request s) ∷ rest) c r → Any (IsReply s.id) sent ⊎ IsTaken c s.id → Moved up rest from (Request s) c (record { copy = c; sent = sent })
  kept r sent is due own = record {
    number = refl;
    promise = refl;
    role = subst (λ v. RoleDue up (rest ++ sent) c v) (sym is) (left r sent due);
    each = each_left up rest from (Request s) c (record { copy = c; sent = sent }) (λ id t. inr t) (λ id q b same. (
        let e : s.id ≡ id = ap (λ v. v.id) (request_same s q b) ∙ same in subst (λ v. Any (IsReply v) sent ⊎ IsTaken c v) e own));
  }

  waits_due : (wire : List Sent) (r : Role) → (r ≡ Active None → ⊥) → RoleDue up wire c r → RoleDue up wire (record c { waiting = c.waiting ++ s ∷ [] }) r
  waits_due wire Idle not_none due = due
  waits_due wire (Peering informed) not_none due = (due.0, λ d o u. elim (due.1 d o u) [ inl met ↦ inl met | inr w ↦ inr (Any-weaker (IsAsking c d) (IsAsking (record c { waiting = c.waiting ++ s ∷ [] }) d) (same d) wire w) ])
    where
      same : (d : ℕ) (m : Sent) → IsAsking c d m → IsAsking (record c { waiting = c.waiting ++ s ∷ [] }) d m
      same d m (inl q) = inl q
      same d m (inr t) = inr (record { base = t.base; log = t.log; is = t.is })
  waits_due wire (Installing done) not_none due = (due.0, λ d o. elim (due.1 d o) [ inl met ↦ inl met | inr w ↦ inr (Any-weaker (IsInstallingAt c d) (IsInstallingAt (record c { waiting = c.waiting ++ s ∷ [] }) d) (same d) wire w) ])
    where
      same : (d : ℕ) (m : Sent) → IsInstallingAt c d m → IsInstallingAt (record c { waiting = c.waiting ++ s ∷ [] }) d m
      same d m (inl q) = inl (record { log = q.log; is = q.is })
      same d m (inr t) = inr t
  waits_due wire (Active None) not_none due = absurd (not_none refl)
  waits_due wire (Active (Some holders)) not_none due = (due.0, λ d o. elim (due.1 d o) [ inl met ↦ inl met | inr w ↦ inr (Any-weaker (IsAppendingAt c d) (IsAppendingAt (record c { waiting = c.waiting ++ s ∷ [] }) d) (same d) wire w) ])
    where
      same : (d : ℕ) (m : Sent) → IsAppendingAt c d m → IsAppendingAt (record c { waiting = c.waiting ++ s ∷ [] }) d m
      same d m (inl q) = inl (record { entry = q.entry; is_last = q.is_last; is = q.is })
      same d m (inr t) = inr t

  waits_moved : (r : Role) → c.role ≡ r → (r ≡ Active None → ⊥) → RoleDue up (to_copy c from (Request s) ∷ rest) c r → Moved up rest from (Request s) c (waits c s)
  waits_moved r is not_none due = record {
    number = refl;
    promise = refl;
    role = subst (λ v. RoleDue up (rest ++ []) (record c { waiting = c.waiting ++ s ∷ [] }) v) (sym is) (waits_due (rest ++ []) r not_none (left r [] due));
    each = each_left up rest from (Request s) c (waits c s) taken (λ id q b same. inr (inl (Any-right (λ w. w.id ≡ id) c.waiting (s ∷ []) (inl (ap (λ v. v.id) (request_same s q b) ∙ same)))));
  }
    where
      taken : (id : ℕ) → IsTaken c id → ⊥ ⊎ (Any (λ w. w.id ≡ id) (c.waiting ++ s ∷ []) ⊎ InFlight c.role c.log id)
      taken id (inl w) = inr (inl (Any-left (λ w. w.id ≡ id) c.waiting (s ∷ []) w))
      taken id (inr f) = inr (inr f)

  serves : c.role ≡ Active None → Moved up rest from (Request s) c (serve (s ∷ c.waiting) c)
  serves is =
      let t = served up (s ∷ c.waiting) c in
      record {
        number = t.number;
        promise = t.promise;
        role = role_due-right up rest (serve (s ∷ c.waiting) c).sent (serve (s ∷ c.waiting) c).copy (serve (s ∷ c.waiting) c).copy.role t.role;
        each = each_left up rest from (Request s) c (serve (s ∷ c.waiting) c) taken (λ id q b same. t.each id (inl (ap (λ v. v.id) (request_same s q b) ∙ same)));
      }
    where
      taken : (id : ℕ) → IsTaken c id → Any (IsReply id) (serve (s ∷ c.waiting) c).sent ⊎ IsTaken (serve (s ∷ c.waiting) c).copy id
      taken id (inl w) = (served up (s ∷ c.waiting) c).each id (inr w)
      taken id (inr f) = absurd (subst (λ v. InFlight v c.log id) is f)

  busy_moved : (holders : List ℕ) (f : Option Entry) → find (not_in_flight c.log (Some holders)) s.id ≡ f → c.role ≡ Active (Some holders) → RoleDue up (to_copy c from (Request s) ∷ rest) c (Active (Some holders)) → Moved up rest from (Request s) c (busy_request c s f)
  busy_moved holders (Some e) found is due = kept (Active (Some holders)) (reply_with c e) is due
      (inl (inl (record { from = Osd c.number; reply = e.reply; is = ap (λ v. send c Client (Reply v e.reply)) (find-id (not_in_flight c.log (Some holders)) s.id e found) })))
  busy_moved holders None found is due = go (is_in (ids c.log) s.id) refl
    where
      go : (b : Bool) → is_in (ids c.log) s.id ≡ b → Moved up rest from (Request s) c (if b then still c else waits c s)
      go true has = kept (Active (Some holders)) [] is due (inr (inr (subst (λ v. InFlight v c.log s.id) (sym is) (in_flight c.log s.id found has))))
      go false new = waits_moved (Active (Some holders)) is (λ bad. cc) due

  request_as_moved : (r : Role) → c.role ≡ r → RoleDue up (to_copy c from (Request s) ∷ rest) c r → Moved up rest from (Request s) c (on_request_as r c s)
  request_as_moved Idle is due = absurd due
  request_as_moved (Peering informed) is due = waits_moved (Peering informed) is (λ bad. cc) due
  request_as_moved (Installing done) is due = waits_moved (Installing done) is (λ bad. cc) due
  request_as_moved (Active None) is due = serves is
  request_as_moved (Active (Some holders)) is due = busy_moved holders (find (not_in_flight c.log (Some holders)) s.id) refl is due

  pub request_moved : RoleDue up (to_copy c from (Request s) ∷ rest) c c.role → Moved up rest from (Request s) c (on_request c s)
  request_moved due = go (list_any (λ w. w.id == s.id) c.waiting) refl
    where
      go : (b : Bool) → list_any (λ w. w.id == s.id) c.waiting ≡ b → Moved up rest from (Request s) c (if b then still c else on_request_as c.role c s)
      go true waiting = kept c.role [] refl due (inr (inl (waiting_among c.waiting s.id waiting)))
      go false new = request_as_moved c.role refl due

-- messages that leave the copy as it is

promised_same : (c : Daemon) (n : ℕ) → n ≤ c.promise → promise_interval c n ≡ c
promised_same c n le = rw (le-ltb c.promise n le) refl

query_copy : (c : Daemon) (from : Party) (n : ℕ) → n ≤ c.promise → (on_query c from n).copy ≡ c
query_copy c from n le = go (nat_lt n c.promise)
  where
    go : (b : Bool) → (if b then still c else record { copy = promise_interval c n; sent = send c from (Info n c.base c.log) ∷ [] }).copy ≡ c
    go true = refl
    go false = promised_same c n le

install_copy : (c : Daemon) (from : Party) (n : ℕ) (log : List Entry) → n ≤ c.promise → (n ≡ c.promise → n ≤ c.base) → (on_install c from n log).copy ≡ c
install_copy c from n log le base = go (nat_lt n c.promise) refl
  where
    go : (b : Bool) → nat_lt n c.promise ≡ b → (if b then still c else (let next : Daemon = promise_interval c n in record { copy = if nat_lt c.base n then record next { base = n; log = log } else next; sent = send c from (Installed n) ∷ [] })).copy ≡ c
    go true e = refl
    go false e = let not_less : c.promise ≤ n = ltb-false n c.promise e in let same : n ≡ c.promise = omega arith in rw (le-ltb c.base n (base same)) (promised_same c n le)

acknowledged_copy : (c : Daemon) (from : Party) (n place : ℕ) → (acknowledged c from n place).copy ≡ c
acknowledged_copy c from n place = go (nat_lt (length c.log) place)
  where
    go : (b : Bool) → (if b then still c else record { copy = c; sent = send c from (Appended n place) ∷ [] }).copy ≡ c
    go true = refl
    go false = refl

append_copy : (c : Daemon) (from : Party) (n place : ℕ) (s : Sealed) → (c.promise ≡ n → c.base ≡ n → place ≤ length c.log) → (on_append c from n place s).copy ≡ c
append_copy c from n place s has = go ((c.promise == n) && (c.base == n)) refl
  where
    inner : place ≤ length c.log → (b : Bool) → ((length c.log + 1 == place) && not (is_in (ids c.log) s.id)) ≡ b → (if b then acknowledged (with_entry c s) from n place else acknowledged c from n place).copy ≡ c
    inner le true e = let next : length c.log + 1 ≡ place = eqb-true (length c.log + 1) place (and_parts (length c.log + 1 == place) (not (is_in (ids c.log) s.id)) e).0 in absurd (omega arith)
    inner le false e = acknowledged_copy c from n place

    go : (b : Bool) → ((c.promise == n) && (c.base == n)) ≡ b → (if b then (if (length c.log + 1 == place) && not (is_in (ids c.log) s.id) then acknowledged (with_entry c s) from n place else acknowledged c from n place) else still c).copy ≡ c
    go true e = let q = and_parts (c.promise == n) (c.base == n) e in inner (has (eqb-true c.promise n q.0) (eqb-true c.base n q.1)) ((length c.log + 1 == place) && not (is_in (ids c.log) s.id)) refl
    go false e = refl

interval_copy : (c : Daemon) (sets : List (List ℕ)) → length sets ≤ length c.known → (on_interval c sets).copy ≡ c
interval_copy c sets le = rw (le-ltb (length c.known) (length sets) le) refl

module _ (z : ℕ) (sets : List (List ℕ)) (promise : ℕ → ℕ) (h : History) (up : List ℕ) (rest : List Sent) (from : Party) (d : ℕ) (c : Daemon)
    (state : StateOk z sets promise h d c) (is_last : c.promise ≡ length sets) where
  -- what a role says of the copy's interval
  record Opens : Type 0 where
    known : c.promise ≡ length c.known
    base : (log : List Entry) → h.chosen c.promise ≡ Some log → c.promise ≤ c.base
    whole : c.base ≡ c.promise → c.log ≡ h.grown c.promise

  opens : (r : Role) → RoleOk z sets promise h d c r → (wire : List Sent) → RoleDue up wire c r → Opens
  opens Idle ok wire due = absurd due
  opens (Peering informed) ok wire due = record {
    known = ok.leads.is_known;
    base = λ log is. (let no = ok.unchosen in absurd (cc));
    whole = λ same. (let is : h.chosen c.promise ≡ Some state.source = subst (λ v. h.chosen v ≡ Some state.source) same state.source_is in let no = ok.unchosen in absurd (cc));
  }
  opens (Installing done) ok wire due = record { known = ok.owns.leads.is_known; base = λ log is. omega (arith, ok.owns.is_base); whole = λ same. ok.owns.whole }
  opens (Active flight) ok wire due = record { known = ok.0.leads.is_known; base = λ log is. omega (arith, ok.0.is_base); whole = λ same. ok.0.whole }

  same_moved : (body : Body) (s : Stepped) → s.copy ≡ c → RoleDue up (to_copy c from body ∷ rest) c c.role → ((r : Sealed) → body ≡ Request r → ⊥) →
      ((e base : ℕ) (log : List Entry) → from ≡ Osd e → body ≡ Info c.promise base log → ⊥) → ((e : ℕ) → from ≡ Osd e → body ≡ Installed c.promise → ⊥) → ((e : ℕ) → from ≡ Osd e → body ≡ Appended c.promise (length c.log) → ⊥) →
      Moved up rest from body c s
  same_moved body s is due none a b e = subst (λ v. Moved up rest from body c (record { copy = v; sent = s.sent })) (sym is)
      (stays_moved up rest from body c s.sent c.role refl due none (λ v w d k l f i. absurd (a d k l f i)) (λ v w d f i. absurd (b d f i)) (λ v w d f i. absurd (e d f i)))

  pub comes_moved : (b : Body) → RoleOk z sets promise h d c c.role → BodyOk sets promise h from b → RoleDue up (to_copy c from b ∷ rest) c c.role → Moved up rest from b c (on_body b c from)
  comes_moved (Interval known) role ok due =
      let o = opens c.role role (to_copy c from (Interval known) ∷ rest) due in
      same_moved (Interval known) (on_interval c known) (interval_copy c known (omega (arith, ok.fits, o.known))) due (λ r bad. cc) (λ d b l f bad. cc) (λ d f bad. cc) (λ d f bad. cc)
  comes_moved (Query n) role ok due = same_moved (Query n) (on_query c from n) (query_copy c from n (omega arith)) due (λ r bad. cc) (λ d b l f bad. cc) (λ d f bad. cc) (λ d f bad. cc)
  comes_moved (Install n log) role ok due =
      let o = opens c.role role (to_copy c from (Install n log) ∷ rest) due in
      same_moved (Install n log) (on_install c from n log) (install_copy c from n log (omega (arith, ok.0)) (λ same. (
      let is : h.chosen c.promise ≡ Some log = subst (λ v. h.chosen v ≡ Some log) same ok.1 in omega (arith, o.base log is)))) due (λ r bad. cc) (λ d b l f bad. cc) (λ d f bad. cc) (λ d f bad. cc)
  comes_moved (Append n place s) role ok due =
      let o = opens c.role role (to_copy c from (Append n place s) ∷ rest) due in
      same_moved (Append n place s) (on_append c from n place s) (append_copy c from n place s (λ p b. (
      let grown : c.log ≡ h.grown n = o.whole (b ∙ sym p) ∙ ap h.grown p in
      let long : length (ok.front ++ ok.entry ∷ ok.rest) ≡ length c.log = ap (λ v. length v) (ok.whole ∙ sym grown) in
      omega (arith, ok.at, length-append ok.front (ok.entry ∷ ok.rest))))) due (λ r bad. cc) (λ d b l f bad. cc) (λ d f bad. cc) (λ d f bad. cc)
  comes_moved (Request s) role ok due = request_moved up rest from c s due
  comes_moved (Reply id reply) role ok due = same_moved (Reply id reply) (still c) refl due (λ r bad. cc) (λ d b l f bad. cc) (λ d f bad. cc) (λ d f bad. cc)
  comes_moved (NotHere id) role ok due = same_moved (NotHere id) (still c) refl due (λ r bad. cc) (λ d b l f bad. cc) (λ d f bad. cc) (λ d f bad. cc)
  comes_moved (Info n base log) role ok due = go from due
    where
      go : (q : Party) → RoleDue up (to_copy c q (Info n base log) ∷ rest) c c.role → Moved up rest q (Info n base log) c (of_daemon q (λ m. on_info c.role c n (record { number = m; base = base; log = log })) (still c))
      go (Osd m) due = info_moved up rest c c.role n m base log refl due
      go Client due = stays_moved up rest Client (Info n base log) c [] c.role refl due (λ r bad. cc) (λ v w d k l f i. absurd (cc)) (λ v w d f i. absurd (cc)) (λ v w d f i. absurd (cc))
  comes_moved (Installed n) role ok due = go from due
    where
      go : (q : Party) → RoleDue up (to_copy c q (Installed n) ∷ rest) c c.role → Moved up rest q (Installed n) c (of_daemon q (λ m. on_installed c.role c n m) (still c))
      go (Osd m) due = installed_moved up rest c c.role n m refl due
      go Client due = stays_moved up rest Client (Installed n) c [] c.role refl due (λ r bad. cc) (λ v w d k l f i. absurd (cc)) (λ v w d f i. absurd (cc)) (λ v w d f i. absurd (cc))
  comes_moved (Appended n place) role ok due = go from due
    where
      go : (q : Party) → RoleDue up (to_copy c q (Appended n place) ∷ rest) c c.role → Moved up rest q (Appended n place) c (of_daemon q (λ m. on_appended c.role c n place m) (still c))
      go (Osd m) due = appended_moved up rest c c.role n place m refl due
      go Client due = stays_moved up rest Client (Appended n place) c [] c.role refl due (λ r bad. cc) (λ v w d k l f i. absurd (cc)) (λ v w d f i. absurd (cc)) (λ v w d f i. absurd (cc))
