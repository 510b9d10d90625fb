-- The first serves what waits: each request costs the same.
use Rattle.std.proofs.Common.{ℕ, ◌≡◌, ◌≤◌, ◌+◌, ◌*◌, ◌-◌, true, false, ◌==◌, List, [], ◌∷◌, ◌++◌, map, length, take, refl, sym, ◌∙◌, ap, subst, arith, inl, inr, length-append}
use Rattle.std.specs.Prelude.{Some, None}
use Rattle.std.specs.List.{filter, list_all}
use Rattle.std.proofs.lemmas.Bool.{eq-eqb, both_ways}
use Rattle.entry_core.specs.Log.{is_in, decide, find}
use Rattle.store_core.specs.Request.{Sealed}
use Rattle.store_core.specs.declared.entry.Entry.{Entry}
use Rattle.group_model_whole.specs.Steps.{Stepped}
use Rattle.group_model_whole.specs.Serve.{serve, serve_one, push_new}
use Rattle.group_model_whole.specs.Decided.{with_entry, decided_by}
use Rattle.group_model_whole.specs.ActingSets.{others}
use Rattle.group_model_whole.specs.Types.{Role, Active, Daemon, Body, Append, Osd}
use Rattle.group_model_whole.specs.Each.{Each}
use Rattle.group_model_whole.specs.Group.{is_distinct}
use Rattle.group_model_whole.specs.Calm.{answer_with}
use Rattle.group_model_whole.proofs.QuietLists.{append-nil, joined-none, map-last, carries_id, logs-push, one, total, total-map, total-same, total-none, total-twos, finds_none, sent_once, each_sent, take-front, distinct_parts}
use Rattle.group_model_whole.proofs.QuietStates.{between, concerns, asks_in, replies_in, wants_in, says_in, asks, replies, wants, says, sealed_of, answers_of, of_id, logs, lead_copy, weight_as, wire_weight, role_weight, waiting_weight, Stage, RoleOk, Usual, HasLog}
use Rattle.group_model_whole.proofs.QuietMoves.{others_of}

module _ (z p : ℕ) (os : List ℕ) (once : is_distinct (p ∷ os) ≡ true) where
  -- the same to each

  pub none_in : (f : Body → ℕ) (b : Body) (xs : List ℕ) → f b ≡ 0 → total (λ m. f m.body) (map (λ d. between p d b) xs) ≡ 0
  none_in f b xs none = total-map (λ m. f m.body) (λ d. between p d b) xs ∙ ap (λ v. total (λ x. v) xs) none ∙ total-none xs

  pub twos_in : (b : Body) (xs : List ℕ) → ((d : ℕ) → weight_as z p os b (Osd d) ≡ 2) → wire_weight z p os (map (λ d. between p d b) xs) ≡ 2 * length xs
  twos_in b xs each = total-map (λ m. weight_as z p os m.body m.to) (λ d. between p d b) xs ∙ total-same (λ d. weight_as z p os b (Osd d)) (λ d. 2) each xs ∙ total-twos xs

  pub record Served (base : ℕ) (log : List Entry) (ws : List Sealed) (s : Stepped) : Type 0 where
    pub log' : List Entry
    pub role' : Role
    pub waiting' : List Sealed
    pub copy : s.copy ≡ lead_copy z p os base log' role' waiting'
    pub members : (d : ℕ) → is_in os d ≡ true → (e : Daemon) → HasLog e log → Stage z p os role' log' d e (filter (concerns d) s.sent)
    pub usual : Each (Usual z p os) s.sent
    pub asked : (id : ℕ) → asks id s.sent + of_id id waiting' + logs id log' ≡ of_id id ws + logs id log
    pub told : (id : ℕ) → logs id (decided_by role' log') ≡ logs id log + replies id s.sent
    pub order : sealed_of log' ++ waiting' ≡ sealed_of log ++ ws
    pub said : answers_of (decided_by role' log') ≡ answers_of log ++ says s.sent
    pub wants_none : wants s.sent ≡ []
    pub role : RoleOk z p os role' (lead_copy z p os base log' role' waiting')
    pub pays : wire_weight z p os s.sent + role_weight z p os role' + waiting_weight z p os waiting' ≡ waiting_weight z p os ws

  -- alone, or the entry goes to each other member
  pushed : (base : ℕ) (log : List Entry) (role : Role) (waiting : List Sealed) (s : Sealed) (rest : List Sealed) (after : Stepped) (ms : List ℕ) → ms ≡ os →
      Served base (log ++ decide log s ∷ []) rest after → Served base log (s ∷ rest) (push_new ms (lead_copy z p os base log role waiting) s rest after)
  pushed base log role waiting s rest after [] none served = record {
    log' = served.log';
    role' = served.role';
    waiting' = served.waiting';
    copy = served.copy;
    members = λ d is e holds. absurd (both_ways (is_in os d) (subst (λ v. is_in v d ≡ false) none refl) is);
    usual = (inr (inr (inr (record { id = (decide log s).sealed.id; reply = (decide log s).reply; is = refl }))), served.usual);
    asked = λ id. (let old = served.asked id in let more = logs-push log s id in omega arith);
    told = λ id. (let old = served.told id in let more = logs-push log s id in let same = carries_id log s id in omega arith);
    order = served.order ∙ map-last (λ e. e.sealed) log (decide log s) rest;
    said = served.said ∙ map-last answer_with log (decide log s) (says after.sent);
    wants_none = served.wants_none;
    role = served.role;
    pays = (let old = served.pays in let few : length os ≡ 0 = ap (λ v. length v) (sym none) in omega arith);
  }
  pushed base log role waiting s rest after (m ∷ ms) some served =
      let b : Body = Append 1 (length log + 1) s in
      let are = others_of z p os once base log role waiting in
      let place : length (log ++ decide log s ∷ []) ≡ length log + 1 = length-append log (decide log s ∷ []) in
      record {
        log' = log ++ decide log s ∷ [];
        role' = Active (Some []);
        waiting' = rest;
        copy = refl;
        members = λ d is e holds. inl (record {
          ends = record { front = log; sealed = s; whole = refl };
          holds = holds;
          is = subst (λ v. filter (concerns d) (map (λ m. between p m (Append 1 (length log + 1) s)) v) ≡ between p d (Append 1 (length (log ++ decide log s ∷ [])) s) ∷ []) (sym are)
              (sent_once (concerns d) (λ m. between p m (Append 1 (length log + 1) s)) d (λ e. refl) os (distinct_parts p os once).1 is
              ∙ ap (λ v. between p d (Append 1 v s) ∷ []) (sym place));
        });
        usual = subst (λ v. Each (Usual z p os) (map (λ m. between p m (Append 1 (length log + 1) s)) v)) (sym are)
            (each_sent (Usual z p os) (λ m. between p m (Append 1 (length log + 1) s)) os (λ d is. inl (record { member = d; among = is; about = eq-eqb d d refl })));
        asked = λ id. (
            let no : asks id (map (λ m. between p m (Append 1 (length log + 1) s)) (others (lead_copy z p os base log role waiting))) ≡ 0 = none_in (asks_in id) b (others (lead_copy z p os base log role waiting)) refl in
            let more = logs-push log s id in omega arith);
        told = λ id. (
            let no : replies id (map (λ m. between p m (Append 1 (length log + 1) s)) (others (lead_copy z p os base log role waiting))) ≡ 0 = none_in (replies_in id) b (others (lead_copy z p os base log role waiting)) refl in
            let front : logs id (take (length (log ++ decide log s ∷ []) - 1) (log ++ decide log s ∷ [])) ≡ logs id log = ap (logs id) (take-front log (decide log s)) in
            omega arith);
        order = map-last (λ e. e.sealed) log (decide log s) rest;
        said =
            ap answers_of (take-front log (decide log s)) ∙ sym (append-nil (answers_of log))
            ∙ ap (λ v. answers_of log ++ v) (sym (joined-none (λ m. says_in m.body) (λ m. between p m (Append 1 (length log + 1) s)) (others (lead_copy z p os base log role waiting)) (λ d. refl)));
        wants_none = joined-none (λ m. wants_in m.body) (λ m. between p m (Append 1 (length log + 1) s)) (others (lead_copy z p os base log role waiting)) (λ d. refl);
        role = record {
          ends = record { front = log; sealed = s; whole = refl };
          open_yet = subst (λ v. list_all (is_in []) v ≡ false) (some ∙ sym (others_of z p os once base (log ++ decide log s ∷ []) (Active (Some [])) rest)) refl;
        };
        pays = (
            let twos : wire_weight z p os (map (λ m. between p m (Append 1 (length log + 1) s)) (others (lead_copy z p os base log role waiting))) ≡ 2 * length (others (lead_copy z p os base log role waiting)) =
            twos_in b (others (lead_copy z p os base log role waiting)) (λ d. refl) in
            let long : length (others (lead_copy z p os base log role waiting)) ≡ length os = ap (λ v. length v) are in
            omega arith);
      }

  pub served : (ws : List Sealed) (base : ℕ) (log : List Entry) (role : Role) (waiting : List Sealed) → ((id : ℕ) → of_id id ws + logs id log ≤ 1) → Served base log ws (serve ws (lead_copy z p os base log role waiting))
  served [] base log role waiting fresh = record {
    log' = log;
    role' = Active None;
    waiting' = [];
    copy = refl;
    members = λ d is e holds. record { none = refl; holds = holds };
    usual = tt;
    asked = λ id. omega arith;
    told = λ id. omega arith;
    order = refl;
    said = sym (append-nil (answers_of log));
    wants_none = refl;
    role = refl;
    pays = omega arith;
  }
  served (s ∷ rest) base log role waiting fresh =
      let c : Daemon = lead_copy z p os base log role waiting in
      let here : one (s.id == s.id) + of_id s.id rest + logs s.id log ≤ 1 = fresh s.id in
      let this : one (s.id == s.id) ≡ 1 = ap one (eq-eqb s.id s.id refl) in
      let none : logs s.id log ≡ 0 = omega arith in
      let miss : find log s.id ≡ None = finds_none log s.id none in
      let later : Served base (log ++ decide log s ∷ []) rest (serve rest (lead_copy z p os base (log ++ decide log s ∷ []) role waiting)) =
      served rest base (log ++ decide log s ∷ []) role waiting (λ id. (let old : one (s.id == id) + of_id id rest + logs id log ≤ 1 = fresh id in let more = logs-push log s id in omega arith)) in
      subst (λ f. Served base log (s ∷ rest) (serve_one f c s rest (serve rest c) (serve rest (with_entry c s)))) (sym miss)
      (pushed base log role waiting s rest (serve rest (with_entry c s)) (others c) (others_of z p os once base log role waiting) later)
