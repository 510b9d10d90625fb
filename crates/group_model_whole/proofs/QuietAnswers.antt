-- Each other member answers what the first asks of it.
use Rattle.std.proofs.Common.{ℕ, ◌≡◌, ◌≤◌, ◌+◌, ◌*◌, Bool, true, false, not, nat_lt, ◌==◌, ◌&&◌, List, [], ◌∷◌, ◌++◌, length, refl, sym, ◌∙◌, ap, subst, arith, inl, inr, length-append, if◌then◌else◌}
use Rattle.std.specs.Prelude.{Some, None, slice_get}
use Rattle.std.specs.List.{filter, list_any}
use Rattle.std.proofs.lemmas.Bool.{eq-eqb, ne_eqb, le-ltb, ltb-false}
use Rattle.entry_core.specs.Log.{is_in, decide, ids}
use Rattle.store_core.specs.Request.{Sealed}
use Rattle.store_core.specs.declared.entry.Entry.{Entry}
use Rattle.group_model_whole.specs.Steps.{still, send}
use Rattle.group_model_whole.specs.Copy.{promise_interval, on_query, on_install, on_append, acknowledged, on_interval, leads, lead, learn_sets}
use Rattle.group_model_whole.specs.Decided.{with_entry}
use Rattle.group_model_whole.specs.ActingSets.{is_primary}
use Rattle.group_model_whole.specs.Types.{PeerInfo, Role, Idle, Peering, Installing, Active, Daemon, Interval, Query, Info, Install, Installed, Append, Appended, Osd, Sent}
use Rattle.group_model_whole.specs.Each.{Each}
use Rattle.group_model_whole.specs.Group.{Group, is_distinct, to_daemon}
use Rattle.group_model_whole.proofs.QuietLists.{logs-push, one, filter-append, append-nil, log_without}
use Rattle.group_model_whole.proofs.QuietStates.{between, concerns, asks_in, asks, of_id, logs, lead_copy, weight_as, wire_weight, role_weight, waiting_weight, Stage, Peered, Setting, Pushing, Usual, IsFresh, HasLog, Ends, Running}
use Rattle.group_model_whole.proofs.QuietMoves.{not_first, Next, member_next}

pub sent_alone : (d : ℕ) (rest : List Sent) (m : Sent) → filter (concerns d) rest ≡ [] → concerns d m ≡ true → filter (concerns d) (rest ++ m ∷ []) ≡ m ∷ []
sent_alone d rest m none is = filter-append (concerns d) rest (m ∷ []) ∙ ap (λ v. v ++ filter (concerns d) (m ∷ [])) none ∙ ap (λ b. if b then m ∷ [] else []) is

pub about_head : (d : ℕ) (m : Sent) (rest : List Sent) → concerns d m ≡ true → filter (concerns d) (m ∷ rest) ≡ m ∷ filter (concerns d) rest
about_head d m rest is = ap (λ b. if b then m ∷ filter (concerns d) rest else filter (concerns d) rest) is

pub about_other : (d : ℕ) (m : Sent) (rest : List Sent) → concerns d m ≡ false → filter (concerns d) (m ∷ rest) ≡ filter (concerns d) rest
about_other d m rest not_it = ap (λ b. if b then m ∷ filter (concerns d) rest else filter (concerns d) rest) not_it

record IsPromised (e new : Daemon) : Type 0 where
  number : new.number ≡ e.number
  promise : new.promise ≡ 1
  base : new.base ≡ e.base
  log : new.log ≡ e.log

promises : (e : Daemon) → e.promise ≤ 1 → IsPromised e (promise_interval e 1)
promises e le = go (nat_lt e.promise 1) refl
  where
    go : (b : Bool) → nat_lt e.promise 1 ≡ b → IsPromised e (if b then record e { promise = 1; role = Idle; waiting = [] } else e)
    go true is = record { number = refl; promise = refl; base = refl; log = refl }
    go false is = record { number = refl; promise = (let from : 1 ≤ e.promise = ltb-false e.promise 1 is in omega arith); base = refl; log = refl }

module _ (z p : ℕ) (os : List ℕ) (once : is_distinct (p ∷ os) ≡ true) (g : Group) (rest : List Sent) (usual : Each (Usual z p os) rest) (due : ℕ)
    (base : ℕ) (log : List Entry) (role : Role) (waiting : List Sealed) where
  -- a delivery of that message
  abbrev pub Step : Sent → Type 0
  Step m = g.wire ≡ m ∷ rest → Running z p os g (m ∷ rest) (lead_copy z p os base log role waiting) →
      due ≡ weight_as z p os m.body m.to + wire_weight z p os rest + role_weight z p os role + waiting_weight z p os waiting → Next z p os once g m due

  module _ (d : ℕ) (e : Daemon) (among : is_in os d ≡ true) (here : slice_get g.copies d ≡ Some e) (number : e.number ≡ d) where
    apart_if : (other : ℕ) → (other ≡ d → ⊥) → (d == other) ≡ false
    apart_if other not_it = ne_eqb d other (λ same. not_it (sym same))

    module _ (none : filter (concerns d) rest ≡ []) where
      pub query_next : (informed : List PeerInfo) → role ≡ Peering informed → IsFresh e → list_any (λ i. i.number == d) informed ≡ false → Step (between p d (Query 1))
      query_next informed peering fresh unheard is run owes =
          let said : Sent = between d p (Info 1 e.base []) in
          let next : IsPromised e (promise_interval e 1) = promises e fresh.promise in
          let step : on_query e (Osd p) 1 ≡ record { copy = promise_interval e 1; sent = between d p (Info 1 e.base []) ∷ [] } =
          ap (λ b. if b then still e else record { copy = promise_interval e 1; sent = send e (Osd p) (Info 1 e.base e.log) ∷ [] }) (le-ltb 1 e.promise fresh.promise)
          ∙ ap (λ l. record { copy = promise_interval e 1; sent = send e (Osd p) (Info 1 e.base l) ∷ [] }) fresh.log
          ∙ ap (λ n. record { copy = promise_interval e 1; sent = between n p (Info 1 e.base []) ∷ [] }) number in
          let fresh' : IsFresh (promise_interval e 1) = record { promise = omega (arith, next.promise); base = next.base ∙ fresh.base; log = next.log ∙ fresh.log } in
          member_next z p os once g (between p d (Query 1)) rest base log role waiting d e (promise_interval e 1) (said ∷ []) due among here is refl run step
          (record {
            number = next.number ∙ number;
            stage = subst (λ r. Stage z p os r log d (promise_interval e 1) (filter (concerns d) (rest ++ said ∷ []))) (sym peering)
                (record { fresh = fresh'; peered = subst (λ b. Peered z p os b d (filter (concerns d) (rest ++ said ∷ []))) (sym unheard) (inr (record { base = e.base; is = sent_alone d rest said none (eq-eqb d d refl) })) });
            apart = λ other not_it. apart_if other not_it;
            apart_sent = λ other not_it. ap (λ b. if b then said ∷ [] else []) (apart_if other not_it);
            asks_none = λ id. (refl, refl);
            replies_none = λ id. (refl, refl);
            wants_none = (refl, refl);
            says_none = (refl, refl);
          })
          usual (inl (record { member = d; among = among; about = eq-eqb d d refl }), tt) owes refl

      pub install_next : (done : List ℕ) → role ≡ Installing done → IsFresh e → is_in done d ≡ false → Step (between p d (Install 1 log))
      install_next done installing fresh undone is run owes =
          let said : Sent = between d p (Installed 1) in
          let next : IsPromised e (promise_interval e 1) = promises e fresh.promise in
          let new : Daemon = record (promise_interval e 1) { base = 1; log = log } in
          let step : on_install e (Osd p) 1 log ≡ record { copy = record (promise_interval e 1) { base = 1; log = log }; sent = between d p (Installed 1) ∷ [] } =
          ap (λ b. if b then still e else record { copy = if nat_lt e.base 1 then record (promise_interval e 1) { base = 1; log = log } else promise_interval e 1; sent = send e (Osd p) (Installed 1) ∷ [] }) (le-ltb 1 e.promise fresh.promise)
          ∙ ap (λ n. record { copy = if nat_lt n 1 then record (promise_interval e 1) { base = 1; log = log } else promise_interval e 1; sent = send e (Osd p) (Installed 1) ∷ [] }) fresh.base
          ∙ ap (λ n. record { copy = record (promise_interval e 1) { base = 1; log = log }; sent = between n p (Installed 1) ∷ [] }) number in
          let holds : HasLog (record (promise_interval e 1) { base = 1; log = log }) log = record { promise = next.promise; base = refl; log = refl } in
          member_next z p os once g (between p d (Install 1 log)) rest base log role waiting d e (record (promise_interval e 1) { base = 1; log = log }) (said ∷ []) due among here is refl run step
          (record {
            number = next.number ∙ number;
            stage = subst (λ r. Stage z p os r log d (record (promise_interval e 1) { base = 1; log = log }) (filter (concerns d) (rest ++ said ∷ []))) (sym installing)
                (subst (λ b. Setting z p os b d (record (promise_interval e 1) { base = 1; log = log }) log (filter (concerns d) (rest ++ said ∷ []))) (sym undone) (inr (record { holds = holds; is = sent_alone d rest said none (eq-eqb d d refl) })));
            apart = λ other not_it. apart_if other not_it;
            apart_sent = λ other not_it. ap (λ b. if b then said ∷ [] else []) (apart_if other not_it);
            asks_none = λ id. (refl, refl);
            replies_none = λ id. (refl, refl);
            wants_none = (refl, refl);
            says_none = (refl, refl);
          })
          usual (inl (record { member = d; among = among; about = eq-eqb d d refl }), tt) owes refl

      pub append_next : (holders : List ℕ) → role ≡ Active (Some holders) → (ends : Ends log) → HasLog e ends.front → is_in holders d ≡ false → Step (between p d (Append 1 (length log) ends.sealed))
      append_next holders active ends held unheld is run owes =
          let s : Sealed = ends.sealed in
          let said : Sent = between d p (Appended 1 (length log)) in
          let long : length log ≡ length ends.front + 1 = ap (λ v. length v) ends.whole ∙ length-append ends.front (decide ends.front ends.sealed ∷ []) in
          let sum : logs s.id log ≡ logs s.id ends.front + one (s.id == s.id) = ap (logs s.id) ends.whole ∙ logs-push ends.front ends.sealed s.id in
          let this : one (s.id == s.id) ≡ 1 = ap one (eq-eqb s.id s.id refl) in
          let asked : asks_in s.id (Append 1 (length log) s) + asks s.id rest + of_id s.id waiting + logs s.id log ≡ of_id s.id g.requests = run.asked s.id in
          let most = run.once s.id in
          let new_id : is_in (ids ends.front) s.id ≡ false = log_without ends.front s.id (omega arith) in
          let fits : nat_lt (length (ends.front ++ decide ends.front ends.sealed ∷ [])) (length log) ≡ false =
          le-ltb (length (ends.front ++ decide ends.front ends.sealed ∷ [])) (length log) (let l = length-append ends.front (decide ends.front ends.sealed ∷ []) in omega arith) in
          let step : on_append e (Osd p) 1 (length log) s ≡ record { copy = with_entry e s; sent = between d p (Appended 1 (length log)) ∷ [] } =
          ap (λ v. if (v == 1) && (e.base == 1) then (if (length e.log + 1 == length log) && not (is_in (ids e.log) s.id) then acknowledged (with_entry e s) (Osd p) 1 (length log) else acknowledged e (Osd p) 1 (length log)) else still e) held.promise
          ∙ ap (λ v. if (v == 1) then (if (length e.log + 1 == length log) && not (is_in (ids e.log) s.id) then acknowledged (with_entry e s) (Osd p) 1 (length log) else acknowledged e (Osd p) 1 (length log)) else still e) held.base
          ∙ ap (λ l. if (length l + 1 == length log) && not (is_in (ids l) s.id) then acknowledged (with_entry e s) (Osd p) 1 (length log) else acknowledged e (Osd p) 1 (length log)) held.log
          ∙ ap (λ b. if b && not (is_in (ids ends.front) s.id) then acknowledged (with_entry e s) (Osd p) 1 (length log) else acknowledged e (Osd p) 1 (length log)) (eq-eqb (length ends.front + 1) (length log) (sym long))
          ∙ ap (λ b. if not b then acknowledged (with_entry e s) (Osd p) 1 (length log) else acknowledged e (Osd p) 1 (length log)) new_id
          ∙ ap (λ l. if nat_lt (length (l ++ decide l s ∷ [])) (length log) then still (with_entry e s) else record { copy = with_entry e s; sent = send e (Osd p) (Appended 1 (length log)) ∷ [] }) held.log
          ∙ ap (λ b. if b then still (with_entry e s) else record { copy = with_entry e s; sent = send e (Osd p) (Appended 1 (length log)) ∷ [] }) fits
          ∙ ap (λ n. record { copy = with_entry e s; sent = between n p (Appended 1 (length log)) ∷ [] }) number in
          let holds : HasLog (with_entry e s) log = record { promise = held.promise; base = held.base; log = ap (λ l. l ++ decide l s ∷ []) held.log ∙ sym ends.whole } in
          member_next z p os once g (between p d (Append 1 (length log) s)) rest base log role waiting d e (with_entry e s) (said ∷ []) due among here is refl run step
          (record {
            number = number;
            stage = subst (λ r. Stage z p os r log d (with_entry e s) (filter (concerns d) (rest ++ said ∷ []))) (sym active)
                (subst (λ b. Pushing z p os b d (with_entry e s) log (filter (concerns d) (rest ++ said ∷ []))) (sym unheld) (inr (record { holds = holds; is = sent_alone d rest said none (eq-eqb d d refl) })));
            apart = λ other not_it. apart_if other not_it;
            apart_sent = λ other not_it. ap (λ b. if b then said ∷ [] else []) (apart_if other not_it);
            asks_none = λ id. (refl, refl);
            replies_none = λ id. (refl, refl);
            wants_none = (refl, refl);
            says_none = (refl, refl);
          })
          usual (inl (record { member = d; among = among; about = eq-eqb d d refl }), tt) owes refl

    -- news of the interval

    record IsToldOf (new : Daemon) : Type 0 where
      same_number : new.number ≡ e.number
      same_promise : new.promise ≡ e.promise
      same_base : new.base ≡ e.base
      same_log : new.log ≡ e.log
      step : on_interval e ((p ∷ os) ∷ []) ≡ record { copy = new; sent = [] }

    pub record IsTold : Type 0 where
      new : Daemon
      facts : IsToldOf new

    tells : IsTold
    tells = go (nat_lt (length e.known) 1) refl
      where
        second : is_primary (p ∷ os) e.number ≡ false
        second = ne_eqb p e.number (λ same. not_first z p os once d among (sym (same ∙ number)))

        follows : leads e ((p ∷ os) ∷ []) ≡ false
        follows = ap (λ b. not (nat_lt (length (p ∷ os)) e.min_size) && b && nat_lt e.promise 1) second ∙ go (not (nat_lt (length (p ∷ os)) e.min_size))
          where
            go : (b : Bool) → (b && false && nat_lt e.promise 1) ≡ false
            go true = refl
            go false = refl

        go : (b : Bool) → nat_lt (length e.known) 1 ≡ b → IsTold
        go true is = record {
          new = learn_sets e ((p ∷ os) ∷ []);
          facts = record {
            same_number = refl;
            same_promise = refl;
            same_base = refl;
            same_log = refl;
            step = ap (λ b. if b then (if leads e ((p ∷ os) ∷ []) then lead (record (learn_sets e ((p ∷ os) ∷ [])) { promise = 1 }) else still (learn_sets e ((p ∷ os) ∷ []))) else still e) is
                ∙ ap (λ b. if b then lead (record (learn_sets e ((p ∷ os) ∷ [])) { promise = 1 }) else still (learn_sets e ((p ∷ os) ∷ []))) follows;
          };
        }
        go false is = record {
          new = e;
          facts = record {
            same_number = refl;
            same_promise = refl;
            same_base = refl;
            same_log = refl;
            step = ap (λ b. if b then (if leads e ((p ∷ os) ∷ []) then lead (record (learn_sets e ((p ∷ os) ∷ [])) { promise = 1 }) else still (learn_sets e ((p ∷ os) ∷ []))) else still e) is;
          };
        }

    fresh_as : (new : Daemon) → IsToldOf new → IsFresh e → IsFresh new
    fresh_as new same f = record { promise = (let a = same.same_promise in let b = f.promise in omega arith); base = same.same_base ∙ f.base; log = same.same_log ∙ f.log }

    has_as : (new : Daemon) (l : List Entry) → IsToldOf new → HasLog e l → HasLog new l
    has_as new l same f = record { promise = same.same_promise ∙ f.promise; base = same.same_base ∙ f.base; log = same.same_log ∙ f.log }

    stage_as : (new : Daemon) (r : Role) (ms : List Sent) → IsToldOf new → Stage z p os r log d e ms → Stage z p os r log d new ms
    stage_as new Idle ms same st = record { fresh = fresh_as new same st.fresh; none = st.none }
    stage_as new (Peering informed) ms same st = record { fresh = fresh_as new same st.fresh; peered = st.peered }
    stage_as new (Installing done) ms same st = go (is_in done d) st
      where
        go : (b : Bool) → Setting z p os b d e log ms → Setting z p os b d new log ms
        go true st = record { none = st.none; holds = has_as new log same st.holds }
        go false (inl st) = inl (record { fresh = fresh_as new same st.fresh; is = st.is })
        go false (inr st) = inr (record { holds = has_as new log same st.holds; is = st.is })
    stage_as new (Active None) ms same st = record { none = st.none; holds = has_as new log same st.holds }
    stage_as new (Active (Some holders)) ms same st = go (is_in holders d) st
      where
        go : (b : Bool) → Pushing z p os b d e log ms → Pushing z p os b d new log ms
        go true st = record { none = st.none; holds = has_as new log same st.holds }
        go false (inl st) = inl (record { ends = st.ends; holds = has_as new st.ends.front same st.holds; is = st.is })
        go false (inr st) = inr (record { holds = has_as new log same st.holds; is = st.is })

    pub news_next : Stage z p os role log d e (filter (concerns d) rest) → Step (to_daemon d (Interval ((p ∷ os) ∷ [])))
    news_next stage is run owes =
        let t : IsTold = tells in
        let light : (d == p) ≡ false = ne_eqb d p (not_first z p os once d among) in
        let weighs : weight_as z p os (Interval ((p ∷ os) ∷ [])) (Osd d) ≡ 1 = ap (λ b. if b then 1 + 4 * length os else 1) light in
        member_next z p os once g (to_daemon d (Interval ((p ∷ os) ∷ []))) rest base log role waiting d e t.new [] due among here is refl run t.facts.step
        (record {
          number = t.facts.same_number ∙ number;
          stage = subst (λ v. Stage z p os role log d t.new v) (ap (filter (concerns d)) (sym (append-nil rest))) (stage_as t.new role (filter (concerns d) rest) t.facts stage);
          apart = λ other not_it. refl;
          apart_sent = λ other not_it. refl;
          asks_none = λ id. (refl, refl);
          replies_none = λ id. (refl, refl);
          wants_none = (refl, refl);
          says_none = (refl, refl);
        })
        usual tt owes (sym weighs)
