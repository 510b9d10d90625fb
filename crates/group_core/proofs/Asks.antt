-- Each rule keeps a fact of each request that stands in a copy.
use Rattle.std.proofs.Common.{ℕ, take, drop, ◌≡◌, ◌+◌, Bool, true, false, not, ◌==◌, ◌&&◌, nat_lt, List, [], ◌∷◌, ◌++◌, length, refl, sym, subst, if◌then◌else◌}
use Rattle.std.specs.Prelude.{Option, Some, None}
use Rattle.std.specs.List.{list_any}
use Rattle.entry_core.specs.Log.{decide, decide-sealed, find, is_in, ids}
use Rattle.store_core.specs.Request.{Sealed}
use Rattle.store_core.specs.declared.entry.Entry.{Entry}
use Rattle.peer_core.specs.Steps.{Stepped, still, send}
use Rattle.peer_core.specs.Copy.{promise_interval, on_request, on_request_as, busy_request, waits, on_query, info, query, uninformed, learn_sets, leads, lead, on_interval, on_append, acknowledged, queries, retransmit, retransmit_as, append_again, complete, on_installed, on_appended, on_install, install_fitted, install_from, on_body, install_chosen, fit_chosen, try_choice, on_info, on_info_as}
use Rattle.group_messages.specs.Starts.{start_for}
use Rattle.peer_core.specs.ActingSets.{others, asked, all_count, counted, missing}
use Rattle.peer_core.specs.Serve.{serve, push_new, serve_one}
use Rattle.group_model_whole.specs.Decided.{not_in_flight, last}
use Rattle.peer_core.specs.Decided.{with_entry}
use Rattle.group_messages.specs.Beginnings.{common_of, count_at}
use Rattle.entry_core.specs.Fitting.{part_of, fitted, decided_behind, kept, agreed, can_fit}
use Rattle.peer_core.specs.Choice.{can_choose, best, own_offer, is_better, is_informed}
use Rattle.group_model.specs.Types.{Offer, Role, Idle, Peering, Installing, Active, Copy, Body, Interval, Query, Info, Install, Installed, Append, Appended, Request, Reply, NotHere, Party, Osd, Client, Sent}
use Rattle.group_model_whole.specs.Each.{Each}
use Rattle.group_model_whole.specs.Asked.{InLog}
use Rattle.group_model.specs.Asked.{InRole, InCopy, InBody}
use Rattle.group_model_whole.proofs.Eaches.{Each-append, Each-push, Each-take, Each-drop, Each-map, Each-map_all}

module _ (P : Sealed → Type 0) where
  pub record InStep (s : Stepped) : Type 0 where
    pub copy : InCopy P s.copy
    pub sent : Each (λ (v : Sent). InBody P v.body) s.sent

  decided_in : (log : List Entry) (s : Sealed) → P s → P (decide log s).sealed
  decided_in log s this = subst P (sym (decide-sealed log s)) this

  -- parts of logs, and logs that are fitted to parts

  part_in : (log : List Entry) (start : ℕ) → InLog P log → Each P (part_of log start)
  part_in log start each = Each-map P (λ (e : Entry). P e.sealed) (λ (e : Entry). e.sealed) (λ e this. this) (drop start log) (Each-drop (λ (e : Entry). P e.sealed) start log each)

  behind_in : (part : List Sealed) (log : List Entry) → InLog P log → Each P part → InLog P (decided_behind log part)
  behind_in [] log each new = each
  behind_in (s ∷ part) log each new = behind_in part (log ++ decide log s ∷ []) (Each-push (λ (e : Entry). P e.sealed) log (decide log s) each (decided_in log s new.0)) new.1

  abbrev IfIn : Option (List Entry) → Type 0
  IfIn None = Unit {0}
  IfIn (Some log) = InLog P log

  fitted_in : (log : List Entry) (start : ℕ) (part : List Sealed) → InLog P log → Each P part → IfIn (fitted log start part)
  fitted_in log start part each new = go (can_fit log start part)
    where
      go : (b : Bool) → IfIn (if b then Some (decided_behind (take (kept log start part) log) (drop (agreed (drop start log) part) part)) else None)
      go true = behind_in (drop (agreed (drop start log) part) part) (take (kept log start part) log) (Each-take (λ (e : Entry). P e.sealed) (kept log start part) log each) (Each-drop P (agreed (drop start log) part) part new)
      go false = tt

  best_in : (a : Offer) (bs : List Offer) → Each P a.part → Each (λ (i : Offer). Each P i.part) bs → Each P (best a bs).part
  best_in a [] mine each = mine
  best_in a (b ∷ bs) mine each = best_in (if is_better b a then b else a) bs (go (is_better b a)) each.1
    where
      go : (v : Bool) → Each P (if v then b else a).part
      go true = each.0
      go false = mine

  still_in : (c : Copy) → InCopy P c → InStep (still c)
  still_in c ok = record { copy = ok; sent = tt }

  by_test : (b : Bool) (x y : Stepped) → InStep x → InStep y → InStep (if b then x else y)
  by_test true x y p q = p
  by_test false x y p q = q

  promised_in : (c : Copy) (n : ℕ) → InCopy P c → InCopy P (promise_interval c n)
  promised_in c n ok = go (nat_lt c.promise n)
    where
      go : (b : Bool) → InCopy P (if b then record c { promise = n; role = Idle; waiting = [] } else c)
      go true = record { log = ok.log; waiting = tt; role = tt }
      go false = ok

  query_in : (c : Copy) (from : Party) (n len : ℕ) (end : Option ℕ) → InCopy P c → InStep (on_query c from n len end)
  query_in c from n len end ok = by_test (nat_lt n c.promise) (still c) (record { copy = promise_interval c n; sent = send c from (info c n (start_for c.log len end)) ∷ [] })
      (still_in c ok) (record { copy = promised_in c n ok; sent = (part_in c.log (start_for c.log len end) ok.log, tt) })

  serve_one_in : (found : Option Entry) (c : Copy) (s : Sealed) (rest : List Sealed) (after pushed : Stepped) → InLog P c.log → P s → Each P rest → InStep after → InStep pushed →
      InStep (serve_one found c s rest after pushed)
  serve_one_in (Some e) c s rest after pushed log this each a p = record { copy = a.copy; sent = (tt, a.sent) }
  serve_one_in None c s rest after pushed log this each a p = go (others c)
    where
      go : (ms : List ℕ) → InStep (push_new ms c s rest pushed)
      go [] = record { copy = p.copy; sent = (tt, p.sent) }
      go (m ∷ ms) = record {
        copy = record { log = Each-push (λ e. P e.sealed) c.log (decide c.log s) log (decided_in c.log s this); waiting = each; role = tt };
        sent = Each-map_all (λ (v : Sent). InBody P v.body) (λ m. send c (Osd m) (Append c.promise (length c.log + 1) s)) (λ m. this) (others c);
      }

  serve_in : (waiting : List Sealed) (c : Copy) → InLog P c.log → Each P waiting → InStep (serve waiting c)
  serve_in [] c log each = record { copy = record { log = log; waiting = tt; role = tt }; sent = tt }
  serve_in (s ∷ rest) c log each = serve_one_in (find c.log s.id) c s rest (serve rest c) (serve rest (with_entry c s)) log each.0 each.1
      (serve_in rest c log each.1) (serve_in rest (with_entry c s) (Each-push (λ e. P e.sealed) c.log (decide c.log s) log (decided_in c.log s each.0)) each.1)

  waits_in : (c : Copy) (s : Sealed) → InCopy P c → P s → InStep (waits c s)
  waits_in c s ok this = record { copy = record { log = ok.log; waiting = Each-push P c.waiting s ok.waiting this; role = ok.role }; sent = tt }

  busy_in : (c : Copy) (s : Sealed) (found : Option Entry) → InCopy P c → P s → InStep (busy_request c s found)
  busy_in c s (Some e) ok this = record { copy = ok; sent = (tt, tt) }
  busy_in c s None ok this = by_test (is_in (ids c.log) s.id) (still c) (waits c s) (still_in c ok) (waits_in c s ok this)

  request_as_in : (r : Role) (c : Copy) (s : Sealed) → InCopy P c → P s → InStep (on_request_as r c s)
  request_as_in Idle c s ok this = record { copy = ok; sent = (tt, tt) }
  request_as_in (Peering informed) c s ok this = waits_in c s ok this
  request_as_in (Installing done common) c s ok this = waits_in c s ok this
  request_as_in (Active None) c s ok this = serve_in (s ∷ c.waiting) c ok.log (this, ok.waiting)
  request_as_in (Active (Some holders)) c s ok this = busy_in c s (find (not_in_flight c.log (Some holders)) s.id) ok this

  request_in : (c : Copy) (s : Sealed) → InCopy P c → P s → InStep (on_request c s)
  request_in c s ok this = by_test (list_any (λ w. w.id == s.id) c.waiting) (still c) (on_request_as c.role c s) (still_in c ok) (request_as_in c.role c s ok this)

  install_in : (c : Copy) (informed : List Offer) (log : List Entry) (ms : List ℕ) → InLog P log → Each P c.waiting → InStep (install_chosen c informed log ms)
  install_in c informed log [] each waits = serve_in c.waiting (record c { base = c.promise; log = log; role = Active None }) each waits
  install_in c informed log (m ∷ ms) each waits = record {
    copy = record { log = each; waiting = waits; role = tt };
    sent = Each-map_all (λ (v : Sent). InBody P v.body) (λ m. install_from c log m (common_of informed c.log log m)) (λ m. part_in log (common_of informed c.log log m) each) (m ∷ ms);
  }

  chosen_in : (c : Copy) (informed : List Offer) (found : Option (List Entry)) → InLog P c.log → Each P c.waiting → Each (λ (i : Offer). Each P i.part) informed → IfIn found → InStep (fit_chosen c informed found)
  chosen_in c informed None log waits each found = record { copy = record { log = log; waiting = waits; role = each }; sent = tt }
  chosen_in c informed (Some chosen) log waits each found = install_in c informed chosen (others c) found waits

  try_choice_in : (c : Copy) (informed : List Offer) → InLog P c.log → Each P c.waiting → Each (λ (i : Offer). Each P i.part) informed → InStep (try_choice c informed)
  try_choice_in c informed log waits each = by_test (can_choose c informed) (fit_chosen c informed (fitted c.log (best (own_offer c) informed).start (best (own_offer c) informed).part)) (still (record c { role = Peering informed }))
      (chosen_in c informed (fitted c.log (best (own_offer c) informed).start (best (own_offer c) informed).part) log waits each
      (fitted_in c.log (best (own_offer c) informed).start (best (own_offer c) informed).part log (best_in (own_offer c) informed tt each)))
      (record { copy = record { log = log; waiting = waits; role = each }; sent = tt })

  info_as_in : (r : Role) (c : Copy) (n : ℕ) (offer : Offer) → c.role ≡ r → InCopy P c → Each P offer.part → InStep (on_info_as r c n offer)
  info_as_in (Peering informed) c n offer is ok part = by_test ((c.promise == n) && not (is_informed c informed offer.number)) (try_choice c (informed ++ offer ∷ [])) (still c)
      (try_choice_in c (informed ++ offer ∷ []) ok.log ok.waiting (Each-push (λ (i : Offer). Each P i.part) informed offer (subst (λ r. InRole P r) is ok.role) part))
      (still_in c ok)
  info_as_in Idle c n offer is ok part = still_in c ok
  info_as_in (Installing done common) c n offer is ok part = still_in c ok
  info_as_in (Active flight) c n offer is ok part = still_in c ok

  info_in : (c : Copy) (n : ℕ) (offer : Offer) → InCopy P c → Each P offer.part → InStep (on_info c n offer)
  info_in c n offer ok part = by_test (nat_lt (length c.log) offer.start) (still c) (on_info_as c.role c n offer) (still_in c ok) (info_as_in c.role c n offer refl ok part)

  fit_in : (c : Copy) (from : Party) (n : ℕ) (found : Option (List Entry)) → InCopy P c → IfIn found → InStep (install_fitted c from n found)
  fit_in c from n None ok found = still_in c ok
  fit_in c from n (Some log) ok found = (let next = promised_in c n ok in record { copy = record { log = found; waiting = next.waiting; role = next.role }; sent = (tt, tt) })

  install_comes_in : (c : Copy) (from : Party) (n start : ℕ) (part : List Sealed) → InCopy P c → Each P part → InStep (on_install c from n start part)
  install_comes_in c from n start part ok new = by_test (nat_lt n c.promise) (still c)
      (if nat_lt c.base n then install_fitted c from n (fitted c.log start part) else record { copy = promise_interval c n; sent = send c from (Installed n) ∷ [] })
      (still_in c ok)
      (by_test (nat_lt c.base n) (install_fitted c from n (fitted c.log start part)) (record { copy = promise_interval c n; sent = send c from (Installed n) ∷ [] })
      (fit_in c from n (fitted c.log start part) ok (fitted_in c.log start part ok.log new))
      (record { copy = promised_in c n ok; sent = (tt, tt) }))

  installed_as_in : (r : Role) (c : Copy) (n m : ℕ) → InCopy P c → InStep (on_installed r c n m)
  installed_as_in (Installing done common) c n m ok = by_test (c.promise == n) (if all_count c (counted c done m) then serve c.waiting c else still (record c { role = Installing (counted c done m) common })) (still c)
      (by_test (all_count c (counted c done m)) (serve c.waiting c) (still (record c { role = Installing (counted c done m) common }))
      (serve_in c.waiting c ok.log ok.waiting)
      (record { copy = record { log = ok.log; waiting = ok.waiting; role = tt }; sent = tt }))
      (still_in c ok)
  installed_as_in Idle c n m ok = still_in c ok
  installed_as_in (Peering informed) c n m ok = still_in c ok
  installed_as_in (Active flight) c n m ok = still_in c ok

  acknowledged_in : (c : Copy) (from : Party) (n place : ℕ) → InCopy P c → InStep (acknowledged c from n place)
  acknowledged_in c from n place ok = by_test (nat_lt (length c.log) place) (still c) (record { copy = c; sent = send c from (Appended n place) ∷ [] })
      (still_in c ok) (record { copy = ok; sent = (tt, tt) })

  append_in : (c : Copy) (from : Party) (n place : ℕ) (s : Sealed) → InCopy P c → P s → InStep (on_append c from n place s)
  append_in c from n place s ok this = by_test ((c.promise == n) && (c.base == n))
      (if (length c.log + 1 == place) && not (is_in (ids c.log) s.id) then acknowledged (with_entry c s) from n place else acknowledged c from n place) (still c)
      (by_test ((length c.log + 1 == place) && not (is_in (ids c.log) s.id)) (acknowledged (with_entry c s) from n place) (acknowledged c from n place)
      (acknowledged_in (with_entry c s) from n place (record { log = Each-push (λ e. P e.sealed) c.log (decide c.log s) ok.log (decided_in c.log s this); waiting = ok.waiting; role = ok.role }))
      (acknowledged_in c from n place ok))
      (still_in c ok)

  complete_in : (c : Copy) (e : Option Entry) → InCopy P c → InStep (complete c e)
  complete_in c None ok = serve_in c.waiting c ok.log ok.waiting
  complete_in c (Some e) ok = let after = serve_in c.waiting c ok.log ok.waiting in record { copy = after.copy; sent = (tt, after.sent) }

  appended_as_in : (r : Role) (c : Copy) (n place m : ℕ) → InCopy P c → InStep (on_appended r c n place m)
  appended_as_in (Active (Some holders)) c n place m ok = by_test ((c.promise == n) && (place == length c.log))
      (if all_count c (counted c holders m) then complete c (last c.log) else still (record c { role = Active (Some (counted c holders m)) })) (still c)
      (by_test (all_count c (counted c holders m)) (complete c (last c.log)) (still (record c { role = Active (Some (counted c holders m)) }))
      (complete_in c (last c.log) ok)
      (record { copy = record { log = ok.log; waiting = ok.waiting; role = tt }; sent = tt }))
      (still_in c ok)
  appended_as_in (Active None) c n place m ok = still_in c ok
  appended_as_in Idle c n place m ok = still_in c ok
  appended_as_in (Peering informed) c n place m ok = still_in c ok
  appended_as_in (Installing done common) c n place m ok = still_in c ok

  interval_in : (c : Copy) (sets : List (List ℕ)) → InCopy P c → InStep (on_interval c sets)
  interval_in c sets ok =
      let next = try_choice_in (record (learn_sets c sets) { promise = length sets }) [] ok.log tt tt in
      by_test (nat_lt (length c.known) (length sets)) (if leads c sets then lead (record (learn_sets c sets) { promise = length sets }) else still (learn_sets c sets)) (still c)
      (by_test (leads c sets) (lead (record (learn_sets c sets) { promise = length sets })) (still (learn_sets c sets))
      (record {
        copy = next.copy;
        sent = Each-append (λ (v : Sent). InBody P v.body) (queries (record (learn_sets c sets) { promise = length sets })) (try_choice (record (learn_sets c sets) { promise = length sets }) []).sent
            (Each-map_all (λ (v : Sent). InBody P v.body) (λ d. send c (Osd d) (query (record (learn_sets c sets) { promise = length sets }))) (λ d. tt) (asked (record (learn_sets c sets) { promise = length sets }))) next.sent;
      })
      (record { copy = record { log = ok.log; waiting = tt; role = tt }; sent = tt }))
      (still_in c ok)

  pub comes_in : (b : Body) (c : Copy) (from : Party) → InCopy P c → InBody P b → InStep (on_body b c from)
  comes_in (Interval sets) c from ok this = interval_in c sets ok
  comes_in (Query n len end) c from ok this = query_in c from n len end ok
  comes_in (Info n base start part) c (Osd m) ok this = info_in c n (record { number = m; base = base; start = start; part = part }) ok this
  comes_in (Info n base start part) c Client ok this = still_in c ok
  comes_in (Install n start part) c from ok this = install_comes_in c from n start part ok this
  comes_in (Installed n) c (Osd m) ok this = installed_as_in c.role c n m ok
  comes_in (Installed n) c Client ok this = still_in c ok
  comes_in (Append n place s) c from ok this = append_in c from n place s ok this
  comes_in (Appended n place) c (Osd m) ok this = appended_as_in c.role c n place m ok
  comes_in (Appended n place) c Client ok this = still_in c ok
  comes_in (Request s) c from ok this = request_in c s ok this
  comes_in (Reply id reply) c from ok this = still_in c ok
  comes_in (NotHere id) c from ok this = still_in c ok

  last_in : (log : List Entry) (e : Entry) → last log ≡ Some e → InLog P log → P e.sealed
  last_in [] e is each = absurd (cc)
  last_in (x ∷ []) e is each = let same : x ≡ e = cc in subst (λ v. P v.sealed) same each.0
  last_in (x ∷ y ∷ ys) e is each = last_in (y ∷ ys) e is each.1

  append_again_in : (c : Copy) (e : Option Entry) (ms : List ℕ) → last c.log ≡ e → InLog P c.log → Each (λ (v : Sent). InBody P v.body) (append_again c e ms)
  append_again_in c None ms is log = tt
  append_again_in c (Some e) ms is log = Each-map_all (λ (v : Sent). InBody P v.body) (λ m. send c (Osd m) (Append c.promise (length c.log) e.sealed)) (λ m. last_in c.log e is log) ms

  kicked_as_in : (r : Role) (c : Copy) → InCopy P c → Each (λ (v : Sent). InBody P v.body) (retransmit_as r c)
  kicked_as_in Idle c ok = tt
  kicked_as_in (Peering informed) c ok = Each-map_all (λ (v : Sent). InBody P v.body) (λ d. send c (Osd d) (query c)) (λ d. tt) (uninformed c informed)
  kicked_as_in (Installing done common) c ok = Each-map_all (λ (v : Sent). InBody P v.body) (λ m. install_from c c.log m (count_at common m)) (λ m. part_in c.log (count_at common m) ok.log) (missing c done)
  kicked_as_in (Active None) c ok = tt
  kicked_as_in (Active (Some holders)) c ok = append_again_in c (last c.log) (missing c holders) refl ok.log

  pub kicked_in : (c : Copy) → InCopy P c → Each (λ (v : Sent). InBody P v.body) (retransmit c)
  kicked_in c ok = kicked_as_in c.role c ok
