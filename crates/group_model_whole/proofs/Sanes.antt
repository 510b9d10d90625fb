-- Each rule keeps what holds of a copy by itself.
use Rattle.std.proofs.Common.{ℕ, ◌≡◌, ◌+◌, ◌≤◌, ◌<◌, Bool, true, false, not, ◌==◌, ◌&&◌, nat_lt, List, [], ◌∷◌, ◌++◌, length, refl, arith, if◌then◌else◌}
use Rattle.std.specs.Prelude.{Option, Some, None}
use Rattle.std.specs.List.{list_any, filter}
use Rattle.std.proofs.lemmas.Bool.{ltb-true, ltb-false, and_parts, not-true}
use Rattle.entry_core.specs.Log.{Legal, find, is_in, ids}
use Rattle.store_core.specs.Request.{Sealed}
use Rattle.store_core.specs.declared.entry.Entry.{Entry}
use Rattle.group_model_whole.specs.Steps.{Stepped, still}
use Rattle.group_model_whole.specs.Copy.{promise_interval, on_request, on_request_as, busy_request, waits, on_query, learn_sets, leads, lead, on_interval, on_append, acknowledged, queries, retransmit, retransmit_as, append_again, complete, on_installed, on_appended, on_install, on_body, copy_step, install_chosen, try_choice, on_info}
use Rattle.group_model_whole.specs.ActingSets.{others, asked, set_of, is_primary, all_count, counted}
use Rattle.group_model_whole.specs.Serve.{serve, push_new, serve_one}
use Rattle.group_model_whole.specs.Decided.{not_in_flight, with_entry, last}
use Rattle.group_model_whole.specs.Choice.{can_choose, best, own_offer, is_informed}
use Rattle.group_model_whole.specs.Types.{PeerInfo, Role, Idle, Peering, Installing, Active, Daemon, Body, Interval, Query, Info, Install, Installed, Append, Appended, Request, Reply, NotHere, Message, Party, Osd, Client}
use Rattle.group_model_whole.specs.Each.{Each}
use Rattle.group_model_whole.specs.Sane.{IsSane, BodyIsLegal}
use Rattle.group_model_whole.proofs.Eaches.{Each-append, Each-push, Each-map_all}
use Rattle.group_model_whole.proofs.Logs.{absent, Legal-push}
use Rattle.group_model_whole.proofs.Choices.{best_among}

-- what a step leaves is sane, and what it sends is legal
pub record SaneStep (s : Stepped) : Type 0 where
  pub copy : IsSane s.copy
  pub sent : Each (λ m. BodyIsLegal m.body) s.sent

pub still_sane : (c : Daemon) → IsSane c → SaneStep (still c)
still_sane c ok = record { copy = ok; sent = tt }

promised_sane : (c : Daemon) (n : ℕ) → IsSane c → IsSane (promise_interval c n)
promised_sane c n ok = go (nat_lt c.promise n) refl
  where
    go : (b : Bool) → nat_lt c.promise n ≡ b → IsSane (if b then record c { promise = n; role = Idle; waiting = [] } else c)
    go true e = let lt : c.promise < n = ltb-true c.promise n e in record { base = omega (arith, ok.base); role = tt; legal = ok.legal }
    go false e = ok

pub query_sane : (c : Daemon) (from : Party) (n : ℕ) → IsSane c → SaneStep (on_query c from n)
query_sane c from n ok = elim (nat_lt n c.promise) as (λ b. SaneStep (if b then still c else record { copy = promise_interval c n; sent = record { from = Osd c.number; to = from; body = Info n c.base c.log } ∷ [] })) [
  | true ↦ still_sane c ok
  | false ↦ record { copy = promised_sane c n ok; sent = (ok.legal, tt) }
]

-- an active copy of a known interval
serve_one_sane : (found : Option Entry) (c : Daemon) (s : Sealed) (rest : List Sealed) (after pushed : Stepped) →
    c.base ≤ c.promise → c.promise ≡ length c.known → Legal (with_entry c s).log →
    SaneStep after → SaneStep pushed → SaneStep (serve_one found c s rest after pushed)
serve_one_sane (Some e) c s rest after pushed base known legal a p = record { copy = a.copy; sent = (tt, a.sent) }
serve_one_sane None c s rest after pushed base known legal a p = go (others c)
  where
    go : (ms : List ℕ) → SaneStep (push_new ms c s rest pushed)
    go [] = record { copy = p.copy; sent = (tt, p.sent) }
    go (m ∷ ms) = record {
      copy = record { base = base; role = known; legal = legal };
      sent = Each-map_all (λ m. BodyIsLegal m.body) (λ m. record { from = Osd c.number; to = Osd m; body = Append c.promise (length c.log + 1) s }) (λ m. tt) (others c);
    }

pub serve_sane : (waiting : List Sealed) (c : Daemon) → c.base ≤ c.promise → c.promise ≡ length c.known → Legal c.log → SaneStep (serve waiting c)
serve_sane [] c base known legal = record { copy = record { base = base; role = known; legal = legal }; sent = tt }
serve_sane (s ∷ rest) c base known legal =
    split (find c.log s.id) refl (serve_sane rest c base known legal)
    (λ pushed. serve_sane rest (with_entry c s) base known pushed)
  where
    split : (found : Option Entry) → find c.log s.id ≡ found → SaneStep (serve rest c) → (Legal (with_entry c s).log → SaneStep (serve rest (with_entry c s))) →
        SaneStep (serve_one (find c.log s.id) c s rest (serve rest c) (serve rest (with_entry c s)))
    split (Some e) is after later = rw is (record { copy = after.copy; sent = (tt, after.sent) })
    split None is after later =
        let legal' = Legal-push c.log s legal (absent c.log s.id is) in
        rw is (serve_one_sane None c s rest (serve rest c) (serve rest (with_entry c s)) base known legal' after (later legal'))

-- a step that a test chooses
by_test : (b : Bool) (x y : Stepped) → (b ≡ true → SaneStep x) → (b ≡ false → SaneStep y) → SaneStep (if b then x else y)
by_test true x y p q = p refl
by_test false x y p q = q refl

waits_sane : (c : Daemon) (s : Sealed) → IsSane c → SaneStep (waits c s)
waits_sane c s ok = record { copy = record { base = ok.base; role = ok.role; legal = ok.legal }; sent = tt }

busy_sane : (c : Daemon) (s : Sealed) (found : Option Entry) → IsSane c → SaneStep (busy_request c s found)
busy_sane c s (Some e) ok = record { copy = ok; sent = (tt, tt) }
busy_sane c s None ok = by_test (is_in (ids c.log) s.id) (still c) (waits c s) (λ _. still_sane c ok) (λ _. waits_sane c s ok)

request_as_sane : (r : Role) (c : Daemon) (s : Sealed) → c.role ≡ r → IsSane c → SaneStep (on_request_as r c s)
request_as_sane Idle c s is ok = record { copy = ok; sent = (tt, tt) }
request_as_sane (Peering informed) c s is ok = waits_sane c s ok
request_as_sane (Installing done) c s is ok = waits_sane c s ok
request_as_sane (Active None) c s is ok = serve_sane (s ∷ c.waiting) c ok.base (rw is at ok.role) ok.legal
request_as_sane (Active (Some holders)) c s is ok = busy_sane c s (find (not_in_flight c.log (Some holders)) s.id) ok

pub request_sane : (c : Daemon) (s : Sealed) → IsSane c → SaneStep (on_request c s)
request_sane c s ok = by_test (list_any (λ w. w.id == s.id) c.waiting) (still c) (on_request_as c.role c s) (λ _. still_sane c ok) (λ _. request_as_sane c.role c s refl ok)

install_sane : (c : Daemon) (log : List Entry) (ms : List ℕ) → c.promise ≡ length c.known → Legal log → SaneStep (install_chosen c log ms)
install_sane c log [] known legal = serve_sane c.waiting (record c { base = c.promise; log = log; role = Active None }) (omega arith) known legal
install_sane c log (m ∷ ms) known legal = record {
  copy = record { base = omega arith; role = known; legal = legal };
  sent = Each-map_all (λ m. BodyIsLegal m.body) (λ m. record { from = Osd c.number; to = Osd m; body = Install c.promise log }) (λ m. legal) (m ∷ ms);
}

try_choice_sane : (c : Daemon) (informed : List PeerInfo) → c.base ≤ c.promise → c.promise ≡ length c.known → Legal c.log → Each (λ i. Legal i.log) informed → SaneStep (try_choice c informed)
try_choice_sane c informed base known legal each = by_test (can_choose c informed) (install_chosen c (best (own_offer c) informed).log (others c)) (still (record c { role = Peering informed }))
    (λ _. install_sane c (best (own_offer c) informed).log (others c) known (best_among (λ i. Legal i.log) (own_offer c) informed legal each))
    (λ _. record { copy = record { base = base; role = (known, each); legal = legal }; sent = tt })

info_as_sane : (r : Role) (c : Daemon) (n : ℕ) (offer : PeerInfo) → c.role ≡ r → IsSane c → Legal offer.log → SaneStep (on_info r c n offer)
info_as_sane (Peering informed) c n offer is ok legal = by_test ((c.promise == n) && not (is_informed c informed offer.number)) (try_choice c (informed ++ offer ∷ [])) (still c)
    (λ _. try_choice_sane c (informed ++ offer ∷ []) ok.base (rw is at ok.role).0 ok.legal (Each-push (λ i. Legal i.log) informed offer (rw is at ok.role).1 legal))
    (λ _. still_sane c ok)
info_as_sane Idle c n offer is ok legal = still_sane c ok
info_as_sane (Installing done) c n offer is ok legal = still_sane c ok
info_as_sane (Active flight) c n offer is ok legal = still_sane c ok

install_comes_sane : (c : Daemon) (from : Party) (n : ℕ) (log : List Entry) → IsSane c → Legal log → SaneStep (on_install c from n log)
install_comes_sane c from n log ok legal = go (nat_lt n c.promise) refl
  where
    go : (b : Bool) → nat_lt n c.promise ≡ b → SaneStep (if b then still c else record { copy = if nat_lt c.base n then record (promise_interval c n) { base = n; log = log } else promise_interval c n; sent = record { from = Osd c.number; to = from; body = Installed n } ∷ [] })
    go true e = still_sane c ok
    go false e = inner (nat_lt c.base n)
      where
        inner : (b : Bool) → SaneStep (record { copy = if b then record (promise_interval c n) { base = n; log = log } else promise_interval c n; sent = record { from = Osd c.number; to = from; body = Installed n } ∷ [] })
        inner true = record { copy = record { base = reach (nat_lt c.promise n) refl; role = (promised_sane c n ok).role; legal = legal }; sent = (tt, tt) }
          where
            reach : (b : Bool) → nat_lt c.promise n ≡ b → n ≤ (if b then record c { promise = n; role = Idle; waiting = [] } else c).promise
            reach true e' = omega arith
            reach false e' = ltb-false c.promise n e'
        inner false = record { copy = promised_sane c n ok; sent = (tt, tt) }

installed_as_sane : (r : Role) (c : Daemon) (n m : ℕ) → c.role ≡ r → IsSane c → SaneStep (on_installed r c n m)
installed_as_sane (Installing done) c n m is ok = by_test (c.promise == n) (if all_count c (counted c done m) then serve c.waiting c else still (record c { role = Installing (counted c done m) })) (still c)
    (λ _. by_test (all_count c (counted c done m)) (serve c.waiting c) (still (record c { role = Installing (counted c done m) }))
    (λ _. serve_sane c.waiting c ok.base (rw is at ok.role) ok.legal)
    (λ _. record { copy = record { base = ok.base; role = rw is at ok.role; legal = ok.legal }; sent = tt }))
    (λ _. still_sane c ok)
installed_as_sane Idle c n m is ok = still_sane c ok
installed_as_sane (Peering informed) c n m is ok = still_sane c ok
installed_as_sane (Active flight) c n m is ok = still_sane c ok

acknowledged_sane : (c : Daemon) (from : Party) (n place : ℕ) → IsSane c → SaneStep (acknowledged c from n place)
acknowledged_sane c from n place ok = by_test (nat_lt (length c.log) place) (still c) (record { copy = c; sent = record { from = Osd c.number; to = from; body = Appended n place } ∷ [] })
    (λ _. still_sane c ok) (λ _. record { copy = ok; sent = (tt, tt) })

append_sane : (c : Daemon) (from : Party) (n place : ℕ) (s : Sealed) → IsSane c → SaneStep (on_append c from n place s)
append_sane c from n place s ok = by_test ((c.promise == n) && (c.base == n))
    (if (length c.log + 1 == place) && not (is_in (ids c.log) s.id) then acknowledged (with_entry c s) from n place else acknowledged c from n place) (still c)
    (λ _. by_test ((length c.log + 1 == place) && not (is_in (ids c.log) s.id)) (acknowledged (with_entry c s) from n place) (acknowledged c from n place)
    (λ next. (let new = not-true (is_in (ids c.log) s.id) (and_parts (length c.log + 1 == place) (not (is_in (ids c.log) s.id)) next).1 in
    acknowledged_sane (with_entry c s) from n place (record { base = ok.base; role = ok.role; legal = Legal-push c.log s ok.legal new })))
    (λ _. acknowledged_sane c from n place ok))
    (λ _. still_sane c ok)

complete_sane : (c : Daemon) (e : Option Entry) → c.base ≤ c.promise → c.promise ≡ length c.known → Legal c.log → SaneStep (complete c e)
complete_sane c None base known legal = serve_sane c.waiting c base known legal
complete_sane c (Some e) base known legal = let after = serve_sane c.waiting c base known legal in record { copy = after.copy; sent = (tt, after.sent) }

appended_as_sane : (r : Role) (c : Daemon) (n place m : ℕ) → c.role ≡ r → IsSane c → SaneStep (on_appended r c n place m)
appended_as_sane (Active (Some holders)) c n place m is ok = by_test ((c.promise == n) && (place == length c.log))
    (if all_count c (counted c holders m) then complete c (last c.log) else still (record c { role = Active (Some (counted c holders m)) })) (still c)
    (λ _. by_test (all_count c (counted c holders m)) (complete c (last c.log)) (still (record c { role = Active (Some (counted c holders m)) }))
    (λ _. complete_sane c (last c.log) ok.base (rw is at ok.role) ok.legal)
    (λ _. record { copy = record { base = ok.base; role = rw is at ok.role; legal = ok.legal }; sent = tt }))
    (λ _. still_sane c ok)
appended_as_sane (Active None) c n place m is ok = still_sane c ok
appended_as_sane Idle c n place m is ok = still_sane c ok
appended_as_sane (Peering informed) c n place m is ok = still_sane c ok
appended_as_sane (Installing done) c n place m is ok = still_sane c ok

interval_sane : (c : Daemon) (sets : List (List ℕ)) → IsSane c → SaneStep (on_interval c sets)
interval_sane c sets ok = by_test (nat_lt (length c.known) (length sets)) (if leads c sets then lead (record (learn_sets c sets) { promise = length sets }) else still (learn_sets c sets)) (still c)
    (λ _. by_test (leads c sets) (lead (record (learn_sets c sets) { promise = length sets })) (still (learn_sets c sets))
    (λ leads'. (
    let newer = ltb-true c.promise (length sets) (and_parts (not (nat_lt (length (set_of sets (length sets))) c.min_size) && is_primary (set_of sets (length sets)) c.number) (nat_lt c.promise (length sets)) leads').1 in
    let next = try_choice_sane (record (learn_sets c sets) { promise = length sets }) [] (omega (arith, ok.base, newer)) refl ok.legal tt in
    record {
      copy = next.copy;
      sent = Each-append (λ m. BodyIsLegal m.body) (queries (record (learn_sets c sets) { promise = length sets })) (try_choice (record (learn_sets c sets) { promise = length sets }) []).sent
          (Each-map_all (λ m. BodyIsLegal m.body) (λ d. record { from = Osd c.number; to = Osd d; body = Query (length sets) }) (λ d. tt) (asked (record (learn_sets c sets) { promise = length sets }))) next.sent;
    }))
    (λ _. record { copy = record { base = ok.base; role = tt; legal = ok.legal }; sent = tt }))
    (λ _. still_sane c ok)

pub comes_sane : (b : Body) (c : Daemon) (from : Party) → IsSane c → BodyIsLegal b → SaneStep (on_body b c from)
comes_sane (Interval sets) c from ok legal = interval_sane c sets ok
comes_sane (Query n) c from ok legal = query_sane c from n ok
comes_sane (Info n base log) c (Osd m) ok legal = info_as_sane c.role c n (record { number = m; base = base; log = log }) refl ok legal
comes_sane (Info n base log) c Client ok legal = still_sane c ok
comes_sane (Install n log) c from ok legal = install_comes_sane c from n log ok legal
comes_sane (Installed n) c (Osd m) ok legal = installed_as_sane c.role c n m refl ok
comes_sane (Installed n) c Client ok legal = still_sane c ok
comes_sane (Append n place s) c from ok legal = append_sane c from n place s ok
comes_sane (Appended n place) c (Osd m) ok legal = appended_as_sane c.role c n place m refl ok
comes_sane (Appended n place) c Client ok legal = still_sane c ok
comes_sane (Request s) c from ok legal = request_sane c s ok
comes_sane (Reply id reply) c from ok legal = still_sane c ok
comes_sane (NotHere id) c from ok legal = still_sane c ok

pub copy_step_sane : (c : Daemon) (m : Message) → IsSane c → BodyIsLegal m.body → SaneStep (copy_step c m)
copy_step_sane c m ok legal = comes_sane m.body c m.from ok legal

append_again_legal : (c : Daemon) (e : Option Entry) (ms : List ℕ) → Each (λ m. BodyIsLegal m.body) (append_again c e ms)
append_again_legal c None ms = tt
append_again_legal c (Some e) ms = Each-map_all (λ m. BodyIsLegal m.body) (λ m. record { from = Osd c.number; to = Osd m; body = Append c.promise (length c.log) e.sealed }) (λ m. tt) ms

kicked_as_legal : (r : Role) (c : Daemon) → IsSane c → Each (λ m. BodyIsLegal m.body) (retransmit_as r c)
kicked_as_legal Idle c ok = tt
kicked_as_legal (Peering informed) c ok = Each-map_all (λ m. BodyIsLegal m.body) (λ d. record { from = Osd c.number; to = Osd d; body = Query c.promise }) (λ d. tt) (filter (λ d. not (is_informed c informed d)) (asked c))
kicked_as_legal (Installing done) c ok = Each-map_all (λ m. BodyIsLegal m.body) (λ m. record { from = Osd c.number; to = Osd m; body = Install c.promise c.log }) (λ m. ok.legal) (filter (λ m. not (is_in done m)) (others c))
kicked_as_legal (Active None) c ok = tt
kicked_as_legal (Active (Some holders)) c ok = append_again_legal c (last c.log) (filter (λ m. not (is_in holders m)) (others c))

pub kicked_legal : (c : Daemon) → IsSane c → Each (λ m. BodyIsLegal m.body) (retransmit c)
kicked_legal c ok = kicked_as_legal c.role c ok
