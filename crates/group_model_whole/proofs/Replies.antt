-- Each reply that a copy sends is that of an entry which it then shows to be decided.
use Rattle.std.proofs.Common.{ℕ, ◌≡◌, ◌+◌, ◌-◌, Bool, true, false, not, ◌==◌, ◌||◌, ◌&&◌, nat_lt, List, [], ◌∷◌, ◌++◌, length, take, refl, sym, ◌∙◌, ap, subst, arith, length-append, if◌then◌else◌}
use Rattle.std.specs.Prelude.{Option, Some, None}
use Rattle.std.specs.List.{list_any, filter}
use Rattle.std.proofs.Math.Seq.{take-append_seam}
use Rattle.std.proofs.lemmas.Bool.{eqb-true, eq-eqb}
use Rattle.entry_core.specs.Log.{decide, decide-sealed, find, is_in, ids, Legal}
use Rattle.store_core.specs.Request.{Sealed}
use Rattle.store_core.specs.declared.entry.Entry.{Entry}
use Rattle.group_model_whole.specs.Steps.{Stepped, still, send}
use Rattle.group_model_whole.specs.Copy.{promise_interval, on_request, on_request_as, busy_request, waits, on_query, learn_sets, leads, lead, on_interval, on_append, acknowledged, queries, retransmit, retransmit_as, append_again, complete, on_installed, on_appended, on_install, on_body, install_chosen, try_choice, on_info}
use Rattle.group_model_whole.specs.ActingSets.{others, asked, all_count, counted}
use Rattle.group_model_whole.specs.Serve.{serve, push_new, serve_one}
use Rattle.group_model_whole.specs.Decided.{not_in_flight, with_entry, last, decided_by}
use Rattle.group_model_whole.specs.Choice.{can_choose, best, own_offer, is_informed}
use Rattle.group_model_whole.specs.Types.{PeerInfo, Role, Idle, Peering, Installing, Active, Daemon, Body, Interval, Query, Info, Install, Installed, Append, Appended, Request, Reply, NotHere, Party, Osd, Client, EntryReply}
use Rattle.group_model_whole.specs.Each.{Each}
use Rattle.group_model_whole.specs.History.{Begins}
use Rattle.group_model_whole.specs.Asked.{IsReplied, InReply}
use Rattle.group_model_whole.proofs.Eaches.{Each-append, Each-map_all}
use Rattle.group_model_whole.proofs.Prefixes.{Begins-trans, Begins-push, Begins-refl}
use Rattle.group_model_whole.proofs.Audits.{legal_rest}
use Rattle.group_model_whole.proofs.Groups.{last_is}

-- finding an entry by its number

find-append : (xs ys : List Entry) (id : ℕ) (e : Entry) → find xs id ≡ Some e → find (xs ++ ys) id ≡ Some e
find-append [] ys id e is = absurd (cc)
find-append (x ∷ xs) ys id e is = go (x.sealed.id == id) is (find-append xs ys id e)
  where
    go : (b : Bool) → (if b then Some x else find xs id) ≡ Some e → (find xs id ≡ Some e → find (xs ++ ys) id ≡ Some e) → (if b then Some x else find (xs ++ ys) id) ≡ Some e
    go true here rest = here
    go false there rest = rest there

pub find-id : (xs : List Entry) (id : ℕ) (e : Entry) → find xs id ≡ Some e → e.sealed.id ≡ id
find-id [] id e is = absurd (cc)
find-id (x ∷ xs) id e is = go (x.sealed.id == id) refl is (find-id xs id e)
  where
    go : (b : Bool) → (x.sealed.id == id) ≡ b → (if b then Some x else find xs id) ≡ Some e → (find xs id ≡ Some e → e.sealed.id ≡ id) → e.sealed.id ≡ id
    go true same here rest = (let it : x ≡ e = cc in subst (λ v. v.sealed.id ≡ id) it (eqb-true x.sealed.id id same))
    go false other there rest = rest there

find-push : (xs : List Entry) (e : Entry) → find xs e.sealed.id ≡ None → find (xs ++ e ∷ []) e.sealed.id ≡ Some e
find-push [] e is = rw (eq-eqb e.sealed.id e.sealed.id refl) refl
find-push (x ∷ xs) e is = go (x.sealed.id == e.sealed.id) is (find-push xs e)
  where
    go : (b : Bool) → (if b then Some x else find xs e.sealed.id) ≡ None → (find xs e.sealed.id ≡ None → find (xs ++ e ∷ []) e.sealed.id ≡ Some e) → (if b then Some x else find (xs ++ e ∷ []) e.sealed.id) ≡ Some e
    go true bad rest = absurd (cc)
    go false none rest = rest none

not_found : (xs : List Entry) (id : ℕ) → is_in (ids xs) id ≡ false → find xs id ≡ None
not_found [] id new = refl
not_found (x ∷ xs) id new = go (x.sealed.id == id) new (not_found xs id)
  where
    go : (b : Bool) → (b || is_in (ids xs) id) ≡ false → (is_in (ids xs) id ≡ false → find xs id ≡ None) → (if b then Some x else find xs id) ≡ None
    go true bad rest = absurd (cc)
    go false new rest = rest new

-- the last entry of a legal log is found by its number
last_found : (log : List Entry) (e : Entry) → Legal log → last log ≡ Some e → find log e.sealed.id ≡ Some e
last_found log e legal is =
    let l = last_is log e is in
    let rest = legal_rest [] l.front (e ∷ []) (subst (λ v. Legal v) (sym l.whole) legal) in
    subst (λ v. find v e.sealed.id ≡ Some e) l.whole (find-push l.front e (not_found l.front e.sealed.id rest.0))

pub IsReplied-longer : {xs ys : List Entry} → Begins xs ys → (id : ℕ) (reply : EntryReply) → IsReplied xs id reply → IsReplied ys id reply
IsReplied-longer {xs} {ys} b id reply r = record { entry = r.entry; found = subst (λ l. find l id ≡ Some r.entry) b.whole (find-append xs b.rest id r.entry r.found); is = r.is }

pub InReply-longer : {xs ys : List Entry} → Begins xs ys → (b : Body) → InReply xs b → InReply ys b
InReply-longer begins (Interval sets) ok = tt
InReply-longer begins (Query n) ok = tt
InReply-longer begins (Info n base log) ok = tt
InReply-longer begins (Install n log) ok = tt
InReply-longer begins (Installed n) ok = tt
InReply-longer begins (Append n place s) ok = tt
InReply-longer begins (Appended n place) ok = tt
InReply-longer begins (Request s) ok = tt
InReply-longer begins (Reply id reply) ok = IsReplied-longer begins id reply ok
InReply-longer begins (NotHere id) ok = tt

found_replied : (log : List Entry) (id : ℕ) (e : Entry) → find log id ≡ Some e → IsReplied log e.sealed.id e.reply
found_replied log id e is = record { entry = e; found = subst (λ v. find log v ≡ Some e) (sym (find-id log id e is)) is; is = refl }

-- what a copy shows to be decided after a step
abbrev shown : Stepped → List Entry
shown s = decided_by s.copy.role s.copy.log

abbrev pub Replies : Stepped → Type 0
Replies s = Each (λ m. InReply (decided_by s.copy.role s.copy.log) m.body) s.sent

by_test : (b : Bool) (x y : Stepped) → Replies x → Replies y → Replies (if b then x else y)
by_test true x y p q = p
by_test false x y p q = q

-- an active copy shows the log that it had
record Serves (log : List Entry) (s : Stepped) : Type 0 where
  begins : Begins log (shown s)
  replies : Replies s

serve_one_replies : (found : Option Entry) (c : Daemon) (s : Sealed) (rest : List Sealed) (after pushed : Stepped) → find c.log s.id ≡ found → Serves c.log after → Serves (with_entry c s).log pushed →
    Serves c.log (serve_one found c s rest after pushed)
serve_one_replies (Some e) c s rest after pushed is a p = record { begins = a.begins; replies = (IsReplied-longer a.begins e.sealed.id e.reply (found_replied c.log s.id e is), a.replies) }
serve_one_replies None c s rest after pushed is a p = go (others c)
  where
    absent_here : find c.log (decide c.log s).sealed.id ≡ None
    absent_here = subst (λ (v : Sealed). find c.log v.id ≡ None) (sym (decide-sealed c.log s)) is

    new : IsReplied (with_entry c s).log (decide c.log s).sealed.id (decide c.log s).reply
    new = record { entry = decide c.log s; found = find-push c.log (decide c.log s) absent_here; is = refl }

    go : (ms : List ℕ) → Serves c.log (push_new ms c s rest pushed)
    go [] = record { begins = Begins-trans (Begins-push c.log (decide c.log s)) p.begins; replies = (IsReplied-longer p.begins (decide c.log s).sealed.id (decide c.log s).reply new, p.replies) }
    go (m ∷ ms) =
        let long : length (c.log ++ decide c.log s ∷ []) - 1 ≡ length c.log = omega (arith, length-append c.log (decide c.log s ∷ [])) in
        let same : take (length (c.log ++ decide c.log s ∷ []) - 1) (c.log ++ decide c.log s ∷ []) ≡ c.log = ap (λ k. take k (c.log ++ decide c.log s ∷ [])) long ∙ take-append_seam c.log (decide c.log s ∷ []) in
        record {
          begins = subst (λ l. Begins c.log l) (sym same) (Begins-refl c.log);
          replies = Each-map_all (λ i. InReply (take (length (c.log ++ decide c.log s ∷ []) - 1) (c.log ++ decide c.log s ∷ [])) i.body) (λ i. send c (Osd i) (Append c.promise (length c.log + 1) s)) (λ i. tt) (others c);
        }

serve_replies : (waiting : List Sealed) (c : Daemon) → Serves c.log (serve waiting c)
serve_replies [] c = record { begins = Begins-refl c.log; replies = tt }
serve_replies (s ∷ rest) c = serve_one_replies (find c.log s.id) c s rest (serve rest c) (serve rest (with_entry c s)) refl (serve_replies rest c) (serve_replies rest (with_entry c s))

busy_replies : (c : Daemon) (s : Sealed) (holders : List ℕ) (found : Option Entry) → c.role ≡ Active (Some holders) → find (not_in_flight c.log (Some holders)) s.id ≡ found → Replies (busy_request c s found)
busy_replies c s holders (Some e) role is = (subst (λ r. IsReplied (decided_by r c.log) e.sealed.id e.reply) (sym role) (found_replied (not_in_flight c.log (Some holders)) s.id e is), tt)
busy_replies c s holders None role is = by_test (is_in (ids c.log) s.id) (still c) (waits c s) tt tt

request_as_replies : (r : Role) (c : Daemon) (s : Sealed) → c.role ≡ r → Replies (on_request_as r c s)
request_as_replies Idle c s is = (tt, tt)
request_as_replies (Peering informed) c s is = tt
request_as_replies (Installing done) c s is = tt
request_as_replies (Active None) c s is = (serve_replies (s ∷ c.waiting) c).replies
request_as_replies (Active (Some holders)) c s is = busy_replies c s holders (find (not_in_flight c.log (Some holders)) s.id) is refl

request_replies : (c : Daemon) (s : Sealed) → Replies (on_request c s)
request_replies c s = by_test (list_any (λ w. w.id == s.id) c.waiting) (still c) (on_request_as c.role c s) tt (request_as_replies c.role c s refl)

install_replies : (c : Daemon) (log : List Entry) (ms : List ℕ) → Replies (install_chosen c log ms)
install_replies c log [] = (serve_replies c.waiting (record c { base = c.promise; log = log; role = Active None })).replies
install_replies c log (m ∷ ms) = Each-map_all (λ i. InReply [] i.body) (λ i. send c (Osd i) (Install c.promise log)) (λ i. tt) (m ∷ ms)

try_choice_replies : (c : Daemon) (informed : List PeerInfo) → Replies (try_choice c informed)
try_choice_replies c informed = by_test (can_choose c informed) (install_chosen c (best (own_offer c) informed).log (others c)) (still (record c { role = Peering informed }))
    (install_replies c (best (own_offer c) informed).log (others c)) tt

info_as_replies : (r : Role) (c : Daemon) (n : ℕ) (offer : PeerInfo) → Replies (on_info r c n offer)
info_as_replies (Peering informed) c n offer = by_test ((c.promise == n) && not (is_informed c informed offer.number)) (try_choice c (informed ++ offer ∷ [])) (still c) (try_choice_replies c (informed ++ offer ∷ [])) tt
info_as_replies Idle c n offer = tt
info_as_replies (Installing done) c n offer = tt
info_as_replies (Active flight) c n offer = tt

query_replies : (c : Daemon) (from : Party) (n : ℕ) → Replies (on_query c from n)
query_replies c from n = by_test (nat_lt n c.promise) (still c) (record { copy = promise_interval c n; sent = send c from (Info n c.base c.log) ∷ [] }) tt (tt, tt)

install_comes_replies : (c : Daemon) (from : Party) (n : ℕ) (log : List Entry) → Replies (on_install c from n log)
install_comes_replies c from n log = by_test (nat_lt n c.promise) (still c)
    (record { copy = if nat_lt c.base n then record (promise_interval c n) { base = n; log = log } else promise_interval c n; sent = send c from (Installed n) ∷ [] }) tt (tt, tt)

installed_as_replies : (r : Role) (c : Daemon) (n m : ℕ) → Replies (on_installed r c n m)
installed_as_replies (Installing done) c n m = by_test (c.promise == n) (if all_count c (counted c done m) then serve c.waiting c else still (record c { role = Installing (counted c done m) })) (still c)
    (by_test (all_count c (counted c done m)) (serve c.waiting c) (still (record c { role = Installing (counted c done m) })) (serve_replies c.waiting c).replies tt) tt
installed_as_replies Idle c n m = tt
installed_as_replies (Peering informed) c n m = tt
installed_as_replies (Active flight) c n m = tt

acknowledged_replies : (c : Daemon) (from : Party) (n place : ℕ) → Replies (acknowledged c from n place)
acknowledged_replies c from n place = by_test (nat_lt (length c.log) place) (still c) (record { copy = c; sent = send c from (Appended n place) ∷ [] }) tt (tt, tt)

append_replies : (c : Daemon) (from : Party) (n place : ℕ) (s : Sealed) → Replies (on_append c from n place s)
append_replies c from n place s = by_test ((c.promise == n) && (c.base == n))
    (if (length c.log + 1 == place) && not (is_in (ids c.log) s.id) then acknowledged (with_entry c s) from n place else acknowledged c from n place) (still c)
    (by_test ((length c.log + 1 == place) && not (is_in (ids c.log) s.id)) (acknowledged (with_entry c s) from n place) (acknowledged c from n place)
    (acknowledged_replies (with_entry c s) from n place) (acknowledged_replies c from n place)) tt

complete_replies : (c : Daemon) (e : Option Entry) → Legal c.log → last c.log ≡ e → Replies (complete c e)
complete_replies c None legal is = (serve_replies c.waiting c).replies
complete_replies c (Some e) legal is =
    let after = serve_replies c.waiting c in
    (IsReplied-longer after.begins e.sealed.id e.reply (record { entry = e; found = last_found c.log e legal is; is = refl }), after.replies)

appended_as_replies : (r : Role) (c : Daemon) (n place m : ℕ) → Legal c.log → Replies (on_appended r c n place m)
appended_as_replies (Active (Some holders)) c n place m legal = by_test ((c.promise == n) && (place == length c.log))
    (if all_count c (counted c holders m) then complete c (last c.log) else still (record c { role = Active (Some (counted c holders m)) })) (still c)
    (by_test (all_count c (counted c holders m)) (complete c (last c.log)) (still (record c { role = Active (Some (counted c holders m)) })) (complete_replies c (last c.log) legal refl) tt) tt
appended_as_replies (Active None) c n place m legal = tt
appended_as_replies Idle c n place m legal = tt
appended_as_replies (Peering informed) c n place m legal = tt
appended_as_replies (Installing done) c n place m legal = tt

interval_replies : (c : Daemon) (sets : List (List ℕ)) → Replies (on_interval c sets)
interval_replies c sets =
    let c' : Daemon = record (learn_sets c sets) { promise = length sets } in
    by_test (nat_lt (length c.known) (length sets)) (if leads c sets then lead (record (learn_sets c sets) { promise = length sets }) else still (learn_sets c sets)) (still c)
    (by_test (leads c sets) (lead (record (learn_sets c sets) { promise = length sets })) (still (learn_sets c sets))
    (Each-append (λ m. InReply (shown (try_choice (record (learn_sets c sets) { promise = length sets }) [])) m.body) (queries (record (learn_sets c sets) { promise = length sets })) (try_choice (record (learn_sets c sets) { promise = length sets }) []).sent
    (Each-map_all (λ m. InReply (shown (try_choice (record (learn_sets c sets) { promise = length sets }) [])) m.body) (λ d. send c (Osd d) (Query (length sets))) (λ d. tt) (asked (record (learn_sets c sets) { promise = length sets })))
    (try_choice_replies (record (learn_sets c sets) { promise = length sets }) []))
    tt) tt

pub comes_replies : (b : Body) (c : Daemon) (from : Party) → Legal c.log → Replies (on_body b c from)
comes_replies (Interval sets) c from legal = interval_replies c sets
comes_replies (Query n) c from legal = query_replies c from n
comes_replies (Info n base log) c (Osd m) legal = info_as_replies c.role c n (record { number = m; base = base; log = log })
comes_replies (Info n base log) c Client legal = tt
comes_replies (Install n log) c from legal = install_comes_replies c from n log
comes_replies (Installed n) c (Osd m) legal = installed_as_replies c.role c n m
comes_replies (Installed n) c Client legal = tt
comes_replies (Append n place s) c from legal = append_replies c from n place s
comes_replies (Appended n place) c (Osd m) legal = appended_as_replies c.role c n place m legal
comes_replies (Appended n place) c Client legal = tt
comes_replies (Request s) c from legal = request_replies c s
comes_replies (Reply id reply) c from legal = tt
comes_replies (NotHere id) c from legal = tt

append_again_replies : (c : Daemon) (e : Option Entry) (ms : List ℕ) (es : List Entry) → Each (λ m. InReply es m.body) (append_again c e ms)
append_again_replies c None ms es = tt
append_again_replies c (Some e) ms es = Each-map_all (λ m. InReply es m.body) (λ m. send c (Osd m) (Append c.promise (length c.log) e.sealed)) (λ m. tt) ms

kicked_as_replies : (r : Role) (c : Daemon) (es : List Entry) → Each (λ m. InReply es m.body) (retransmit_as r c)
kicked_as_replies Idle c es = tt
kicked_as_replies (Peering informed) c es = Each-map_all (λ m. InReply es m.body) (λ d. send c (Osd d) (Query c.promise)) (λ d. tt) (filter (λ d. not (is_informed c informed d)) (asked c))
kicked_as_replies (Installing done) c es = Each-map_all (λ m. InReply es m.body) (λ m. send c (Osd m) (Install c.promise c.log)) (λ m. tt) (filter (λ m. not (is_in done m)) (others c))
kicked_as_replies (Active None) c es = tt
kicked_as_replies (Active (Some holders)) c es = append_again_replies c (last c.log) (filter (λ m. not (is_in holders m)) (others c)) es

pub kicked_replies : (c : Daemon) (es : List Entry) → Each (λ m. InReply es m.body) (retransmit c)
kicked_replies c es = kicked_as_replies c.role c es
