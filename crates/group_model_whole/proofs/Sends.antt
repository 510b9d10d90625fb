-- How many messages one step of a copy sends.
use Rattle.std.proofs.Common.{ℕ, ◌≡◌, ◌+◌, ◌≤◌, Bool, true, false, not, ◌==◌, ◌&&◌, nat_lt, List, [], ◌∷◌, ◌++◌, length, arith, length-append, refl, if◌then◌else◌}
use Rattle.std.specs.Prelude.{Option, Some, None, slice_get}
use Rattle.std.specs.List.{list_any}
use Rattle.std.proofs.Math.ListN.{length-map}
use Rattle.entry_core.specs.Log.{find, is_in, ids}
use Rattle.store_core.specs.Request.{Sealed}
use Rattle.store_core.specs.declared.entry.Entry.{Entry}
use Rattle.group_model_whole.specs.Steps.{Stepped, still, send}
use Rattle.group_model_whole.specs.Copy.{promise_interval, on_request_as, busy_request, waits, on_append, acknowledged, complete, on_appended, learn_sets, leads, lead, on_interval, queries, on_installed, on_body, copy_step, install_chosen, try_choice, on_info}
use Rattle.group_model_whole.specs.ActingSets.{others, all_count, set_of, asked, is_asked, daemons, counted}
use Rattle.group_model_whole.specs.Serve.{serve, serve_one, push_new}
use Rattle.group_model_whole.specs.Choice.{can_choose, best, own_offer, is_informed}
use Rattle.group_model_whole.specs.Decided.{with_entry, not_in_flight, last}
use Rattle.group_model_whole.specs.Group.{Group}
use Rattle.group_model_whole.specs.Types.{PeerInfo, Role, Idle, Peering, Installing, Active, Daemon, Body, Interval, Query, Info, Install, Installed, Append, Appended, Request, Reply, NotHere, Party, Osd, Client, Sent}
use Rattle.group_model_whole.proofs.Eaches.{Each-get}
use Rattle.group_model_whole.proofs.Groups.{Good}
use Rattle.group_model_whole.proofs.Invariant.{SentOk}
use Rattle.group_model_whole.proofs.Settles.{Bounded, Few, SetFits, few_as, body_fits, filter-short, leads_few}

abbrev Sends : ℕ → Stepped → Type 0
Sends most s = length s.sent ≤ most

either : (most : ℕ) (b : Bool) (x y : Stepped) → Sends most x → Sends most y → Sends most (if b then x else y)
either most true x y p q = p
either most false x y p q = q

-- one for each request that waits, until one is in flight and goes to the others
serve_sends : (waiting : List Sealed) (c : Daemon) → length (others c) ≤ 4 → Sends (length waiting + 4) (serve waiting c)
serve_sends [] c few = omega arith
serve_sends (s ∷ rest) c few = one (find c.log s.id) (serve rest c) (serve rest (with_entry c s)) (serve_sends rest c few) (serve_sends rest (with_entry c s) few)
  where
    new : (ms : List ℕ) (after : Stepped) → Sends (length rest + 4) after → Sends (length (s ∷ rest) + 4) (push_new ms c s rest after)
    new [] after a = omega (arith, a)
    new (m ∷ ms) after a = omega (arith, length-map (others c) (λ d. send c (Osd d) (Append c.promise (length c.log + 1) s)), few)

    one : (found : Option Entry) (after pushed : Stepped) → Sends (length rest + 4) after → Sends (length rest + 4) pushed → Sends (length (s ∷ rest) + 4) (serve_one found c s rest after pushed)
    one (Some e) after pushed a p = omega (arith, a)
    one None after pushed a p = new (others c) pushed p

complete_sends : (c : Daemon) (e : Option Entry) → length (others c) ≤ 4 → Sends (length c.waiting + 5) (complete c e)
complete_sends c None few = omega (arith, serve_sends c.waiting c few)
complete_sends c (Some e) few = omega (arith, serve_sends c.waiting c few)

busy_sends : (c : Daemon) (s : Sealed) (found : Option Entry) → Sends 1 (busy_request c s found)
busy_sends c s (Some e) = omega arith
busy_sends c s None = either 1 (is_in (ids c.log) s.id) (still c) (waits c s) (omega arith) (omega arith)

request_sends : (r : Role) (c : Daemon) (s : Sealed) → Few r c → Sends (length c.waiting + 5) (on_request_as r c s)
request_sends Idle c s few = omega arith
request_sends (Peering informed) c s few = omega arith
request_sends (Installing done) c s few = omega arith
request_sends (Active None) c s few = (let n = serve_sends (s ∷ c.waiting) c few in omega arith)
request_sends (Active (Some holders)) c s few = (let n = busy_sends c s (find (not_in_flight c.log (Some holders)) s.id) in omega arith)

install_sends : (c : Daemon) (log : List Entry) (ms : List ℕ) → length ms ≤ 4 → length (others c) ≤ 4 → Sends (length c.waiting + 4) (install_chosen c log ms)
install_sends c log [] fits few = serve_sends c.waiting (record c { base = c.promise; log = log; role = Active None }) few
install_sends c log (m ∷ ms) fits few = (let n = length-map (m ∷ ms) (λ d. send c (Osd d) (Install c.promise log)) in omega arith)

try_choice_sends : (c : Daemon) (informed : List PeerInfo) → length (others c) ≤ 4 → Sends (length c.waiting + 4) (try_choice c informed)
try_choice_sends c informed few =
    either (length c.waiting + 4) (can_choose c informed) (install_chosen c (best (own_offer c) informed).log (others c)) (still (record c { role = Peering informed })) (install_sends c (best (own_offer c) informed).log (others c) few few) (omega arith)

-- a query to each daemon
lead_sends : (c : Daemon) → length (others c) ≤ 4 → Sends (length c.waiting + 20) (lead c)
lead_sends c few =
    let chosen = try_choice_sends c [] few in
    let asks : length (asked c) ≤ 16 = filter-short (λ d. is_asked c d) daemons in
    let query = length-map (asked c) (λ d. send c (Osd d) (Query c.promise)) in
    let joined = length-append (queries c) (try_choice c []).sent in
    omega arith

interval_sends : (c : Daemon) (sets : List (List ℕ)) → length (set_of sets (length sets)) ≤ 5 → Sends 20 (on_interval c sets)
interval_sends c sets fits = either 20 (nat_lt (length c.known) (length sets)) (if leads c sets then lead (record (learn_sets c sets) { promise = length sets }) else still (learn_sets c sets)) (still c)
    (go (leads c sets) refl) (omega arith)
  where
    go : (b : Bool) → leads c sets ≡ b → Sends 20 (if b then lead (record (learn_sets c sets) { promise = length sets }) else still (learn_sets c sets))
    go true e = (let few = leads_few c sets fits e in let n = lead_sends (record (learn_sets c sets) { promise = length sets }) few in omega arith)
    go false e = omega arith

info_sends : (r : Role) (c : Daemon) (n : ℕ) (offer : PeerInfo) → Few r c → Sends (length c.waiting + 4) (on_info r c n offer)
info_sends (Peering informed) c n offer few = either (length c.waiting + 4) ((c.promise == n) && not (is_informed c informed offer.number)) (try_choice c (informed ++ offer ∷ [])) (still c) (try_choice_sends c (informed ++ offer ∷ []) few) (omega arith)
info_sends Idle c n offer few = omega arith
info_sends (Installing done) c n offer few = omega arith
info_sends (Active flight) c n offer few = omega arith

installed_sends : (r : Role) (c : Daemon) (n m : ℕ) → Few r c → Sends (length c.waiting + 4) (on_installed r c n m)
installed_sends (Installing done) c n m few =
    either (length c.waiting + 4) (c.promise == n) (if all_count c (counted c done m) then serve c.waiting c else still (record c { role = Installing (counted c done m) })) (still c)
    (either (length c.waiting + 4) (all_count c (counted c done m)) (serve c.waiting c) (still (record c { role = Installing (counted c done m) })) (serve_sends c.waiting c few) (omega arith)) (omega arith)
installed_sends Idle c n m few = omega arith
installed_sends (Peering informed) c n m few = omega arith
installed_sends (Active flight) c n m few = omega arith

acknowledged_sends : (c : Daemon) (from : Party) (n place : ℕ) → Sends 1 (acknowledged c from n place)
acknowledged_sends c from n place = either 1 (nat_lt (length c.log) place) (still c) (record { copy = c; sent = send c from (Appended n place) ∷ [] }) (omega arith) (omega arith)

append_sends : (c : Daemon) (from : Party) (n place : ℕ) (s : Sealed) → Sends 1 (on_append c from n place s)
append_sends c from n place s = either 1 ((c.promise == n) && (c.base == n))
    (if (length c.log + 1 == place) && not (is_in (ids c.log) s.id) then acknowledged (with_entry c s) from n place else acknowledged c from n place) (still c)
    (either 1 ((length c.log + 1 == place) && not (is_in (ids c.log) s.id)) (acknowledged (with_entry c s) from n place) (acknowledged c from n place) (acknowledged_sends (with_entry c s) from n place) (acknowledged_sends c from n place))
    (omega arith)

appended_sends : (r : Role) (c : Daemon) (n place m : ℕ) → Few r c → Sends (length c.waiting + 5) (on_appended r c n place m)
appended_sends (Active (Some holders)) c n place m few =
    either (length c.waiting + 5) ((c.promise == n) && (place == length c.log))
    (if all_count c (counted c holders m) then complete c (last c.log) else still (record c { role = Active (Some (counted c holders m)) })) (still c)
    (either (length c.waiting + 5) (all_count c (counted c holders m)) (complete c (last c.log)) (still (record c { role = Active (Some (counted c holders m)) })) (complete_sends c (last c.log) few) (omega arith))
    (omega arith)
appended_sends (Active None) c n place m few = omega arith
appended_sends Idle c n place m few = omega arith
appended_sends (Peering informed) c n place m few = omega arith
appended_sends (Installing done) c n place m few = omega arith

comes_sends : (b : Body) (c : Daemon) (from : Party) → Few c.role c → SetFits b → Sends (length c.waiting + 20) (on_body b c from)
comes_sends (Interval sets) c from few fits = (let n = interval_sends c sets fits in omega arith)
comes_sends (Query n) c from few fits = either (length c.waiting + 20) (nat_lt n c.promise) (still c) (record { copy = promise_interval c n; sent = send c from (Info n c.base c.log) ∷ [] }) (omega arith) (omega arith)
comes_sends (Info n base log) c (Osd m) few fits = (let k = info_sends c.role c n (record { number = m; base = base; log = log }) few in omega arith)
comes_sends (Info n base log) c Client few fits = omega arith
comes_sends (Install n log) c from few fits = either (length c.waiting + 20) (nat_lt n c.promise) (still c)
    (record { copy = if nat_lt c.base n then record (promise_interval c n) { base = n; log = log } else promise_interval c n; sent = send c from (Installed n) ∷ [] }) (omega arith) (omega arith)
comes_sends (Installed n) c (Osd m) few fits = (let k = installed_sends c.role c n m few in omega arith)
comes_sends (Installed n) c Client few fits = omega arith
comes_sends (Append n place s) c from few fits = (let k = append_sends c from n place s in omega arith)
comes_sends (Appended n place) c (Osd m) few fits = (let k = appended_sends c.role c n place m few in omega arith)
comes_sends (Appended n place) c Client few fits = omega arith
comes_sends (Request s) c from few fits = either (length c.waiting + 20) (list_any (λ w. w.id == s.id) c.waiting) (still c) (on_request_as c.role c s) (omega arith) (let k = request_sends c.role c s few in omega arith)
comes_sends (Reply id reply) c from few fits = omega arith
comes_sends (NotHere id) c from few fits = omega arith

-- a step sends at most 20 messages more than requests wait
pub sent_few : (g : Group) → Bounded g → (k d : ℕ) (m : Sent) (c : Daemon) → slice_get g.wire k ≡ Some m → slice_get g.copies d ≡ Some c →
    length (copy_step c (record { from = m.from; body = m.body })).sent ≤ length c.waiting + 20
sent_few g ok k d m c here found =
    let good : Good g = ok.good in
    let copy = good.copies d c found in
    let of_sent = Each-get (SentOk g.sets good.promise good.h) g.wire k m good.wire here in
    comes_sends m.body c m.from (few_as g.min_size g.sets good.promise good.h d c c.role copy.state copy.role ok.sets) (body_fits g.sets good.promise good.h m.from m.body of_sent ok.sets)
