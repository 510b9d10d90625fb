-- Every delivery lowers the budget of a group, so that settling ends.
use Rattle.std.proofs.Common.{ℕ, zero, suc, ◌≡◌, ◌+◌, ◌-◌, ◌*◌, ◌≤◌, ◌<◌, Bool, true, false, not, ◌==◌, ◌||◌, ◌&&◌, nat_lt, List, [], ◌∷◌, ◌++◌, map, length, take, refl, sym, ◌∙◌, ap, subst, arith, inl, inr, if◌then◌else◌}
use Rattle.std.specs.Prelude.{Option, Some, None, slice_get, slice_set}
use Rattle.std.specs.List.{list_any, filter, remove}
use Rattle.std.proofs.Math.ListN.{length-map}
use Rattle.std.proofs.lemmas.Bool.{cases_eq, eq-eqb, and_parts}
use Rattle.entry_core.specs.Log.{is_in}
use Rattle.store_core.specs.Request.{Sealed}
use Rattle.store_core.specs.declared.entry.Entry.{Entry}
use Rattle.group_model_whole.specs.Steps.{Stepped, still, send, blank, restarted}
use Rattle.group_model_whole.specs.Copy.{promise_interval, on_request_as, learn_sets, leads, lead, on_interval, queries, on_installed, on_appended, on_install, on_body, copy_step, install_chosen, try_choice, on_info}
use Rattle.group_model_whole.specs.ActingSets.{others, asked, set_of, is_primary, all_count, daemons, counted}
use Rattle.group_model_whole.specs.Serve.{serve}
use Rattle.group_model_whole.specs.Choice.{can_choose, best, own_offer, is_informed}
use Rattle.store_core.specs.declared.sealed.GroupId.{GroupId}
use Rattle.group_model_whole.specs.Group.{Group, Event, Submit, Deliver, Lose, Repeat, NewInterval, Restart, Kick, last_set, is_answered, answered, copy_hears, arrives, without, deliver, lose, again, is_submitted, has_all_requests, has_all_intervals, take_request, begin, with_up, same_set, group_step, run, start, IsSet, EventFits, settle, delivered, delivered_now, delivered_to}
use Rattle.group_model_whole.specs.Types.{PeerInfo, Role, Idle, Peering, Installing, Active, Daemon, Body, Interval, Query, Info, Install, Installed, Append, Appended, Request, Reply, NotHere, Party, Osd, Client, Sent}
use Rattle.group_model_whole.specs.Each.{Each}
use Rattle.group_model_whole.specs.History.{History}
use Rattle.group_model_whole.specs.Budget.{body_budget, sent_budget, role_budget, copy_budget, copies_budget, budget, Lowers}
use Rattle.group_model_whole.proofs.Eaches.{Each-get, Each-get_or}
use Rattle.group_model_whole.proofs.Invariant.{IsKnown, Leads, RoleOk, StateOk, SentOk, BodyOk}
use Rattle.group_model_whole.proofs.Budgets.{query_lowers, append_lowers, request_as_lowers, appended_as_lowers, promised_budget, Serves, serve_budget, by_test, waits_lowers}
use Rattle.group_model_whole.proofs.Groups.{Good, Counts, daemons_count, without_good, step_good, run_good, start_good}
use Rattle.group_model_whole.proofs.Refusals.{deliver_sets, run_sets, start_sets}

-- lengths

pub filter-short : {X : Type 0} (f : X → Bool) (xs : List X) → length (filter f xs) ≤ length xs
filter-short f [] = omega arith
filter-short f (x ∷ xs) = go (f x) (filter-short f xs)
  where
    go : (b : Bool) → length (filter f xs) ≤ length xs → length (if b then x ∷ filter f xs else filter f xs) ≤ length (x ∷ xs)
    go true le = omega arith
    go false le = omega arith

-- all but one
filter-other : (n : ℕ) (q : ℕ → Bool) (xs : List ℕ) → is_in xs n ≡ true → length (filter (λ d. not (d == n) && q d) xs) + 1 ≤ length xs
filter-other n q [] is = absurd (cc)
filter-other n q (x ∷ xs) is = go (x == n) (q x) is (filter-other n q xs) (filter-short (λ d. not (d == n) && q d) xs)
  where
    go : (b e : Bool) → (b || is_in xs n) ≡ true → (is_in xs n ≡ true → length (filter (λ d. not (d == n) && q d) xs) + 1 ≤ length xs) → length (filter (λ d. not (d == n) && q d) xs) ≤ length xs →
        length (if not b && e then x ∷ filter (λ d. not (d == n) && q d) xs else filter (λ d. not (d == n) && q d) xs) + 1 ≤ length (x ∷ xs)
    go true e is rest le = omega arith
    go false true is rest le = (let r = rest is in omega arith)
    go false false is rest le = omega arith

first_other : (n : ℕ) (ms : List ℕ) → is_primary ms n ≡ true → length (filter (λ m. not (m == n)) ms) + 1 ≤ length ms
first_other n [] is = absurd (cc)
first_other n (m ∷ ms) is = rw is (let le = filter-short (λ m. not (m == n)) ms in omega arith)

or_true : (b : Bool) → (b || true) ≡ true
or_true true = refl
or_true false = refl

in_counts : (k n : ℕ) (xs : List ℕ) → Counts k xs → k ≤ n → n < k + length xs → is_in xs n ≡ true
in_counts k n [] c from upto = absurd (omega arith)
in_counts k n (x ∷ xs) c from upto = elim (cases_eq x n) [
  | inl same ↦ rw (eq-eqb x n same) refl
  | inr other ↦ rw (in_counts (k + 1) n xs c.1 (omega (arith, c.0)) (omega arith)) (or_true (x == n))
]

asked_few : (c : Daemon) → c.number < 16 → length (asked c) ≤ 15
asked_few c small = (let le = filter-other c.number (λ d. list_any (λ members. is_in members d) c.known) daemons (in_counts 0 c.number daemons daemons_count (omega arith) small) in omega arith)

-- messages

sent_budget-append : (xs ys : List Sent) → sent_budget (xs ++ ys) ≡ sent_budget xs + sent_budget ys
sent_budget-append [] ys = omega arith
sent_budget-append (x ∷ xs) ys = omega (arith, sent_budget-append xs ys)

sent_budget-queries : (c : Daemon) (n : ℕ) (ds : List ℕ) → sent_budget (map (λ d. send c (Osd d) (Query n)) ds) ≡ 2 * length ds
sent_budget-queries c n [] = refl
sent_budget-queries c n (d ∷ ds) = omega (arith, sent_budget-queries c n ds)

sent_budget-installs : (c : Daemon) (n : ℕ) (log : List Entry) (ds : List ℕ) → sent_budget (map (λ d. send c (Osd d) (Install n log)) ds) ≡ 2 * length ds
sent_budget-installs c n log [] = refl
sent_budget-installs c n log (d ∷ ds) = omega (arith, sent_budget-installs c n log ds)

body_positive : (b : Body) → 1 ≤ body_budget b
body_positive (Interval sets) = omega arith
body_positive (Query n) = omega arith
body_positive (Info n base log) = omega arith
body_positive (Install n log) = omega arith
body_positive (Installed n) = omega arith
body_positive (Append n place s) = omega arith
body_positive (Appended n place) = omega arith
body_positive (Request s) = omega arith
body_positive (Reply id reply) = omega arith
body_positive (NotHere id) = omega arith

-- rules

install_budget : (c : Daemon) (log : List Entry) (ms : List ℕ) → length ms ≤ 4 → length (others c) ≤ 4 → Serves (8 + 9 * length c.waiting) (install_chosen c log ms)
install_budget c log [] fits few = omega (arith, serve_budget c.waiting (record c { base = c.promise; log = log; role = Active None }) few)
install_budget c log (m ∷ ms) fits few = omega (arith, sent_budget-installs c c.promise log (m ∷ ms))

try_choice_budget : (c : Daemon) (informed : List PeerInfo) → length (others c) ≤ 4 → Serves (8 + 9 * length c.waiting) (try_choice c informed)
try_choice_budget c informed few = go (can_choose c informed)
  where
    go : (b : Bool) → Serves (8 + 9 * length c.waiting) (if b then install_chosen c (best (own_offer c) informed).log (others c) else still (record c { role = Peering informed }))
    go true = install_budget c (best (own_offer c) informed).log (others c) few few
    go false = omega arith

-- the first of a set has at most four others
pub leads_few : (c : Daemon) (sets : List (List ℕ)) → length (set_of sets (length sets)) ≤ 5 → leads c sets ≡ true → length (others (record (learn_sets c sets) { promise = length sets })) ≤ 4
leads_few c sets fits all =
    let parts = and_parts (not (nat_lt (length (set_of sets (length sets))) c.min_size) && is_primary (set_of sets (length sets)) c.number) (nat_lt c.promise (length sets)) all in
    let two = and_parts (not (nat_lt (length (set_of sets (length sets))) c.min_size)) (is_primary (set_of sets (length sets)) c.number) parts.0 in
    let short = first_other c.number (set_of sets (length sets)) two.1 in
    omega arith

lead_lowers : (c : Daemon) (sets : List (List ℕ)) → length (set_of sets (length sets)) ≤ 5 → c.number < 16 → leads c sets ≡ true → Lowers 39 c (lead (record (learn_sets c sets) { promise = length sets }))
lead_lowers c sets fits small all =
    let c' : Daemon = record (learn_sets c sets) { promise = length sets } in
    let few : length (others c') ≤ 4 = leads_few c sets fits all in
    let most : Serves 8 (try_choice c' []) = try_choice_budget c' [] few in
    let asks : length (asked c') ≤ 15 = asked_few c' small in
    let query : sent_budget (queries c') ≡ 2 * length (asked c') = sent_budget-queries c (length sets) (asked c') in
    let joined : sent_budget (queries c' ++ (try_choice c' []).sent) ≡ sent_budget (queries c') + sent_budget (try_choice c' []).sent = sent_budget-append (queries c') (try_choice c' []).sent in
    omega arith

interval_lowers : (c : Daemon) (sets : List (List ℕ)) → length (set_of sets (length sets)) ≤ 5 → c.number < 16 → Lowers 39 c (on_interval c sets)
interval_lowers c sets fits small = by_test 39 c (nat_lt (length c.known) (length sets)) (if leads c sets then lead (record (learn_sets c sets) { promise = length sets }) else still (learn_sets c sets)) (still c)
    (go (leads c sets) refl) (omega arith)
  where
    go : (b : Bool) → leads c sets ≡ b → Lowers 39 c (if b then lead (record (learn_sets c sets) { promise = length sets }) else still (learn_sets c sets))
    go true e = lead_lowers c sets fits small e
    go false e = omega arith

-- a copy with a role has at most four others in its set
abbrev pub Few : Role → Daemon → Type 0
Few Idle c = Unit {0}
Few (Peering informed) c = length (others c) ≤ 4
Few (Installing done) c = length (others c) ≤ 4
Few (Active flight) c = length (others c) ≤ 4

info_as_lowers : (r : Role) (c : Daemon) (n : ℕ) (offer : PeerInfo) → c.role ≡ r → Few r c → Lowers 1 c (on_info r c n offer)
info_as_lowers (Peering informed) c n offer is few =
    let now : role_budget c.role ≡ 8 = rw is refl in
    by_test 1 c ((c.promise == n) && not (is_informed c informed offer.number)) (try_choice c (informed ++ offer ∷ [])) (still c) (omega (arith, try_choice_budget c (informed ++ offer ∷ []) few)) (omega arith)
info_as_lowers Idle c n offer is few = omega arith
info_as_lowers (Installing done) c n offer is few = omega arith
info_as_lowers (Active flight) c n offer is few = omega arith

install_comes_lowers : (c : Daemon) (from : Party) (n : ℕ) (log : List Entry) → Lowers 2 c (on_install c from n log)
install_comes_lowers c from n log = by_test 2 c (nat_lt n c.promise) (still c)
    (record { copy = if nat_lt c.base n then record (promise_interval c n) { base = n; log = log } else promise_interval c n; sent = send c from (Installed n) ∷ [] }) (omega arith) (go (nat_lt c.base n))
  where
    go : (b : Bool) → Lowers 2 c (record { copy = if b then record (promise_interval c n) { base = n; log = log } else promise_interval c n; sent = send c from (Installed n) ∷ [] })
    go true = omega (arith, promised_budget c n)
    go false = omega (arith, promised_budget c n)

installed_as_lowers : (r : Role) (c : Daemon) (n m : ℕ) → c.role ≡ r → Few r c → Lowers 1 c (on_installed r c n m)
installed_as_lowers (Installing done) c n m is few =
    let now : role_budget c.role ≡ 0 = rw is refl in
    by_test 1 c (c.promise == n) (if all_count c (counted c done m) then serve c.waiting c else still (record c { role = Installing (counted c done m) })) (still c)
    (by_test 1 c (all_count c (counted c done m)) (serve c.waiting c) (still (record c { role = Installing (counted c done m) })) (omega (arith, serve_budget c.waiting c few)) (omega arith)) (omega arith)
installed_as_lowers Idle c n m is few = omega arith
installed_as_lowers (Peering informed) c n m is few = omega arith
installed_as_lowers (Active flight) c n m is few = omega arith

request_lowers : (r : Role) (c : Daemon) (s : Sealed) → c.role ≡ r → Few r c → Lowers 10 c (on_request_as r c s)
request_lowers Idle c s is few = omega arith
request_lowers (Peering informed) c s is few = waits_lowers c s
request_lowers (Installing done) c s is few = waits_lowers c s
request_lowers (Active flight) c s is few = request_as_lowers (Active flight) c s is few

appended_lowers : (r : Role) (c : Daemon) (n place m : ℕ) → c.role ≡ r → Few r c → Lowers 1 c (on_appended r c n place m)
appended_lowers (Active flight) c n place m is few = appended_as_lowers (Active flight) c n place m is few
appended_lowers Idle c n place m is few = omega arith
appended_lowers (Peering informed) c n place m is few = omega arith
appended_lowers (Installing done) c n place m is few = omega arith

abbrev pub SetFits : Body → Type 0
SetFits (Interval sets) = length (set_of sets (length sets)) ≤ 5
SetFits (Query n) = Unit {0}
SetFits (Info n base log) = Unit {0}
SetFits (Install n log) = Unit {0}
SetFits (Installed n) = Unit {0}
SetFits (Append n place s) = Unit {0}
SetFits (Appended n place) = Unit {0}
SetFits (Request s) = Unit {0}
SetFits (Reply id reply) = Unit {0}
SetFits (NotHere id) = Unit {0}

still_lowers : (most : ℕ) (c : Daemon) → 1 ≤ most → Lowers most c (still c)
still_lowers most c some = omega arith

comes_lowers : (b : Body) (c : Daemon) (from : Party) → Few c.role c → c.number < 16 → SetFits b → Lowers (body_budget b) c (on_body b c from)
comes_lowers (Interval sets) c from few small fits = interval_lowers c sets fits small
comes_lowers (Query n) c from few small fits = query_lowers c from n
comes_lowers (Info n base log) c (Osd m) few small fits = info_as_lowers c.role c n (record { number = m; base = base; log = log }) refl few
comes_lowers (Info n base log) c Client few small fits = still_lowers 1 c (omega arith)
comes_lowers (Install n log) c from few small fits = install_comes_lowers c from n log
comes_lowers (Installed n) c (Osd m) few small fits = installed_as_lowers c.role c n m refl few
comes_lowers (Installed n) c Client few small fits = still_lowers 1 c (omega arith)
comes_lowers (Append n place s) c from few small fits = append_lowers c from n place s
comes_lowers (Appended n place) c (Osd m) few small fits = appended_lowers c.role c n place m refl few
comes_lowers (Appended n place) c Client few small fits = still_lowers 1 c (omega arith)
comes_lowers (Request s) c from few small fits = by_test 10 c (list_any (λ w. w.id == s.id) c.waiting) (still c) (on_request_as c.role c s) (omega arith) (request_lowers c.role c s refl few)
comes_lowers (Reply id reply) c from few small fits = still_lowers 1 c (omega arith)
comes_lowers (NotHere id) c from few small fits = still_lowers 1 c (omega arith)

-- the group

small_set : (sets : List (List ℕ)) (n : ℕ) → Each IsSet sets → length (set_of sets n) ≤ 5
small_set sets n each = (Each-get_or IsSet sets (n - 1) [] each (record { few = omega arith; once = refl })).few

few_leads : (z : ℕ) (sets : List (List ℕ)) (d : ℕ) (c : Daemon) → c.number ≡ d → IsKnown sets c.known → Leads z sets d c → Each IsSet sets → length (others c) ≤ 4
few_leads z sets d c number known leads each =
    let read : set_of c.known c.promise ≡ set_of sets c.promise = known.same c.promise leads.later (omega (arith, leads.is_known)) in
    let first : is_primary (set_of c.known c.promise) c.number ≡ true = subst (λ l. is_primary l c.number ≡ true) (sym read) (subst (λ v. is_primary (set_of sets c.promise) v ≡ true) (sym number) leads.first) in
    let short = first_other c.number (set_of c.known c.promise) first in
    let fits : length (set_of c.known c.promise) ≤ 5 = subst (λ l. length l ≤ 5) (sym read) (small_set sets c.promise each) in
    omega arith

pub few_as : (z : ℕ) (sets : List (List ℕ)) (p : ℕ → ℕ) (h : History) (d : ℕ) (c : Daemon) (r : Role) → StateOk z sets p h d c → RoleOk z sets p h d c r → Each IsSet sets → Few r c
few_as z sets p h d c Idle state ok each = tt
few_as z sets p h d c (Peering informed) state ok each = few_leads z sets d c state.number state.known ok.leads each
few_as z sets p h d c (Installing done) state ok each = few_leads z sets d c state.number state.known ok.owns.leads each
few_as z sets p h d c (Active flight) state ok each = few_leads z sets d c state.number state.known ok.0.leads each

known_fits : (sets known : List (List ℕ)) → IsKnown sets known → Each IsSet sets → length (set_of known (length known)) ≤ 5
known_fits sets [] is each = omega arith
known_fits sets (k ∷ ks) is each = subst (λ l. length l ≤ 5) (sym (is.same (length (k ∷ ks)) (omega arith) (omega arith))) (small_set sets (length (k ∷ ks)) each)

pub body_fits : (sets : List (List ℕ)) (p : ℕ → ℕ) (h : History) (from : Party) (b : Body) → BodyOk sets p h from b → Each IsSet sets → SetFits b
body_fits sets p h from (Interval known) ok each = known_fits sets known ok each
body_fits sets p h from (Query n) ok each = tt
body_fits sets p h from (Info n base log) ok each = tt
body_fits sets p h from (Install n log) ok each = tt
body_fits sets p h from (Installed n) ok each = tt
body_fits sets p h from (Append n place s) ok each = tt
body_fits sets p h from (Appended n place) ok each = tt
body_fits sets p h from (Request s) ok each = tt
body_fits sets p h from (Reply id reply) ok each = tt
body_fits sets p h from (NotHere id) ok each = tt

copies_budget-set : (cs : List Daemon) (d : ℕ) (c c' : Daemon) → slice_get cs d ≡ Some c → copies_budget (slice_set cs d c') + copy_budget c ≡ copies_budget cs + copy_budget c'
copies_budget-set [] d c c' is = absurd (cc)
copies_budget-set (x ∷ cs) zero c c' is = (let same : x ≡ c = cc in subst (λ v. copy_budget c' + copies_budget cs + copy_budget v ≡ copy_budget x + copies_budget cs + copy_budget c') same (omega arith))
copies_budget-set (x ∷ cs) (suc d) c c' is = (let rest = copies_budget-set cs d c c' is in omega arith)

get-below : (cs : List Daemon) (d : ℕ) (c : Daemon) → slice_get cs d ≡ Some c → d < length cs
get-below [] d c is = absurd (cc)
get-below (x ∷ cs) zero c is = omega arith
get-below (x ∷ cs) (suc d) c is = (let rest = get-below cs d c is in omega arith)

remove-budget : (ms : List Sent) (k : ℕ) (m : Sent) → slice_get ms k ≡ Some m → sent_budget (remove ms k) + body_budget m.body ≡ sent_budget ms
remove-budget [] k m is = absurd (cc)
remove-budget (x ∷ ms) zero m is = (let same : x ≡ m = cc in subst (λ v. sent_budget ms + body_budget v.body ≡ body_budget x.body + sent_budget ms) same (omega arith))
remove-budget (x ∷ ms) (suc k) m is = (let rest = remove-budget ms k m is in omega arith)

-- what holds of a group in which every delivery lowers the budget
pub record Bounded (g : Group) : Type 0 where
  pub good : Good g
  pub sets : Each IsSet g.sets
  pub count : length g.copies ≤ 16

hears_lowers : (g : Group) (m : Sent) (d : ℕ) (found : Option Daemon) (good : Good g) → slice_get g.copies d ≡ found → SentOk g.sets good.promise good.h m → Each IsSet g.sets → length g.copies ≤ 16 →
    budget (copy_hears g m d found) + 1 ≤ budget g + body_budget m.body
hears_lowers g m d None good here ok each count = (let some = body_positive m.body in omega arith)
hears_lowers g m d (Some c) good here ok each count =
    let s : Stepped = copy_step c (record { from = m.from; body = m.body }) in
    let copy = good.copies d c here in
    let below = get-below g.copies d c here in
    let small : c.number < 16 = omega (arith, copy.state.number) in
    let low : copy_budget s.copy + sent_budget s.sent + 1 ≤ copy_budget c + body_budget m.body =
    comes_lowers m.body c m.from (few_as g.min_size g.sets good.promise good.h d c c.role copy.state copy.role each) small (body_fits g.sets good.promise good.h m.from m.body ok each) in
    let set : copies_budget (slice_set g.copies d s.copy) + copy_budget c ≡ copies_budget g.copies + copy_budget s.copy = copies_budget-set g.copies d c s.copy here in
    let joined : sent_budget (g.wire ++ s.sent) ≡ sent_budget g.wire + sent_budget s.sent = sent_budget-append g.wire s.sent in
    omega arith

answered_budget : (g : Group) (b : Body) → budget (answered g b) ≡ budget g
answered_budget g (Reply id reply) = go (is_answered g.answers id)
  where
    go : (b : Bool) → budget (if b then g else record g { answers = g.answers ++ record { id = id; reply = reply } ∷ [] }) ≡ budget g
    go true = refl
    go false = refl
answered_budget g (Interval sets) = refl
answered_budget g (Query n) = refl
answered_budget g (Info n base log) = refl
answered_budget g (Install n log) = refl
answered_budget g (Installed n) = refl
answered_budget g (Append n place s) = refl
answered_budget g (Appended n place) = refl
answered_budget g (Request s) = refl
answered_budget g (NotHere id) = refl

arrives_lowers : (g : Group) (m : Sent) (to : Party) (good : Good g) → SentOk g.sets good.promise good.h m → Each IsSet g.sets → length g.copies ≤ 16 → budget (arrives g m to) + 1 ≤ budget g + body_budget m.body
arrives_lowers g m Client good ok each count = (let some = body_positive m.body in let same = answered_budget g m.body in omega arith)
arrives_lowers g m (Osd d) good ok each count = go (is_in g.up d)
  where
    go : (b : Bool) → budget (if b then copy_hears g m d (slice_get g.copies d) else g) + 1 ≤ budget g + body_budget m.body
    go true = hears_lowers g m d (slice_get g.copies d) good refl ok each count
    go false = (let some = body_positive m.body in omega arith)

deliver_lowers_at : (g : Group) (k : ℕ) (found : Option Sent) (m : Sent) → slice_get g.wire k ≡ found → found ≡ Some m → Bounded g → budget (deliver g k found) + 1 ≤ budget g
deliver_lowers_at g k None m here is ok = absurd (cc)
deliver_lowers_at g k (Some m') m here is ok =
    let good : Good g = ok.good in
    let less = remove-budget g.wire k m' here in
    let next : budget (arrives (without g k) m' m'.to) + 1 ≤ budget (without g k) + body_budget m'.body =
    arrives_lowers (without g k) m' m'.to (without_good g k ok.good) (Each-get (SentOk g.sets ok.good.promise ok.good.h) g.wire k m' ok.good.wire here) ok.sets ok.count in
    omega arith

pub deliver_lowers : (g : Group) (k : ℕ) (m : Sent) → slice_get g.wire k ≡ Some m → Bounded g → budget (group_step g (Deliver k)) + 1 ≤ budget g
deliver_lowers g k m is ok = deliver_lowers_at g k (slice_get g.wire k) m refl is ok

pub lose_lowers : (g : Group) (k : ℕ) (m : Sent) → slice_get g.wire k ≡ Some m → budget (group_step g (Lose k)) + 1 ≤ budget g
lose_lowers g k m is = go (slice_get g.wire k) refl is
  where
    go : (found : Option Sent) → slice_get g.wire k ≡ found → found ≡ Some m → budget (lose g k found) + 1 ≤ budget g
    go None here is = absurd (cc)
    go (Some m') here is = (let less = remove-budget g.wire k m' here in let some = body_positive m'.body in omega arith)

-- no event changes how many copies there are

length-set : (cs : List Daemon) (d : ℕ) (c : Daemon) → length (slice_set cs d c) ≡ length cs
length-set [] d c = refl
length-set (x ∷ cs) zero c = refl
length-set (x ∷ cs) (suc d) c = ap suc (length-set cs d c)

abbrev Count : ℕ → Group → Type 0
Count n g = length g.copies ≡ n

count_if : (n : ℕ) (b : Bool) (x y : Group) → Count n x → Count n y → Count n (if b then x else y)
count_if n true x y p q = p
count_if n false x y p q = q

answered_count : (n : ℕ) (g : Group) (b : Body) → Count n g → Count n (answered g b)
answered_count n g (Reply id reply) is = count_if n (is_answered g.answers id) g (record g { answers = g.answers ++ record { id = id; reply = reply } ∷ [] }) is is
answered_count n g (Interval sets) is = is
answered_count n g (Query i) is = is
answered_count n g (Info i base log) is = is
answered_count n g (Install i log) is = is
answered_count n g (Installed i) is = is
answered_count n g (Append i place s) is = is
answered_count n g (Appended i place) is = is
answered_count n g (Request s) is = is
answered_count n g (NotHere id) is = is

hears_count : (n : ℕ) (g : Group) (m : Sent) (d : ℕ) (found : Option Daemon) → Count n g → Count n (copy_hears g m d found)
hears_count n g m d None is = is
hears_count n g m d (Some c) is = length-set g.copies d (copy_step c (record { from = m.from; body = m.body })).copy ∙ is

arrives_count : (n : ℕ) (g : Group) (m : Sent) (to : Party) → Count n g → Count n (arrives g m to)
arrives_count n g m Client is = answered_count n g m.body is
arrives_count n g m (Osd d) is = count_if n (is_in g.up d) (copy_hears g m d (slice_get g.copies d)) g (hears_count n g m d (slice_get g.copies d) is) is

step_count : (n : ℕ) (e : Event) (g : Group) → Count n g → Count n (group_step g e)
step_count n (Submit s) g is = count_if n (is_submitted g.requests s.id) g (if has_all_requests g then g else take_request g s) is (count_if n (has_all_requests g) g (take_request g s) is is)
step_count n (Deliver k) g is = go (slice_get g.wire k)
  where
    go : (found : Option Sent) → Count n (deliver g k found)
    go None = is
    go (Some m) = arrives_count n (without g k) m m.to is
step_count n (Lose k) g is = go (slice_get g.wire k)
  where
    go : (found : Option Sent) → Count n (lose g k found)
    go None = is
    go (Some m) = is
step_count n (Repeat k) g is = go (slice_get g.wire k)
  where
    go : (found : Option Sent) → Count n (again g found)
    go None = is
    go (Some m) = is
step_count n (NewInterval acting up) g is =
    let ready : Count n (with_up g up) = length-map g.copies (λ c. if is_in g.up c.number && not (is_in up c.number) then restarted c else c) ∙ is in
    count_if n (same_set acting (last_set g.sets)) (with_up g up) (if has_all_intervals g then g else begin (with_up g up) acting) ready (count_if n (has_all_intervals g) g (begin (with_up g up) acting) is ready)
step_count n (Restart d) g is =
    let ready : length (map (λ c. if c.number == d then restarted c else c) g.copies) ≡ n = length-map g.copies (λ c. if c.number == d then restarted c else c) ∙ is in
    count_if n (is_in (last_set g.sets) d) (if has_all_intervals g then g else begin (record g { copies = map (λ c. if c.number == d then restarted c else c) g.copies }) (last_set g.sets)) (record g { copies = map (λ c. if c.number == d then restarted c else c) g.copies })
    (count_if n (has_all_intervals g) g (begin (record g { copies = map (λ c. if c.number == d then restarted c else c) g.copies }) (last_set g.sets)) is ready) ready
step_count n Kick g is = is

run_count : (n : ℕ) (es : List Event) (g : Group) → Count n g → Count n (run es g)
run_count n [] g is = is
run_count n (e ∷ es) g is = run_count n es (group_step g e) (step_count n e g is)

take-short : {X : Type 0} (n : ℕ) (xs : List X) → length (take n xs) ≤ length xs
take-short zero xs = omega arith
take-short (suc n) [] = omega arith
take-short (suc n) (x ∷ xs) = (let rest = take-short n xs in omega arith)

pub run_bounded : (group : GroupId) (z count : ℕ) (acting up : List ℕ) (es : List Event) → IsSet acting → Each EventFits es → Bounded (run es (start group z count acting up))
run_bounded group z count acting up es fits each =
    let few = take-short count daemons in
    let as_many : length (map (blank z) (take count daemons)) ≡ length (take count daemons) = length-map (take count daemons) (blank z) in
    let same = run_count (length (map (blank z) (take count daemons))) es (start group z count acting up) refl in
    record {
      good = run_good es (start group z count acting up) (start_good group z count acting up);
      sets = run_sets es (start group z count acting up) each (start_sets group z count acting up fits);
      count = omega arith;
    }

-- settling

step_bounded : (g : Group) (k : ℕ) → Bounded g → Bounded (group_step g (Deliver k))
step_bounded g k ok = record {
  good = step_good (Deliver k) g ok.good;
  sets = subst (λ l. Each IsSet l) (sym (deliver_sets g k (slice_get g.wire k))) ok.sets;
  count = (let same = step_count (length g.copies) (Deliver k) g refl in let le = ok.count in omega arith);
}

step_idle : (g : Group) → slice_get g.wire 0 ≡ None → group_step g (Deliver 0) ≡ g
step_idle g none = subst (λ found. deliver g 0 found ≡ g) (sym none) refl

wire_empty : (ms : List Sent) → slice_get ms 0 ≡ None → ms ≡ []
wire_empty [] none = refl
wire_empty (m ∷ ms) none = absurd (cc)

pub settle_idle : (n : ℕ) (g : Group) → slice_get g.wire 0 ≡ None → settle n g ≡ g
settle_idle zero g none = refl
settle_idle (suc n) g none = subst (λ v. settle n v ≡ g) (sym (step_idle g none)) (settle_idle n g none)

spent : (ms : List Sent) → sent_budget ms ≤ 0 → ms ≡ []
spent [] none = refl
spent (m ∷ ms) none = (let some = body_positive m.body in absurd (omega arith))

pub settle_done : (n : ℕ) (g : Group) → Bounded g → budget g ≤ n → (settle n g).wire ≡ []
settle_done zero g ok le = spent g.wire (omega arith)
settle_done (suc n) g ok le = go (slice_get g.wire 0) refl (settle_done n (group_step g (Deliver 0)) (step_bounded g 0 ok))
  where
    go : (found : Option Sent) → slice_get g.wire 0 ≡ found → (budget (group_step g (Deliver 0)) ≤ n → (settle n (group_step g (Deliver 0))).wire ≡ []) → (settle n (group_step g (Deliver 0))).wire ≡ []
    go None none rest = subst (λ v. v.wire ≡ []) (sym (settle_idle (suc n) g none)) (wire_empty g.wire none)
    go (Some m) is rest = rest (let low = deliver_lowers g 0 m is ok in omega arith)

delivered_at_most : (found : Option Sent) (g : Group) → delivered_now found g ≤ 1
delivered_at_most None g = omega arith
delivered_at_most (Some m) g = to m.to
  where
    if_one : (b : Bool) → (if b then 1 else 0) ≤ 1
    if_one true = omega arith
    if_one false = omega arith

    to : (p : Party) → delivered_to p g ≤ 1
    to Client = omega arith
    to (Osd d) = if_one (is_in g.up d)

pub delivered_few : (n : ℕ) (g : Group) → Bounded g → delivered n g ≤ budget g
delivered_few zero g ok = omega arith
delivered_few (suc n) g ok = go (slice_get g.wire 0) refl (delivered_few n (group_step g (Deliver 0)) (step_bounded g 0 ok))
  where
    go : (found : Option Sent) → slice_get g.wire 0 ≡ found → delivered n (group_step g (Deliver 0)) ≤ budget (group_step g (Deliver 0)) → delivered_now found g + delivered n (group_step g (Deliver 0)) ≤ budget g
    go None none rest = (let same : budget (group_step g (Deliver 0)) ≡ budget g = ap budget (step_idle g none) in omega arith)
    go (Some m) is rest = (let low = deliver_lowers g 0 m is ok in let one = delivered_at_most (Some m) g in omega arith)

pub settle-add : (a b n : ℕ) (g : Group) → n ≡ a + b → settle n g ≡ settle b (settle a g)
settle-add zero b n g is = (let same : n ≡ b = omega arith in ap (λ v. settle v g) same)
settle-add (suc a) b n g is = (let same : n ≡ suc (a + b) = omega arith in ap (λ v. settle v g) same ∙ settle-add a b (a + b) (group_step g (Deliver 0)) refl)

-- more deliveries change nothing
pub settle_more : (n : ℕ) (g : Group) → Bounded g → budget g ≤ n → settle n g ≡ settle (budget g) g
settle_more n g ok le =
    let done : (settle (budget g) g).wire ≡ [] = settle_done (budget g) g ok (omega arith) in
    settle-add (budget g) (n - budget g) n g (omega arith) ∙ settle_idle (n - budget g) (settle (budget g) g) (ap (λ ms. slice_get ms 0) done)
