-- Each rule acts at once, takes a base only from an interval of its own, and sends what opens an interval to others alone.
use Rattle.std.proofs.Common.{ℕ, ◌≡◌, ◌≤◌, ◌<◌, ◌+◌, Bool, true, false, not, ◌&&◌, nat_lt, ◌==◌, List, [], ◌∷◌, ◌++◌, map, length, refl, sym, ◌∙◌, subst, arith, if◌then◌else◌}
use Rattle.std.specs.Prelude.{Option, Some, None}
use Rattle.std.specs.List.{list_any, filter}
use Rattle.std.proofs.lemmas.Bool.{ltb-true, and_parts, false_from_ne_true}
use Rattle.entry_core.specs.Log.{is_in, find, ids}
use Rattle.store_core.specs.Request.{Sealed}
use Rattle.store_core.specs.declared.entry.Entry.{Entry}
use Rattle.group_model_whole.specs.Choice.{is_informed, can_choose, best, own_offer}
use Rattle.group_model_whole.specs.Steps.{Stepped, still, send}
use Rattle.group_model_whole.specs.ActingSets.{set_of, is_primary, others, all_count, asked, counted}
use Rattle.group_model_whole.specs.Serve.{serve, serve_one, push_new}
use Rattle.group_model_whole.specs.Decided.{with_entry, last, not_in_flight}
use Rattle.group_model_whole.specs.Copy.{install_chosen, try_choice, on_info, on_installed, on_appended, complete, on_request_as, busy_request, waits, on_query, promise_interval, on_append, acknowledged, on_install, on_interval, leads, lead, learn_sets, queries, on_body}
use Rattle.group_model_whole.specs.Types.{PeerInfo, Role, Idle, Peering, Installing, Active, Daemon, Body, Interval, Query, Info, Install, Installed, Append, Appended, Request, Reply, NotHere, Party, Client, Osd, Sent}
use Rattle.group_model_whole.specs.Each.{Each}
use Rattle.group_model_whole.specs.History.{History}
use Rattle.group_model_whole.proofs.Eaches.{Each-append, Each-map_all}
use Rattle.group_model_whole.proofs.RecoveryLists.{filter_kept}
use Rattle.group_model_whole.proofs.Invariant.{IsKnown, Leads, RoleOk, StateOk, BodyOk}
use Rattle.group_model_whole.proofs.Stable.{is_first_unique}
use Rattle.group_model_whole.proofs.RecoveryMoves.{others_other, asked_other, osd_same}
use Rattle.group_model_whole.proofs.RecoveryDeliveries.{first_in}
use Rattle.group_model_whole.proofs.QuietLists.{each_sent}

-- the base of a copy is an interval of which it is a member
abbrev pub IsBased : List (List ℕ) → ℕ → Daemon → Type 0
IsBased sets d c = 1 ≤ c.base → is_in (set_of sets c.base) d ≡ true

abbrev pub BodyFits : List (List ℕ) → Party → Body → Type 0
BodyFits sets to (Interval known) = Unit {0}
BodyFits sets to (Query n) = (1 ≤ n) × ((d : ℕ) → to ≡ Osd d → is_primary (set_of sets n) d ≡ false)
BodyFits sets to (Info n base log) = Unit {0}
BodyFits sets to (Install n log) = (1 ≤ n) × ((d : ℕ) → to ≡ Osd d → (is_in (set_of sets n) d ≡ true) × (is_primary (set_of sets n) d ≡ false))
BodyFits sets to (Installed n) = Unit {0}
BodyFits sets to (Append n place s) = Unit {0}
BodyFits sets to (Appended n place) = Unit {0}
BodyFits sets to (Request s) = Unit {0}
BodyFits sets to (Reply id reply) = Unit {0}
BodyFits sets to (NotHere id) = Unit {0}

serve_base : (waiting : List Sealed) (c : Daemon) → (serve waiting c).copy.base ≡ c.base
serve_base [] c = refl
serve_base (s ∷ rest) c = go (find c.log s.id) (serve_base rest c) (serve_base rest (with_entry c s))
  where
    push : (ms : List ℕ) → (serve rest (with_entry c s)).copy.base ≡ c.base → (push_new ms c s rest (serve rest (with_entry c s))).copy.base ≡ c.base
    push [] later = later
    push (m ∷ ms) later = refl

    go : (f : Option Entry) → (serve rest c).copy.base ≡ c.base → (serve rest (with_entry c s)).copy.base ≡ c.base → (serve_one f c s rest (serve rest c) (serve rest (with_entry c s))).copy.base ≡ c.base
    go (Some e) after later = after
    go None after later = push (others c) later

install_based : (sets : List (List ℕ)) (d : ℕ) (c : Daemon) (log : List Entry) (ms : List ℕ) → is_in (set_of sets c.promise) d ≡ true → IsBased sets d (install_chosen c log ms).copy
install_based sets d c log [] member from = subst (λ v. is_in (set_of sets v) d ≡ true) (sym (serve_base c.waiting (record c { base = c.promise; log = log; role = Active None }))) member
install_based sets d c log (m ∷ ms) member from = member

try_choice_based : (sets : List (List ℕ)) (d : ℕ) (c : Daemon) (informed : List PeerInfo) → is_in (set_of sets c.promise) d ≡ true → IsBased sets d c → IsBased sets d (try_choice c informed).copy
try_choice_based sets d c informed member was = go (can_choose c informed)
  where
    go : (b : Bool) → IsBased sets d (if b then install_chosen c (best (own_offer c) informed).log (others c) else still (record c { role = Peering informed })).copy
    go true = install_based sets d c (best (own_offer c) informed).log (others c) member
    go false = was

abbrev pub SentFits : List (List ℕ) → Sent → Type 0
SentFits sets m = BodyFits sets m.to m.body

pub record FitStep (sets : List (List ℕ)) (d : ℕ) (s : Stepped) : Type 0 where
  pub based : IsBased sets d s.copy
  pub sent : Each (SentFits sets) s.sent

serve_fits : (sets : List (List ℕ)) (waiting : List Sealed) (c : Daemon) → Each (SentFits sets) (serve waiting c).sent
serve_fits sets [] c = tt
serve_fits sets (s ∷ rest) c = go (find c.log s.id) (serve_fits sets rest c) (serve_fits sets rest (with_entry c s))
  where
    push : (ms : List ℕ) → Each (SentFits sets) (serve rest (with_entry c s)).sent → Each (SentFits sets) (push_new ms c s rest (serve rest (with_entry c s))).sent
    push [] later = (tt, later)
    push (m ∷ ms) later = Each-map_all (SentFits sets) (λ m. send c (Osd m) (Append c.promise (length c.log + 1) s)) (λ m. tt) (others c)

    go : (f : Option Entry) → Each (SentFits sets) (serve rest c).sent → Each (SentFits sets) (serve rest (with_entry c s)).sent → Each (SentFits sets) (serve_one f c s rest (serve rest c) (serve rest (with_entry c s))).sent
    go (Some e) after later = (tt, after)
    go None after later = push (others c) later

serve_step : (sets : List (List ℕ)) (d : ℕ) (waiting : List Sealed) (c : Daemon) → IsBased sets d c → FitStep sets d (serve waiting c)
serve_step sets d waiting c was = record {
  based = λ from. (let same = serve_base waiting c in subst (λ v. is_in (set_of sets v) d ≡ true) (sym same) (was (omega arith)));
  sent = serve_fits sets waiting c;
}

-- the copy leads the interval that it promised
pub record Opening (sets : List (List ℕ)) (d : ℕ) (c : Daemon) : Type 0 where
  pub later : 1 ≤ c.promise
  pub number : c.number ≡ d
  pub first : is_primary (set_of sets c.promise) d ≡ true
  pub same : set_of c.known c.promise ≡ set_of sets c.promise

module _ (sets : List (List ℕ)) (d : ℕ) (c : Daemon) (o : Opening sets d c) where
  member : is_in (set_of sets c.promise) d ≡ true
  member = first_in (set_of sets c.promise) d o.first

  -- another daemon is not the first
  pub second : (m : ℕ) → (m ≡ c.number → ⊥) → is_primary (set_of sets c.promise) m ≡ false
  second m other = false_from_ne_true (is_primary (set_of sets c.promise) m) (λ is. other (is_first_unique (set_of sets c.promise) m d is o.first ∙ sym o.number))

  goes_to : (log : List Entry) (m : ℕ) → is_in (others c) m ≡ true → SentFits sets (send c (Osd m) (Install c.promise log))
  goes_to log m in_others = (
    o.later,
    λ e same. (
        let m_is : m ≡ e = osd_same m e same in
        let k = (filter_kept (λ m. not (m == c.number)) (set_of c.known c.promise) m in_others).is_item in (
          subst (λ v. is_in (set_of sets c.promise) v ≡ true) m_is (subst (λ v. is_in v m ≡ true) o.same k),
          subst (λ v. is_primary (set_of sets c.promise) v ≡ false) m_is (second m (others_other c m in_others)),
        )),
  )

  asks_to : (m : ℕ) → is_in (asked c) m ≡ true → SentFits sets (send c (Osd m) (Query c.promise))
  asks_to m in_asked = (o.later, λ e same. subst (λ v. is_primary (set_of sets c.promise) v ≡ false) (osd_same m e same) (second m (asked_other c m in_asked)))

  pub goes_fits : (log : List Entry) → Each (SentFits sets) (map (λ m. send c (Osd m) (Install c.promise log)) (others c))
  goes_fits log = each_sent (SentFits sets) (λ m. send c (Osd m) (Install c.promise log)) (others c) (goes_to log)

  pub asks_fits : Each (SentFits sets) (queries c)
  asks_fits = each_sent (SentFits sets) (λ d. send c (Osd d) (Query c.promise)) (asked c) asks_to

  pub goes_again : (log : List Entry) (test : ℕ → Bool) → Each (SentFits sets) (map (λ m. send c (Osd m) (Install c.promise log)) (filter test (others c)))
  goes_again log test = each_sent (SentFits sets) (λ m. send c (Osd m) (Install c.promise log)) (filter test (others c)) (λ m is. goes_to log m (filter_kept test (others c) m is).is_item)

  pub asks_again : (test : ℕ → Bool) → Each (SentFits sets) (map (λ d. send c (Osd d) (Query c.promise)) (filter test (asked c)))
  asks_again test = each_sent (SentFits sets) (λ d. send c (Osd d) (Query c.promise)) (filter test (asked c)) (λ m is. asks_to m (filter_kept test (asked c) m is).is_item)

  install_step : (log : List Entry) (ms : List ℕ) → others c ≡ ms → FitStep sets d (install_chosen c log ms)
  install_step log [] is = serve_step sets d c.waiting (record c { base = c.promise; log = log; role = Active None }) (λ from. member)
  install_step log (m ∷ ms) is = record { based = λ from. member; sent = subst (λ v. Each (SentFits sets) (map (λ m. send c (Osd m) (Install c.promise log)) v)) is (goes_fits log) }

  choice_step : (informed : List PeerInfo) → IsBased sets d c → FitStep sets d (try_choice c informed)
  choice_step informed was = go (can_choose c informed)
    where
      go : (b : Bool) → FitStep sets d (if b then install_chosen c (best (own_offer c) informed).log (others c) else still (record c { role = Peering informed }))
      go true = install_step (best (own_offer c) informed).log (others c) refl
      go false = record { based = was; sent = tt }

still_step : (sets : List (List ℕ)) (d : ℕ) (c : Daemon) → IsBased sets d c → FitStep sets d (still c)
still_step sets d c was = record { based = was; sent = tt }

by_test : (sets : List (List ℕ)) (d : ℕ) (b : Bool) (x y : Stepped) → (b ≡ true → FitStep sets d x) → (b ≡ false → FitStep sets d y) → FitStep sets d (if b then x else y)
by_test sets d true x y p q = p refl
by_test sets d false x y p q = q refl

module _ (z : ℕ) (sets : List (List ℕ)) (promise : ℕ → ℕ) (h : History) (d : ℕ) (c : Daemon) (state : StateOk z sets promise h d c) where
  pub opening : Leads z sets d c → Opening sets d c
  opening l = record { later = l.later; number = state.number; first = l.first; same = state.known.same c.promise l.later (omega (arith, l.is_known)) }

  -- a copy that hears of a new interval of which it is the first leads it
  pub opening_led : (known : List (List ℕ)) → IsKnown sets known → nat_lt (length c.known) (length known) ≡ true → leads c known ≡ true → Opening sets d (record (learn_sets c known) { promise = length known })
  opening_led known is_known newer it =
      let less : length c.known < length known = ltb-true (length c.known) (length known) newer in
      let parts = and_parts (not (nat_lt (length (set_of known (length known))) c.min_size) && is_primary (set_of known (length known)) c.number) (nat_lt c.promise (length known)) it in
      let own : is_primary (set_of known (length known)) c.number ≡ true = (and_parts (not (nat_lt (length (set_of known (length known))) c.min_size)) (is_primary (set_of known (length known)) c.number) parts.0).1 in
      let same : set_of known (length known) ≡ set_of sets (length known) = is_known.same (length known) (omega arith) (omega arith) in
      record {
        later = omega arith;
        number = state.number;
        first = subst (λ v. is_primary (set_of sets (length known)) v ≡ true) state.number (subst (λ v. is_primary v c.number ≡ true) same own);
        same = same;
      }

module _ (z : ℕ) (sets : List (List ℕ)) (promise : ℕ → ℕ) (h : History) (d : ℕ) (c : Daemon) (state : StateOk z sets promise h d c) (was : IsBased sets d c) where
  info_step : (r : Role) (n : ℕ) (offer : PeerInfo) → RoleOk z sets promise h d c r → FitStep sets d (on_info r c n offer)
  info_step Idle n offer ok = still_step sets d c was
  info_step (Peering informed) n offer ok = by_test sets d ((c.promise == n) && not (is_informed c informed offer.number)) (try_choice c (informed ++ offer ∷ [])) (still c)
      (λ _. choice_step sets d c (opening z sets promise h d c state ok.leads) (informed ++ offer ∷ []) was) (λ _. still_step sets d c was)
  info_step (Installing done) n offer ok = still_step sets d c was
  info_step (Active flight) n offer ok = still_step sets d c was

  installed_step : (r : Role) (n m : ℕ) → FitStep sets d (on_installed r c n m)
  installed_step Idle n m = still_step sets d c was
  installed_step (Peering informed) n m = still_step sets d c was
  installed_step (Installing done) n m = by_test sets d (c.promise == n) (if all_count c (counted c done m) then serve c.waiting c else still (record c { role = Installing (counted c done m) })) (still c)
      (λ _. by_test sets d (all_count c (counted c done m)) (serve c.waiting c) (still (record c { role = Installing (counted c done m) })) (λ _. serve_step sets d c.waiting c was) (λ _. record { based = was; sent = tt }))
      (λ _. still_step sets d c was)
  installed_step (Active flight) n m = still_step sets d c was

  complete_step : (e : Option Entry) → FitStep sets d (complete c e)
  complete_step None = serve_step sets d c.waiting c was
  complete_step (Some e) = let s = serve_step sets d c.waiting c was in record { based = s.based; sent = (tt, s.sent) }

  appended_step : (r : Role) (n place m : ℕ) → FitStep sets d (on_appended r c n place m)
  appended_step Idle n place m = still_step sets d c was
  appended_step (Peering informed) n place m = still_step sets d c was
  appended_step (Installing done) n place m = still_step sets d c was
  appended_step (Active None) n place m = still_step sets d c was
  appended_step (Active (Some holders)) n place m = by_test sets d ((c.promise == n) && (place == length c.log)) (if all_count c (counted c holders m) then complete c (last c.log) else still (record c { role = Active (Some (counted c holders m)) })) (still c)
      (λ _. by_test sets d (all_count c (counted c holders m)) (complete c (last c.log)) (still (record c { role = Active (Some (counted c holders m)) })) (λ _. complete_step (last c.log)) (λ _. record { based = was; sent = tt }))
      (λ _. still_step sets d c was)

  busy_step : (s : Sealed) (f : Option Entry) → FitStep sets d (busy_request c s f)
  busy_step s (Some e) = record { based = was; sent = (tt, tt) }
  busy_step s None = by_test sets d (is_in (ids c.log) s.id) (still c) (waits c s) (λ _. still_step sets d c was) (λ _. record { based = was; sent = tt })

  request_as_step : (r : Role) (s : Sealed) → FitStep sets d (on_request_as r c s)
  request_as_step Idle s = record { based = was; sent = (tt, tt) }
  request_as_step (Peering informed) s = record { based = was; sent = tt }
  request_as_step (Installing done) s = record { based = was; sent = tt }
  request_as_step (Active None) s = serve_step sets d (s ∷ c.waiting) c was
  request_as_step (Active (Some holders)) s = busy_step s (find (not_in_flight c.log (Some holders)) s.id)

  promised_based : (n : ℕ) → IsBased sets d (promise_interval c n)
  promised_based n = go (nat_lt c.promise n)
    where
      go : (b : Bool) → IsBased sets d (if b then record c { promise = n; role = Idle; waiting = [] } else c)
      go true = was
      go false = was

  query_step : (from : Party) (n : ℕ) → FitStep sets d (on_query c from n)
  query_step from n = by_test sets d (nat_lt n c.promise) (still c) (record { copy = promise_interval c n; sent = send c from (Info n c.base c.log) ∷ [] }) (λ _. still_step sets d c was) (λ _. record { based = promised_based n; sent = (tt, tt) })

  install_comes_step : (from : Party) (n : ℕ) (log : List Entry) → is_in (set_of sets n) d ≡ true → FitStep sets d (on_install c from n log)
  install_comes_step from n log in_set = go (nat_lt n c.promise)
    where
      inner : (b : Bool) → IsBased sets d (if b then record (promise_interval c n) { base = n; log = log } else promise_interval c n)
      inner true = λ from. in_set
      inner false = promised_based n

      go : (b : Bool) → FitStep sets d (if b then still c else (let next : Daemon = promise_interval c n in record { copy = if nat_lt c.base n then record next { base = n; log = log } else next; sent = send c from (Installed n) ∷ [] }))
      go true = still_step sets d c was
      go false = record { based = inner (nat_lt c.base n); sent = (tt, tt) }

  acknowledged_step : (c' : Daemon) (from : Party) (n place : ℕ) → IsBased sets d c' → FitStep sets d (acknowledged c' from n place)
  acknowledged_step c' from n place was' = by_test sets d (nat_lt (length c'.log) place) (still c') (record { copy = c'; sent = send c' from (Appended n place) ∷ [] }) (λ _. record { based = was'; sent = tt }) (λ _. record { based = was'; sent = (tt, tt) })

  append_step : (from : Party) (n place : ℕ) (s : Sealed) → FitStep sets d (on_append c from n place s)
  append_step from n place s = by_test sets d ((c.promise == n) && (c.base == n)) (if (length c.log + 1 == place) && not (is_in (ids c.log) s.id) then acknowledged (with_entry c s) from n place else acknowledged c from n place) (still c)
      (λ _. by_test sets d ((length c.log + 1 == place) && not (is_in (ids c.log) s.id)) (acknowledged (with_entry c s) from n place) (acknowledged c from n place) (λ _. acknowledged_step (with_entry c s) from n place was) (λ _. acknowledged_step c from n place was))
      (λ _. still_step sets d c was)

  interval_step : (known : List (List ℕ)) → IsKnown sets known → FitStep sets d (on_interval c known)
  interval_step known is_known = by_test sets d (nat_lt (length c.known) (length known)) (if leads c known then lead (record (learn_sets c known) { promise = length known }) else still (learn_sets c known)) (still c)
      (λ newer. by_test sets d (leads c known) (lead (record (learn_sets c known) { promise = length known })) (still (learn_sets c known)) (λ it. led newer it) (λ _. record { based = was; sent = tt }))
      (λ _. still_step sets d c was)
    where
      led : nat_lt (length c.known) (length known) ≡ true → leads c known ≡ true → FitStep sets d (lead (record (learn_sets c known) { promise = length known }))
      led newer it =
          let o = opening_led z sets promise h d c state known is_known newer it in
          let s = choice_step sets d (record (learn_sets c known) { promise = length known }) o [] was in
          record { based = s.based; sent = Each-append (SentFits sets) (queries (record (learn_sets c known) { promise = length known })) (try_choice (record (learn_sets c known) { promise = length known }) []).sent (asks_fits sets d (record (learn_sets c known) { promise = length known }) o) s.sent }

  pub comes_step : (b : Body) (from : Party) → RoleOk z sets promise h d c c.role → BodyOk sets promise h from b → BodyFits sets (Osd d) b → FitStep sets d (on_body b c from)
  comes_step (Interval known) from role ok fits = interval_step known ok
  comes_step (Query n) from role ok fits = query_step from n
  comes_step (Info n base log) (Osd m) role ok fits = info_step c.role n (record { number = m; base = base; log = log }) role
  comes_step (Info n base log) Client role ok fits = still_step sets d c was
  comes_step (Install n log) from role ok fits = install_comes_step from n log (fits.1 d refl).0
  comes_step (Installed n) (Osd m) role ok fits = installed_step c.role n m
  comes_step (Installed n) Client role ok fits = still_step sets d c was
  comes_step (Append n place s) from role ok fits = append_step from n place s
  comes_step (Appended n place) (Osd m) role ok fits = appended_step c.role n place m
  comes_step (Appended n place) Client role ok fits = still_step sets d c was
  comes_step (Request s) from role ok fits = by_test sets d (list_any (λ w. w.id == s.id) c.waiting) (still c) (on_request_as c.role c s) (λ _. still_step sets d c was) (λ _. request_as_step c.role s)
  comes_step (Reply id reply) from role ok fits = still_step sets d c was
  comes_step (NotHere id) from role ok fits = still_step sets d c was
