-- Each rule sends an entry from the first of its interval's set to other members alone.
use Rattle.std.proofs.Common.{ℕ, ◌≡◌, ◌+◌, Bool, true, false, not, ◌==◌, ◌&&◌, nat_lt, List, [], ◌∷◌, ◌++◌, map, length, refl, sym, subst, if◌then◌else◌}
use Rattle.std.specs.Prelude.{Option, Some, None}
use Rattle.std.specs.List.{list_any, filter}
use Rattle.entry_core.specs.Log.{is_in, find, ids}
use Rattle.store_core.specs.Request.{Sealed}
use Rattle.store_core.specs.declared.entry.Entry.{Entry}
use Rattle.group_model_whole.specs.Choice.{is_informed, can_choose, best, own_offer}
use Rattle.group_model_whole.specs.Steps.{Stepped, still, send}
use Rattle.group_model_whole.specs.ActingSets.{set_of, is_primary, others, all_count, asked, counted}
use Rattle.group_model_whole.specs.Serve.{serve, serve_one, push_new}
use Rattle.group_model_whole.specs.Decided.{with_entry, last, not_in_flight}
use Rattle.group_model_whole.specs.Copy.{install_chosen, try_choice, on_info, on_installed, on_appended, complete, on_request_as, busy_request, waits, on_query, promise_interval, on_append, append_again, acknowledged, on_install, on_interval, leads, lead, learn_sets, queries, on_body, retransmit_as}
use Rattle.group_model_whole.specs.Types.{PeerInfo, Role, Idle, Peering, Installing, Active, Daemon, Body, Interval, Query, Info, Install, Installed, Append, Appended, Request, Reply, NotHere, Party, Client, Osd, Sent}
use Rattle.group_model_whole.specs.Each.{Each}
use Rattle.group_model_whole.specs.History.{History}
use Rattle.group_model_whole.specs.Laws.{GoesToOther}
use Rattle.group_model_whole.proofs.Eaches.{Each-append, Each-map_all}
use Rattle.group_model_whole.proofs.RecoveryLists.{filter_kept}
use Rattle.group_model_whole.proofs.Invariant.{IsKnown, RoleOk, StateOk, BodyOk}
use Rattle.group_model_whole.proofs.RecoveryMoves.{others_other}
use Rattle.group_model_whole.proofs.RecoveryFits.{Opening, second, opening, opening_led}
use Rattle.group_model_whole.proofs.QuietLists.{each_sent}

-- an entry goes from the first of its interval's set to another member
abbrev pub BodyGoes : List (List ℕ) → Party → Party → Body → Type 0
BodyGoes sets from to (Interval known) = Unit {0}
BodyGoes sets from to (Query n) = Unit {0}
BodyGoes sets from to (Info n base log) = Unit {0}
BodyGoes sets from to (Install n log) = Unit {0}
BodyGoes sets from to (Installed n) = Unit {0}
BodyGoes sets from to (Append n place s) = GoesToOther sets n from to
BodyGoes sets from to (Appended n place) = Unit {0}
BodyGoes sets from to (Request s) = Unit {0}
BodyGoes sets from to (Reply id reply) = Unit {0}
BodyGoes sets from to (NotHere id) = Unit {0}

abbrev pub SentGoes : List (List ℕ) → Sent → Type 0
SentGoes sets m = BodyGoes sets m.from m.to m.body

-- what a step sends goes so
abbrev Goes : List (List ℕ) → Stepped → Type 0
Goes sets s = Each (SentGoes sets) s.sent

by_test : (sets : List (List ℕ)) (b : Bool) (x y : Stepped) → (b ≡ true → Goes sets x) → (b ≡ false → Goes sets y) → Goes sets (if b then x else y)
by_test sets true x y p q = p refl
by_test sets false x y p q = q refl

module _ (sets : List (List ℕ)) (d : ℕ) where
  one_goes : (c : Daemon) → Opening sets d c → (place : ℕ) (s : Sealed) (m : ℕ) → is_in (others c) m ≡ true → SentGoes sets (send c (Osd m) (Append c.promise place s))
  one_goes c o place s m in_others = record {
    later = o.later;
    primary = c.number;
    member = m;
    is_from = refl;
    is_to = refl;
    first = subst (λ v. is_primary (set_of sets c.promise) v ≡ true) (sym o.number) o.first;
    is_member = subst (λ v. is_in v m ≡ true) o.same (filter_kept (λ m. not (m == c.number)) (set_of c.known c.promise) m in_others).is_item;
    other = second sets d c o m (others_other c m in_others);
  }

  all_go : (c : Daemon) → Opening sets d c → (place : ℕ) (s : Sealed) → Each (SentGoes sets) (map (λ m. send c (Osd m) (Append c.promise place s)) (others c))
  all_go c o place s = each_sent (SentGoes sets) (λ m. send c (Osd m) (Append c.promise place s)) (others c) (one_goes c o place s)

  again_go : (c : Daemon) → Opening sets d c → (e : Option Entry) (test : ℕ → Bool) → Each (SentGoes sets) (append_again c e (filter test (others c)))
  again_go c o None test = tt
  again_go c o (Some e) test = each_sent (SentGoes sets) (λ m. send c (Osd m) (Append c.promise (length c.log) e.sealed)) (filter test (others c))
      (λ m is. one_goes c o (length c.log) e.sealed m (filter_kept test (others c) m is).is_item)

  serve_goes : (waiting : List Sealed) (c : Daemon) → Opening sets d c → Goes sets (serve waiting c)
  serve_goes [] c o = tt
  serve_goes (s ∷ rest) c o = go (find c.log s.id) (serve_goes rest c o) (serve_goes rest (with_entry c s) (record { later = o.later; number = o.number; first = o.first; same = o.same }))
    where
      push : (ms : List ℕ) → Goes sets (serve rest (with_entry c s)) → Goes sets (push_new ms c s rest (serve rest (with_entry c s)))
      push [] later = (tt, later)
      push (m ∷ ms) later = all_go c o (length c.log + 1) s

      go : (f : Option Entry) → Goes sets (serve rest c) → Goes sets (serve rest (with_entry c s)) → Goes sets (serve_one f c s rest (serve rest c) (serve rest (with_entry c s)))
      go (Some e) after later = (tt, after)
      go None after later = push (others c) later

  install_goes : (c : Daemon) → Opening sets d c → (log : List Entry) (ms : List ℕ) → Goes sets (install_chosen c log ms)
  install_goes c o log [] = serve_goes c.waiting (record c { base = c.promise; log = log; role = Active None }) (record { later = o.later; number = o.number; first = o.first; same = o.same })
  install_goes c o log (m ∷ ms) = Each-map_all (SentGoes sets) (λ m. send c (Osd m) (Install c.promise log)) (λ m. tt) (m ∷ ms)

  choice_goes : (c : Daemon) → Opening sets d c → (informed : List PeerInfo) → Goes sets (try_choice c informed)
  choice_goes c o informed = by_test sets (can_choose c informed) (install_chosen c (best (own_offer c) informed).log (others c)) (still (record c { role = Peering informed }))
      (λ _. install_goes c o (best (own_offer c) informed).log (others c)) (λ _. tt)

module _ (z : ℕ) (sets : List (List ℕ)) (promise : ℕ → ℕ) (h : History) (d : ℕ) (c : Daemon) (state : StateOk z sets promise h d c) where
  info_goes : (r : Role) (n : ℕ) (offer : PeerInfo) → RoleOk z sets promise h d c r → Goes sets (on_info r c n offer)
  info_goes Idle n offer ok = tt
  info_goes (Peering informed) n offer ok = by_test sets ((c.promise == n) && not (is_informed c informed offer.number)) (try_choice c (informed ++ offer ∷ [])) (still c)
      (λ _. choice_goes sets d c (opening z sets promise h d c state ok.leads) (informed ++ offer ∷ [])) (λ _. tt)
  info_goes (Installing done) n offer ok = tt
  info_goes (Active flight) n offer ok = tt

  installed_goes : (r : Role) (n m : ℕ) → RoleOk z sets promise h d c r → Goes sets (on_installed r c n m)
  installed_goes Idle n m ok = tt
  installed_goes (Peering informed) n m ok = tt
  installed_goes (Installing done) n m ok = by_test sets (c.promise == n) (if all_count c (counted c done m) then serve c.waiting c else still (record c { role = Installing (counted c done m) })) (still c)
      (λ _. by_test sets (all_count c (counted c done m)) (serve c.waiting c) (still (record c { role = Installing (counted c done m) })) (λ _. serve_goes sets d c.waiting c (opening z sets promise h d c state ok.owns.leads)) (λ _. tt))
      (λ _. tt)
  installed_goes (Active flight) n m ok = tt

  complete_goes : Opening sets d c → (e : Option Entry) → Goes sets (complete c e)
  complete_goes o None = serve_goes sets d c.waiting c o
  complete_goes o (Some e) = (tt, serve_goes sets d c.waiting c o)

  appended_goes : (r : Role) (n place m : ℕ) → RoleOk z sets promise h d c r → Goes sets (on_appended r c n place m)
  appended_goes Idle n place m ok = tt
  appended_goes (Peering informed) n place m ok = tt
  appended_goes (Installing done) n place m ok = tt
  appended_goes (Active None) n place m ok = tt
  appended_goes (Active (Some holders)) n place m ok = by_test sets ((c.promise == n) && (place == length c.log))
      (if all_count c (counted c holders m) then complete c (last c.log) else still (record c { role = Active (Some (counted c holders m)) })) (still c)
      (λ _. by_test sets (all_count c (counted c holders m)) (complete c (last c.log)) (still (record c { role = Active (Some (counted c holders m)) })) (λ _. complete_goes (opening z sets promise h d c state ok.0.leads) (last c.log)) (λ _. tt))
      (λ _. tt)

  busy_goes : (s : Sealed) (f : Option Entry) → Goes sets (busy_request c s f)
  busy_goes s (Some e) = (tt, tt)
  busy_goes s None = by_test sets (is_in (ids c.log) s.id) (still c) (waits c s) (λ _. tt) (λ _. tt)

  request_goes : (r : Role) (s : Sealed) → RoleOk z sets promise h d c r → Goes sets (on_request_as r c s)
  request_goes Idle s ok = (tt, tt)
  request_goes (Peering informed) s ok = tt
  request_goes (Installing done) s ok = tt
  request_goes (Active None) s ok = serve_goes sets d (s ∷ c.waiting) c (opening z sets promise h d c state ok.0.leads)
  request_goes (Active (Some holders)) s ok = busy_goes s (find (not_in_flight c.log (Some holders)) s.id)

  query_goes : (from : Party) (n : ℕ) → Goes sets (on_query c from n)
  query_goes from n = by_test sets (nat_lt n c.promise) (still c) (record { copy = promise_interval c n; sent = send c from (Info n c.base c.log) ∷ [] }) (λ _. tt) (λ _. (tt, tt))

  install_comes_goes : (from : Party) (n : ℕ) (log : List Entry) → Goes sets (on_install c from n log)
  install_comes_goes from n log = by_test sets (nat_lt n c.promise) (still c)
      (record { copy = if nat_lt c.base n then record (promise_interval c n) { base = n; log = log } else promise_interval c n; sent = send c from (Installed n) ∷ [] }) (λ _. tt) (λ _. (tt, tt))

  acknowledged_goes : (c' : Daemon) (from : Party) (n place : ℕ) → Goes sets (acknowledged c' from n place)
  acknowledged_goes c' from n place = by_test sets (nat_lt (length c'.log) place) (still c') (record { copy = c'; sent = send c' from (Appended n place) ∷ [] }) (λ _. tt) (λ _. (tt, tt))

  append_goes : (from : Party) (n place : ℕ) (s : Sealed) → Goes sets (on_append c from n place s)
  append_goes from n place s = by_test sets ((c.promise == n) && (c.base == n))
      (if (length c.log + 1 == place) && not (is_in (ids c.log) s.id) then acknowledged (with_entry c s) from n place else acknowledged c from n place) (still c)
      (λ _. by_test sets ((length c.log + 1 == place) && not (is_in (ids c.log) s.id)) (acknowledged (with_entry c s) from n place) (acknowledged c from n place)
      (λ _. acknowledged_goes (with_entry c s) from n place) (λ _. acknowledged_goes c from n place))
      (λ _. tt)

  lead_goes : (c' : Daemon) → Opening sets d c' → Goes sets (lead c')
  lead_goes c' o = Each-append (SentGoes sets) (queries c') (try_choice c' []).sent (Each-map_all (SentGoes sets) (λ m. send c' (Osd m) (Query c'.promise)) (λ m. tt) (asked c')) (choice_goes sets d c' o [])

  interval_goes : (known : List (List ℕ)) → IsKnown sets known → Goes sets (on_interval c known)
  interval_goes known is_known = by_test sets (nat_lt (length c.known) (length known)) (if leads c known then lead (record (learn_sets c known) { promise = length known }) else still (learn_sets c known)) (still c)
      (λ newer. by_test sets (leads c known) (lead (record (learn_sets c known) { promise = length known })) (still (learn_sets c known))
      (λ it. lead_goes (record (learn_sets c known) { promise = length known }) (opening_led z sets promise h d c state known is_known newer it)) (λ _. tt))
      (λ _. tt)

  pub comes_goes : (b : Body) (from : Party) → RoleOk z sets promise h d c c.role → BodyOk sets promise h from b → Each (SentGoes sets) (on_body b c from).sent
  comes_goes (Interval known) from role ok = interval_goes known ok
  comes_goes (Query n) from role ok = query_goes from n
  comes_goes (Info n base log) (Osd m) role ok = info_goes c.role n (record { number = m; base = base; log = log }) role
  comes_goes (Info n base log) Client role ok = tt
  comes_goes (Install n log) from role ok = install_comes_goes from n log
  comes_goes (Installed n) (Osd m) role ok = installed_goes c.role n m role
  comes_goes (Installed n) Client role ok = tt
  comes_goes (Append n place s) from role ok = append_goes from n place s
  comes_goes (Appended n place) (Osd m) role ok = appended_goes c.role n place m role
  comes_goes (Appended n place) Client role ok = tt
  comes_goes (Request s) from role ok = by_test sets (list_any (λ w. w.id == s.id) c.waiting) (still c) (on_request_as c.role c s) (λ _. tt) (λ _. request_goes c.role s role)
  comes_goes (Reply id reply) from role ok = tt
  comes_goes (NotHere id) from role ok = tt

  pub kicked_goes : (r : Role) → RoleOk z sets promise h d c r → Each (SentGoes sets) (retransmit_as r c)
  kicked_goes Idle ok = tt
  kicked_goes (Peering informed) ok = Each-map_all (SentGoes sets) (λ m. send c (Osd m) (Query c.promise)) (λ m. tt) (filter (λ m. not (is_informed c informed m)) (asked c))
  kicked_goes (Installing done) ok = Each-map_all (SentGoes sets) (λ m. send c (Osd m) (Install c.promise c.log)) (λ m. tt) (filter (λ m. not (is_in done m)) (others c))
  kicked_goes (Active None) ok = tt
  kicked_goes (Active (Some holders)) ok = again_go sets d c (opening z sets promise h d c state ok.0.leads) (last c.log) (λ m. not (is_in holders m))
