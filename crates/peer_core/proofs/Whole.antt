-- A copy and what it sends, put together, and what is undone where memory is refused.
use Rattle.std.proofs.Common.{ℕ, ◌≡◌, ◌==◌, ◌&&◌, not, true, cond, List, [], ◌∷◌, ◌++◌, length, refl, sym, ◌∙◌, ap}
use Rattle.std.specs.Prelude.{Option, Some, None}
use Rattle.entry_core.specs.Log.{find}
use Rattle.peer_core.specs.Types.{Sealed, Entry, Copy, Sent, Offer, Role, Idle, Peering, Installing, Active}
use Rattle.entry_core.specs.Fitting.{fitted}
use Rattle.peer_core.specs.Choice.{best, own_offer, is_informed, can_choose}
use Rattle.peer_core.specs.Decided.{with_entry}
use Rattle.peer_core.specs.Steps.{Stepped, still}
use Rattle.peer_core.specs.ActingSets.{others}
use Rattle.peer_core.specs.Serve.{serve, serve_one, push_new}
use Rattle.peer_core.specs.Copy.{on_info_as, try_choice, fit_chosen, install_chosen, learn_sets, queries, lead}
use Rattle.peer_core.specs.Stages.{awaits}

pub whole : (v : Stepped) (new : Copy) (first all : List Sent) → v.copy ≡ new → first ≡ [] → all ≡ first ++ v.sent → v ≡ record { copy = new; sent = all }
whole v new first all copy none sent = rw (← copy, sent, none) refl

-- what waits is no matter to serving other requests

push_new_waiting : (members : List ℕ) (c : Copy) (w : List Sealed) (s : Sealed) (rest : List Sealed) (after : Stepped) → push_new members (record c { waiting = w }) s rest after ≡ push_new members c s rest after
push_new_waiting [] c w s rest after = refl
push_new_waiting (m ∷ ms) c w s rest after = refl

serve_one_waiting : (f : Option Entry) (c : Copy) (w : List Sealed) (s : Sealed) (rest : List Sealed) (there after : Stepped) → serve_one f (record c { waiting = w }) s rest there after ≡ serve_one f c s rest there after
serve_one_waiting (Some e) c w s rest there after = refl
serve_one_waiting None c w s rest there after = push_new_waiting (others c) c w s rest after

pub serve_waiting : (requests : List Sealed) (c : Copy) (w : List Sealed) → serve requests (record c { waiting = w }) ≡ serve requests c
serve_waiting [] c w = refl
serve_waiting (s ∷ rest) c w =
    ap (λ a. serve_one (find c.log s.id) (record c { waiting = w }) s rest a (serve rest (with_entry (record c { waiting = w }) s))) (serve_waiting rest c w)
    ∙ ap (λ b. serve_one (find c.log s.id) (record c { waiting = w }) s rest (serve rest c) b) (serve_waiting rest (with_entry c s) w)
    ∙ serve_one_waiting (find c.log s.id) c w s rest (serve rest c) (serve rest (with_entry c s))

-- nor is the role

push_new_role : (members : List ℕ) (c : Copy) (r : Role) (s : Sealed) (rest : List Sealed) (after : Stepped) → push_new members (record c { role = r }) s rest after ≡ push_new members c s rest after
push_new_role [] c r s rest after = refl
push_new_role (m ∷ ms) c r s rest after = refl

serve_one_role : (f : Option Entry) (c : Copy) (r : Role) (s : Sealed) (rest : List Sealed) (there after : Stepped) → serve_one f (record c { role = r }) s rest there after ≡ serve_one f c s rest there after
serve_one_role (Some e) c r s rest there after = refl
serve_one_role None c r s rest there after = push_new_role (others c) c r s rest after

pub serve_role : (requests : List Sealed) (c : Copy) (r : Role) → serve requests (record c { role = r }) ≡ serve requests c
serve_role [] c r = refl
serve_role (s ∷ rest) c r =
    ap (λ a. serve_one (find c.log s.id) (record c { role = r }) s rest a (serve rest (with_entry (record c { role = r }) s))) (serve_role rest c r)
    ∙ ap (λ b. serve_one (find c.log s.id) (record c { role = r }) s rest (serve rest c) b) (serve_role rest (with_entry c s) r)
    ∙ serve_one_role (find c.log s.id) c r s rest (serve rest c) (serve rest (with_entry c s))

-- an offer that is awaited

pub record Awaited (r : Role) (c : Copy) (n m : ℕ) : Type 0 where
  pub informed : List Offer
  pub is : r ≡ Peering informed
  pub test : ((c.promise == n) && not (is_informed c informed m)) ≡ true

pub awaited : (r : Role) (c : Copy) (n m : ℕ) → awaits r c n m ≡ true → Awaited r c n m
awaited (Peering informed) c n m is = record { informed = informed; is = refl; test = is }
awaited Idle c n m is = absurd (cc)
awaited (Installing done common) c n m is = absurd (cc)
awaited (Active flight) c n m is = absurd (cc)

unawaited_test : (c : Copy) (n : ℕ) (offer : Offer) (informed : List Offer) → ((c.promise == n) && not (is_informed c informed offer.number)) ≡ true → on_info_as (Peering informed) c n offer ≡ try_choice c (informed ++ offer ∷ [])
unawaited_test c n offer informed test = rw test refl

pub hears : (c : Copy) (n : ℕ) (offer : Offer) (w : Awaited c.role c n offer.number) → on_info_as c.role c n offer ≡ try_choice c (w.informed ++ offer ∷ [])
hears c n offer w = ap (λ r. on_info_as r c n offer) w.is ∙ unawaited_test c n offer w.informed w.test

-- the choice does not look at the role

chosen_role : (c : Copy) (r : Role) (informed : List Offer) (log : List Entry) (members : List ℕ) → install_chosen (record c { role = r }) informed log members ≡ install_chosen c informed log members
chosen_role c r informed log [] = refl
chosen_role c r informed log (m ∷ ms) = refl

fit_role : (c : Copy) (r : Role) (informed : List Offer) (f : Option (List Entry)) → fit_chosen (record c { role = r }) informed f ≡ fit_chosen c informed f
fit_role c r informed None = refl
fit_role c r informed (Some log) = chosen_role c r informed log (others c)

pub choice_role : (c : Copy) (r : Role) (informed : List Offer) → try_choice (record c { role = r }) informed ≡ try_choice c informed
choice_role c r informed =
    ap (λ v. cond (can_choose c informed) v (still (record c { role = Peering informed }))) (fit_role c r informed (fitted c.log (best (own_offer c) informed).start (best (own_offer c) informed).part))

pub lead_role : (c : Copy) (r : Role) → lead (record c { role = r }) ≡ lead c
lead_role c r = ap (λ (v : Stepped). record { copy = v.copy; sent = queries c ++ v.sent }) (choice_role c r [])

-- an offer that is forgotten again
pub forgotten : (old now : Copy) (informed : List Offer) (offer : Offer) → old.role ≡ Peering informed → now ≡ record old { role = Peering (informed ++ offer ∷ []) } → record now { role = Peering informed } ≡ old
forgotten old now informed offer is now_is = rw (now_is, ← is) refl

-- the turn to the next interval
pub led_next : (c : Copy) (sets : List (List ℕ)) (n : ℕ) (known : List (List ℕ)) (role : Role) (waiting : List Sealed) (new : Copy) (sent : List Sent) → n ≡ length sets → known ≡ sets → role ≡ Peering [] → waiting ≡ [] →
    (role ≡ Peering [] → lead (record c { promise = n; known = known; role = role; waiting = waiting }) ≡ record { copy = new; sent = sent }) → lead (record (learn_sets c sets) { promise = length sets }) ≡ record { copy = new; sent = sent }
led_next c sets n known role waiting new sent n_is known_is role_is none led =
    ap (λ m. lead (record (learn_sets c sets) { promise = m })) (sym n_is)
    ∙ ap (λ k. lead (record c { promise = n; known = k; role = Idle; waiting = [] })) (sym known_is)
    ∙ ap (λ w. lead (record c { promise = n; known = known; role = Idle; waiting = w })) (sym none)
    ∙ sym (lead_role (record c { promise = n; known = known; role = Idle; waiting = waiting }) role)
    ∙ led role_is
