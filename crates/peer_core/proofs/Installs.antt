-- How an interval begins with the chosen log.
use Rattle.std.proofs.Common.{ℕ, ◌≡◌, ◌+◌, ◌<◌, ◌==◌, ◌&&◌, Bool, true, false, cond, List, [], ◌∷◌, ◌++◌, map, take, length, slice_index_or, nat_lt, refl, sym, ◌∙◌, ap}
use Rattle.std.specs.List.{filter}
use Rattle.std.specs.Prelude.{Option, Some, None, is_some, unwrap_or}
use Rattle.std.proofs.lemmas.Bool.{eqb-true, eq-eqb}
use Rattle.std.proofs.lemmas.List.{map-append, append-nil}
use Rattle.std.proofs.lemmas.List.Elements.{filter_more}
use Rattle.entry_core.specs.Fitting.{fitted}
use Rattle.entry_core.proofs.Fitting.{fit_of_nothing}
use Rattle.peer_core.specs.Types.{Sealed, Entry, Copy, Sent, Party, Offer, Common, Peering, Installing, Active, Installed}
use Rattle.peer_core.specs.ActingSets.{others, missing}
use Rattle.group_messages.specs.Beginnings.{common_of, count_at}
use Rattle.peer_core.specs.Steps.{still, send}
use Rattle.peer_core.specs.Serve.{serve}
use Rattle.peer_core.specs.Copy.{promise_interval, install_from, install_chosen, fit_chosen, install_fitted}
use Rattle.group_messages.proofs.Alike.{count_kept, map_alike}
use Rattle.peer_core.proofs.Serving.{none_left, missing_all}

-- a loop over members, some of whom are passed over

one_more : {Y : Type 0} (p : ℕ → Bool) (f : ℕ → Y) (xs : List ℕ) (i : ℕ) → i < length xs →
    map f (filter p (take (i + 1) xs)) ≡ map f (filter p (take i xs)) ++ map f (cond (p (slice_index_or xs i 0)) (slice_index_or xs i 0 ∷ []) [])
one_more p f xs i within = ap (map f) (filter_more p xs i 0 within) ∙ map-append f (filter p (take i xs)) _

pub keeps : {Y : Type 0} (p : ℕ → Bool) (f : ℕ → Y) (kept : List Y) (xs : List ℕ) (i : ℕ) → i < length xs → kept ≡ map f (filter p (take i xs)) → p (slice_index_or xs i 0) ≡ true →
    kept ++ f (slice_index_or xs i 0) ∷ [] ≡ map f (filter p (take (i + 1) xs))
keeps p f kept xs i within so_far is =
    ap (λ l. l ++ f (slice_index_or xs i 0) ∷ []) so_far
    ∙ sym (one_more p f xs i within ∙ ap (λ b. map f (filter p (take i xs)) ++ map f (cond b (slice_index_or xs i 0 ∷ []) [])) is)

pub leaves : {Y : Type 0} (p : ℕ → Bool) (f : ℕ → Y) (kept : List Y) (xs : List ℕ) (i : ℕ) → i < length xs → kept ≡ map f (filter p (take i xs)) → p (slice_index_or xs i 0) ≡ false →
    kept ≡ map f (filter p (take (i + 1) xs))
leaves p f kept xs i within so_far is =
    so_far
    ∙ sym (one_more p f xs i within ∙ ap (λ b. map f (filter p (take i xs)) ++ map f (cond b (slice_index_or xs i 0 ∷ []) [])) is ∙ append-nil _)

-- what is sent by the counts that are kept is what is sent by the counts

abbrev pub counts : List Offer → List Entry → List Entry → List ℕ → List Common
counts informed old new ms = map (λ m. record { member = m; count = common_of informed old new m }) ms

pub sent_chosen : (c : Copy) (informed : List Offer) (log : List Entry) (kept : List Common) (before sent : List Sent) (none : List ℕ) → none ≡ [] → kept ≡ counts informed c.log log (others c) →
    sent ≡ before ++ map (λ m. install_from c log m (count_at kept m)) (missing c none) → sent ≡ before ++ map (λ m. install_from c log m (common_of informed c.log log m)) (others c)
sent_chosen c informed log kept before sent none empty kept_is is =
    is
    ∙ (λ i. before ++ map (λ m. install_from c log m (count_at (kept_is i) m)) (missing c (empty i)))
    ∙ ap (λ ms. before ++ map (λ m. install_from c log m (count_at (counts informed c.log log (others c)) m)) ms) (missing_all c)
    ∙ ap (λ l. before ++ l)
    (map_alike (λ m. install_from c log m (count_at (counts informed c.log log (others c)) m)) (λ m. install_from c log m (common_of informed c.log log m)) (others c)
    (λ m within. ap (install_from c log m) (count_kept (common_of informed c.log log) (others c) m within)))

chosen_sent : (c : Copy) (informed : List Offer) (log : List Entry) (members : List ℕ) → (length members == 0) ≡ false →
    (install_chosen c informed log members).sent ≡ map (λ m. install_from c log m (common_of informed c.log log m)) members
chosen_sent c informed log [] some = absurd (cc)
chosen_sent c informed log (m ∷ ms) some = refl

pub install_sent : (c : Copy) (informed : List Offer) (log : List Entry) (before sent : List Sent) → (length (others c) == 0) ≡ false →
    sent ≡ before ++ map (λ m. install_from c log m (common_of informed c.log log m)) (others c) → sent ≡ before ++ (install_chosen c informed log (others c)).sent
install_sent c informed log before sent some is = is ∙ ap (λ l. before ++ l) (sym (chosen_sent c informed log (others c) some))

chosen_copy : (c : Copy) (informed : List Offer) (log : List Entry) (members : List ℕ) → (length members == 0) ≡ false →
    (install_chosen c informed log members).copy ≡ record c { base = c.promise; log = log; role = Installing [] (counts informed c.log log members) }
chosen_copy c informed log [] some = absurd (cc)
chosen_copy c informed log (m ∷ ms) some = refl

-- a copy that sends the chosen log to others
pub install_copy : (c : Copy) (informed : List Offer) (log : List Entry) (none : List ℕ) (kept : List Common) → none ≡ [] → kept ≡ counts informed c.log log (others c) → (length (others c) == 0) ≡ false →
    (install_chosen c informed log (others c)).copy ≡ record c { base = c.promise; log = log; role = Installing none kept }
install_copy c informed log none kept empty kept_is some =
    chosen_copy c informed log (others c) some ∙ (λ i. record c { base = c.promise; log = log; role = Installing (sym empty i) (sym kept_is i) })

chosen_alone : (c : Copy) (informed : List Offer) (log : List Entry) (members : List ℕ) → members ≡ [] → install_chosen c informed log members ≡ serve c.waiting (record c { base = c.promise; log = log; role = Active None })
chosen_alone c informed log members none = ap (install_chosen c informed log) none

-- or has nobody to send it to
pub install_alone : (c : Copy) (informed : List Offer) (log : List Entry) → (length (others c) == 0) ≡ true → install_chosen c informed log (others c) ≡ serve c.waiting (record c { base = c.promise; log = log; role = Active None })
install_alone c informed log alone = chosen_alone c informed log (others c) (none_left (others c) alone)

-- logs that are fitted

both_true : (a b : Bool) → (a && b) ≡ true → (a ≡ true) × (b ≡ true)
both_true true true is = (refl, refl)
both_true true false is = absurd (cc)
both_true false b is = absurd (cc)

-- an empty part that begins at the log's end
pub whole_fits : (log : List Entry) (start : ℕ) (part : List Sealed) → ((start == length log) && (length part == 0)) ≡ true → fitted log start part ≡ Some log
whole_fits log start part is =
    let both : ((start == length log) ≡ true) × ((length part == 0) ≡ true) = both_true (start == length log) (length part == 0) is in
    (λ i. fitted log (eqb-true start (length log) both.0 i) (none_left part both.1 i)) ∙ fit_of_nothing log

-- a choice whose part does not fit
pub unfitted : (c : Copy) (informed : List Offer) (f : Option (List Entry)) → c.role ≡ Peering informed → is_some f ≡ false → fit_chosen c informed f ≡ still c
unfitted c informed None is none = ap (λ r. still (record c { role = r })) (sym is)
unfitted c informed (Some log) is none = absurd (cc)

-- the copy stays as it was, and sends nothing
pub unfitted_copy : (c : Copy) (informed : List Offer) (f : Option (List Entry)) (log : List Entry) → c.role ≡ Peering informed → is_some f ≡ false → log ≡ unwrap_or f c.log → (fit_chosen c informed f).copy ≡ record c { log = log }
unfitted_copy c informed None log is none log_is = λ i. record c { log = sym log_is i; role = sym is i }
unfitted_copy c informed (Some new) log is none log_is = absurd (cc)

pub unfitted_sent : (c : Copy) (informed : List Offer) (f : Option (List Entry)) (before : List Sent) → is_some f ≡ false → before ≡ before ++ (fit_chosen c informed f).sent
unfitted_sent c informed None before none = sym (append-nil before)
unfitted_sent c informed (Some new) before none = absurd (cc)

-- and one whose part does
pub fits : (c : Copy) (informed : List Offer) (f : Option (List Entry)) (old log : List Entry) → is_some f ≡ true → log ≡ unwrap_or f old → fit_chosen c informed f ≡ install_chosen c informed log (others c)
fits c informed None old log some is = absurd (cc)
fits c informed (Some new) old log some is = ap (λ l. install_chosen c informed l (others c)) (sym is)

pub fitted_log : (f : Option (List Entry)) (old log : List Entry) → is_some f ≡ true → log ≡ unwrap_or f old → f ≡ Some log
fitted_log None old log some is = absurd (cc)
fitted_log (Some new) old log some is = ap (λ l. Some l) (sym is)

-- where nobody else is, and nothing waits
pub fits_idle : (c : Copy) (informed : List Offer) (f : Option (List Entry)) (log : List Entry) → (length (others c) == 0) ≡ true → length c.waiting ≡ 0 → is_some f ≡ true → log ≡ unwrap_or f c.log →
    fit_chosen c informed f ≡ record { copy = record c { base = c.promise; log = log; role = Active None; waiting = [] }; sent = [] }
fits_idle c informed f log alone idle some is =
    fits c informed f c.log log some is ∙ install_alone c informed log alone
    ∙ ap (λ w. serve w (record c { base = c.promise; log = log; role = Active None })) (none_left c.waiting (eq-eqb (length c.waiting) 0 idle))

-- an install
promised : (c : Copy) (n : ℕ) (log : List Entry) (b : Bool) → nat_lt c.promise n ≡ b → promise_interval (record c { base = n; log = log }) n ≡ record (promise_interval c n) { base = n; log = log }
promised c n log true is = rw is refl
promised c n log false is = rw is refl

pub part_unfitted : (c : Copy) (from : Party) (n : ℕ) (f : Option (List Entry)) → is_some f ≡ false → install_fitted c from n f ≡ still c
part_unfitted c from n None none = refl
part_unfitted c from n (Some log) none = absurd (cc)

pub part_fits : (c : Copy) (from : Party) (n : ℕ) (f : Option (List Entry)) (log : List Entry) → is_some f ≡ true → log ≡ unwrap_or f c.log →
    install_fitted c from n f ≡ record { copy = promise_interval (record c { base = n; log = log }) n; sent = send c from (Installed n) ∷ [] }
part_fits c from n None log some is = absurd (cc)
part_fits c from n (Some new) log some is =
    ap (λ (l : List Entry). record { copy = record (promise_interval c n) { base = n; log = l }; sent = send c from (Installed n) ∷ [] }) (sym is)
    ∙ ap (λ (v : Copy). record { copy = v; sent = send c from (Installed n) ∷ [] }) (sym (promised c n log (nat_lt c.promise n) refl))
