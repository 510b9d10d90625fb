-- Who is asked.
use Rattle.std.proofs.Common.{ℕ, ◌≡◌, ◌==◌, ◌||◌, ◌&&◌, not, Bool, true, false, List, [], ◌∷◌, ◌++◌, map, refl, ap}
use Rattle.std.specs.List.{filter, list_any}
use Rattle.std.specs.Prelude.{Result, Ok, Err, OnOk, IfOk}
use Rattle.std.specs.declared.alloc.AllocError.{AllocError}
use Rattle.entry_core.specs.Log.{is_in}
use Rattle.peer_core.specs.Types.{Copy, Sent, Osd}
use Rattle.group_messages.specs.ActingSets.{daemons}
use Rattle.peer_core.specs.ActingSets.{is_asked}
use Rattle.peer_core.specs.Choice.{is_informed}
use Rattle.peer_core.specs.Steps.{send}
use Rattle.peer_core.specs.Copy.{query, uninformed, queries, lead, try_choice}

-- a test that another implies
kept_head : (p q : ℕ → Bool) → ((d : ℕ) → p d ≡ true → q d ≡ true) → (d : ℕ) (ds : List ℕ) (b : Bool) → p d ≡ b → filter q (filter p ds) ≡ filter p ds → filter q (filter p (d ∷ ds)) ≡ filter p (d ∷ ds)
kept_head p q implied d ds true is rest = rw (is, implied d is) (ap (λ v. d ∷ v) rest)
kept_head p q implied d ds false is rest = rw is rest

kept : (p q : ℕ → Bool) → ((d : ℕ) → p d ≡ true → q d ≡ true) → (ds : List ℕ) → filter q (filter p ds) ≡ filter p ds
kept p q implied [] = refl
kept p q implied (d ∷ ds) = kept_head p q implied d ds (p d) refl (kept p q implied ds)

asked_unheard : (self asks : Bool) → (not self && asks) ≡ true → not (self || false) ≡ true
asked_unheard true asks is = is
asked_unheard false asks is = refl

unheard_all : (c : Copy) (ds : List ℕ) → filter (λ d. not (is_informed c [] d)) (filter (λ d. is_asked c d) ds) ≡ filter (λ d. is_asked c d) ds
unheard_all c ds = kept (λ d. is_asked c d) (λ d. not (is_informed c [] d)) (λ d is. asked_unheard (d == c.number) (list_any (λ members. is_in members d) c.known) is) ds

pub queries_all : (c : Copy) → map (λ d. send c (Osd d) (query c)) (uninformed c []) ≡ queries c
queries_all c = ap (λ ds. map (λ d. send c (Osd d) (query c)) ds) (unheard_all c daemons)

pub leads_on : (c : Copy) (first : List Sent) (result : Result (List Sent) AllocError) (new : Copy) →
    first ≡ map (λ d. send c (Osd d) (query c)) (uninformed c []) → OnOk result ((try_choice c []).copy ≡ new) → IfOk result (λ all. all ≡ first ++ (try_choice c []).sent) →
    IfOk result (λ sent. lead c ≡ record { copy = new; sent = sent })
leads_on c first (Ok all) new asks copy sent = rw (← copy, sent, asks, queries_all c) refl
leads_on c first (Err error) new asks copy sent = tt
