-- What a search keeps as it goes through the places that it found.
use Rattle.std.proofs.Common.{◌≡◌, ℕ, ◌+◌, ◌<◌, ◌≤◌, ◌⊎◌, List, [], ◌∷◌, ◌++◌, length, get_or, IsSome, nat_eq, sym, ap, subst, ◌∙◌, inl, inr, arith, length-append}
use Rattle.std.specs.List.{Contains}
use Rattle.std.specs.Map.{lookup}
use Rattle.std.proofs.lemmas.Bool.{cases_eq, cases_lt}
use Rattle.std.proofs.lemmas.List.{get_or_append_left}
use Rattle.std.proofs.Math.Seq.{get_or-append_seam}
use Rattle.flow_core.specs.Chains.{AreSteps, IsChain, IsStep}
use Rattle.flow_core.specs.Searching.{Entries, Finds, FindsEach, IsNew}
use Rattle.flow_core.proofs.Entries.{chain_at, items_or_none, chain_here, chain_other, known_at, places_of, places_push}
use Rattle.flow_core.proofs.Listing.{in_cases, in_first, in_later}
use Rattle.flow_core.proofs.Walks.{chain_longer, last_of}

-- how long the chain is that found a place; none has no places
abbrev pub chain_length : (ℕ → List ℕ) → ℕ → ℕ
chain_length chains place = length (chains place)

-- a place in the queue from `next` on
abbrev pub IsPending : List ℕ → ℕ → ℕ → Type 0
IsPending queue next place = (i : ℕ) × (next ≤ i) × (i < length queue) × (get_or queue i 0 ≡ place)

-- each step from the place leads to one that is found, at most one further
abbrev pub IsClosed : List (List ℕ) → (ℕ → List ℕ) → ℕ → Type 0
IsClosed steps chains place = (c : ℕ) → IsStep steps place c → (0 < chain_length chains c) × (chain_length chains c ≤ chain_length chains place + 1)

-- What is so while the steps from one place are followed, to which a walk leads: those to the rest are still to come, and the
-- queue is to be gone through from `next` on.
pub record IsUnderway (steps : List (List ℕ)) (start : ℕ) (walk : List ℕ) (rest : List ℕ) (chains : ℕ → List ℕ) (queue : List ℕ) (next : ℕ) : Type 0 where
  pub past : next ≤ length queue
  pub walked : AreSteps (IsStep steps) start walk
  pub listed : (c : ℕ) → Contains rest c → Contains (get_or steps (last_of start walk) []) c
  pub queued : (i : ℕ) → i < length queue → get_or queue i 0 < length steps
  pub known : (i : ℕ) → i < length queue → 0 < chain_length chains (get_or queue i 0)
  pub sound : (b : ℕ) → 0 < chain_length chains b → IsChain (IsStep steps) start b (chains b)
  pub in_order : (i j : ℕ) → next ≤ i → i ≤ j → j < length queue → chain_length chains (get_or queue i 0) ≤ chain_length chains (get_or queue j 0)
  pub near : (i b : ℕ) → next ≤ i → i < length queue → chain_length chains b ≤ chain_length chains (get_or queue i 0) + 1
  pub behind : (i : ℕ) → next ≤ i → i < length queue → length walk ≤ chain_length chains (get_or queue i 0)
  pub within : (b : ℕ) → chain_length chains b ≤ length walk + 1
  pub here : (c : ℕ) → IsStep steps (last_of start walk) c → (0 < chain_length chains c) ⊎ Contains rest c
  pub closed : (b : ℕ) → 0 < chain_length chains b → IsPending queue next b ⊎ (IsClosed steps chains b ⊎ ((b ≡ last_of start walk) × (chain_length chains b ≡ length walk)))

-- What is so between: each step from the start is followed, and each place that is found is pending or closed.
pub record IsSearched (steps : List (List ℕ)) (start : ℕ) (chains : ℕ → List ℕ) (queue : List ℕ) (next : ℕ) : Type 0 where
  pub past : next ≤ length queue
  pub queued : (i : ℕ) → i < length queue → get_or queue i 0 < length steps
  pub known : (i : ℕ) → i < length queue → 0 < chain_length chains (get_or queue i 0)
  pub sound : (b : ℕ) → 0 < chain_length chains b → IsChain (IsStep steps) start b (chains b)
  pub in_order : (i j : ℕ) → next ≤ i → i ≤ j → j < length queue → chain_length chains (get_or queue i 0) ≤ chain_length chains (get_or queue j 0)
  pub near : (i b : ℕ) → next ≤ i → i < length queue → chain_length chains b ≤ chain_length chains (get_or queue i 0) + 1
  pub first : (c : ℕ) → IsStep steps start c → (0 < chain_length chains c) × (chain_length chains c ≤ 1)
  pub closed : (b : ℕ) → 0 < chain_length chains b → IsPending queue next b ⊎ IsClosed steps chains b

-- one place of the rest was known
here_known : (steps : List (List ℕ)) (from place : ℕ) (rest : List ℕ) (chains : ℕ → List ℕ) (c : ℕ) → (length steps ≤ place) ⊎ (0 < chain_length chains place)
    → IsStep steps from c → (0 < chain_length chains c) ⊎ ((place ≡ c) ⊎ Contains rest c) → (0 < chain_length chains c) ⊎ Contains rest c
here_known steps from place rest chains c known step (inl found) = inl found
here_known steps from place rest chains c known step (inr (inr later)) = inr later
here_known steps from place rest chains c (inl missing) step (inr (inl same)) = let inside : c < length steps = step.0 in absurd (omega arith)
here_known steps from place rest chains c (inr found) step (inr (inl same)) = inl (subst (λ p. 0 < chain_length chains p) same found)

split_rest : (place : ℕ) (rest : List ℕ) (c : ℕ) (P : Type 0) → P ⊎ Contains (place ∷ rest) c → P ⊎ ((place ≡ c) ⊎ Contains rest c)
split_rest place rest c P (inl found) = inl found
split_rest place rest c P (inr inside) = inr (in_cases place rest c inside)

still_underway : (steps : List (List ℕ)) (start : ℕ) (walk : List ℕ) (place : ℕ) (rest : List ℕ) (chains : ℕ → List ℕ) (queue : List ℕ) (next : ℕ)
    → (length steps ≤ place) ⊎ (0 < chain_length chains place) → IsUnderway steps start walk (place ∷ rest) chains queue next → IsUnderway steps start walk rest chains queue next
still_underway steps start walk place rest chains queue next known is = record {
  past = is.past;
  walked = is.walked;
  listed = λ c inside. is.listed c (in_later place rest c inside);
  queued = is.queued;
  known = is.known;
  sound = is.sound;
  in_order = is.in_order;
  near = is.near;
  behind = is.behind;
  within = is.within;
  here = λ c step. here_known steps (last_of start walk) place rest chains c known step (split_rest place rest c (0 < chain_length chains c) (is.here c step));
  closed = is.closed;
}

-- One place more is found, by a chain of this length, and is queued.
record IsGrown (chains chains' : ℕ → List ℕ) (queue queue' : List ℕ) (place far : ℕ) : Type 0 where
  pub before : chain_length chains place ≡ 0
  pub there : chain_length chains' place ≡ far
  pub others : (b : ℕ) → (b ≡ place → ⊥) → chains' b ≡ chains b
  pub longer : length queue' ≡ length queue + 1
  pub kept : (i : ℕ) → i < length queue → get_or queue' i 0 ≡ get_or queue i 0
  pub last : get_or queue' (length queue) 0 ≡ place

old_chain : {chains chains' : ℕ → List ℕ} {queue queue' : List ℕ} {place far : ℕ} → IsGrown chains chains' queue queue' place far → (b : ℕ) → 0 < chain_length chains b
    → chains' b ≡ chains b
old_chain {chains} g b found = g.others b (λ same. let empty : chain_length chains b ≡ 0 = ap (chain_length chains) same ∙ g.before in omega arith)

far_at : {chains chains' : ℕ → List ℕ} {queue queue' : List ℕ} {place far : ℕ} → IsGrown chains chains' queue queue' place far → (i : ℕ) → i < length queue
    → 0 < chain_length chains (get_or queue i 0) → chain_length chains' (get_or queue' i 0) ≡ chain_length chains (get_or queue i 0)
far_at {chains} {chains'} {queue} g i inside found = ap (chain_length chains') (g.kept i inside) ∙ ap length (old_chain g (get_or queue i 0) found)

far_last : {chains chains' : ℕ → List ℕ} {queue queue' : List ℕ} {place far : ℕ} → IsGrown chains chains' queue queue' place far → (i : ℕ) → i ≡ length queue
    → chain_length chains' (get_or queue' i 0) ≡ far
far_last {chains} {chains'} {queue} {queue'} g i at = ap (λ j. chain_length chains' (get_or queue' j 0)) at ∙ (ap (chain_length chains') g.last ∙ g.there)

far_any : {chains chains' : ℕ → List ℕ} {queue queue' : List ℕ} {place far : ℕ} → IsGrown chains chains' queue queue' place far → (b most : ℕ)
    → (b ≡ place) ⊎ (b ≡ place → ⊥) → chain_length chains b ≤ most → far ≤ most → chain_length chains' b ≤ most
far_any {chains} {chains'} {queue} {queue'} {place} {far} g b most (inl same) old new = let there : chain_length chains' b ≡ far = ap (chain_length chains') same ∙ g.there in omega arith
far_any {chains} {chains'} g b most (inr other) old new = let there : chain_length chains' b ≡ chain_length chains b = ap length (g.others b other) in omega arith

queue_cases : {chains chains' : ℕ → List ℕ} {queue queue' : List ℕ} {place far : ℕ} → IsGrown chains chains' queue queue' place far → (i : ℕ) → i < length queue'
    → (i < length queue) ⊎ (length queue ≤ i) → (i < length queue) ⊎ (i ≡ length queue)
queue_cases g i inside (inl before) = inl before
queue_cases {chains} {chains'} {queue} {queue'} g i inside (inr past) = let longer : length queue' ≡ length queue + 1 = g.longer in inr (omega arith)

in_queue : {chains chains' : ℕ → List ℕ} {queue queue' : List ℕ} {place far : ℕ} → IsGrown chains chains' queue queue' place far → (i : ℕ) → i < length queue'
    → (i < length queue) ⊎ (i ≡ length queue)
in_queue {chains} {chains'} {queue} g i inside = queue_cases g i inside (cases_lt i (length queue))

-- What holds of each place of the queue and of the new one holds of each place of the new queue.
each_queued : {chains chains' : ℕ → List ℕ} {queue queue' : List ℕ} {place far : ℕ} → IsGrown chains chains' queue queue' place far → (P : ℕ → Type 0) (i : ℕ)
    → ((i : ℕ) → i < length queue → P (get_or queue i 0)) → P place → (i < length queue) ⊎ (i ≡ length queue) → P (get_or queue' i 0)
each_queued g P i old new (inl before) = subst P (sym (g.kept i before)) (old i before)
each_queued {chains} {chains'} {queue} {queue'} g P i old new (inr last) = subst (λ j. P (get_or queue' j 0)) (sym last) (subst P (sym g.last) new)

grown_in_order : {steps : List (List ℕ)} {start next : ℕ} {walk rest : List ℕ} {chains chains' : ℕ → List ℕ} {queue queue' : List ℕ} {place : ℕ}
    → IsGrown chains chains' queue queue' place (length walk + 1) → IsUnderway steps start walk rest chains queue next → (i j : ℕ) → next ≤ i → i ≤ j
    → (i < length queue) ⊎ (i ≡ length queue) → (j < length queue) ⊎ (j ≡ length queue) → chain_length chains' (get_or queue' i 0) ≤ chain_length chains' (get_or queue' j 0)
grown_in_order g is i j from upto (inl one) (inl other) = omega (arith, far_at g i one (is.known i one), far_at g j other (is.known j other), is.in_order i j from upto other)
grown_in_order {steps} {start} {next} {walk} {rest} {chains} {chains'} {queue} g is i j from upto (inl one) (inr last) =
    omega (arith, far_at g i one (is.known i one), far_last g j last, is.within (get_or queue i 0))
grown_in_order g is i j from upto (inr last) (inl other) = absurd (omega arith)
grown_in_order g is i j from upto (inr last) (inr also) = omega (arith, far_last g i last, far_last g j also)

grown_near : {steps : List (List ℕ)} {start next : ℕ} {walk rest : List ℕ} {chains chains' : ℕ → List ℕ} {queue queue' : List ℕ} {place : ℕ}
    → IsGrown chains chains' queue queue' place (length walk + 1) → IsUnderway steps start walk rest chains queue next → (i b : ℕ) → next ≤ i
    → (i < length queue) ⊎ (i ≡ length queue) → chain_length chains' b ≤ chain_length chains' (get_or queue' i 0) + 1
grown_near {place = place} g is i b from (inl one) =
    far_any g b _ (cases_eq b place) (omega (arith, far_at g i one (is.known i one), is.near i b from one)) (omega (arith, far_at g i one (is.known i one), is.behind i from one))
grown_near {place = place} g is i b from (inr last) = far_any g b _ (cases_eq b place) (omega (arith, far_last g i last, is.within b)) (omega (arith, far_last g i last))

grown_behind : {steps : List (List ℕ)} {start next : ℕ} {walk rest : List ℕ} {chains chains' : ℕ → List ℕ} {queue queue' : List ℕ} {place : ℕ}
    → IsGrown chains chains' queue queue' place (length walk + 1) → IsUnderway steps start walk rest chains queue next → (i : ℕ) → next ≤ i
    → (i < length queue) ⊎ (i ≡ length queue) → length walk ≤ chain_length chains' (get_or queue' i 0)
grown_behind g is i from (inl one) = omega (arith, far_at g i one (is.known i one), is.behind i from one)
grown_behind g is i from (inr last) = omega (arith, far_last g i last)

grown_here : {chains chains' : ℕ → List ℕ} {queue queue' : List ℕ} {place far : ℕ} → IsGrown chains chains' queue queue' place far → 0 < far → (rest : List ℕ) (c : ℕ)
    → (0 < chain_length chains c) ⊎ ((place ≡ c) ⊎ Contains rest c)
    → (0 < chain_length chains' c) ⊎ Contains rest c
grown_here {chains} {chains'} g some rest c (inl found) = inl (subst (λ chain. 0 < length chain) (sym (old_chain g c found)) found)
grown_here {chains} {chains'} g some rest c (inr (inl same)) = inl (subst (λ p. 0 < chain_length chains' p) same (omega (arith, g.there)))
grown_here g some rest c (inr (inr later)) = inr later

old_closed : {chains chains' : ℕ → List ℕ} {queue queue' : List ℕ} {place far : ℕ} → IsGrown chains chains' queue queue' place far
    → (steps : List (List ℕ)) (start next : ℕ) (walk : List ℕ) (b : ℕ) → chains' b ≡ chains b
    → IsPending queue next b ⊎ (IsClosed steps chains b ⊎ ((b ≡ last_of start walk) × (chain_length chains b ≡ length walk)))
    → IsPending queue' next b ⊎ (IsClosed steps chains' b ⊎ ((b ≡ last_of start walk) × (chain_length chains' b ≡ length walk)))
old_closed g steps start next walk b same (inl (i, from, inside, at)) = inl (i, from, omega (arith, g.longer), g.kept i inside ∙ at)
old_closed {chains} {chains'} g steps start next walk b same (inr (inl closed)) =
    inr (inl (λ c step.
    let old : (0 < chain_length chains c) × (chain_length chains c ≤ chain_length chains b + 1) = closed c step in
    let one : chain_length chains' c ≡ chain_length chains c = ap length (old_chain g c old.0) in
    let other : chain_length chains' b ≡ chain_length chains b = ap length same in (omega arith, omega arith)))
old_closed g steps start next walk b same (inr (inr (here, far))) = inr (inr (here, ap length same ∙ far))

grown_closed : {steps : List (List ℕ)} {start next : ℕ} {walk rest : List ℕ} {chains chains' : ℕ → List ℕ} {queue queue' : List ℕ} {place : ℕ}
    → IsGrown chains chains' queue queue' place (length walk + 1) → IsUnderway steps start walk rest chains queue next → (b : ℕ) → (b ≡ place) ⊎ (b ≡ place → ⊥)
    → 0 < chain_length chains' b
    → IsPending queue' next b ⊎ (IsClosed steps chains' b ⊎ ((b ≡ last_of start walk) × (chain_length chains' b ≡ length walk)))
grown_closed {queue = queue} g is b (inl same) found = inl (length queue, is.past, omega (arith, g.longer), g.last ∙ sym same)
grown_closed {steps} {start} {next} {walk} {rest} {chains} {chains'} g is b (inr other) found =
    let same : chains' b ≡ chains b = g.others b other in
    old_closed g steps start next walk b same (is.closed b (subst (λ chain. 0 < length chain) same found))

grown_sound : {steps : List (List ℕ)} {start next : ℕ} {walk rest : List ℕ} {chains chains' : ℕ → List ℕ} {queue queue' : List ℕ} {place : ℕ}
    → IsGrown chains chains' queue queue' place (length walk + 1) → IsUnderway steps start walk rest chains queue next
    → IsChain (IsStep steps) start place (chains' place) → (b : ℕ) → (b ≡ place) ⊎ (b ≡ place → ⊥) → 0 < chain_length chains' b
    → IsChain (IsStep steps) start b (chains' b)
grown_sound {steps = steps} {start = start} {chains' = chains'} g is chain b (inl same) found = subst (λ p. IsChain (IsStep steps) start p (chains' p)) (sym same) chain
grown_sound {steps = steps} {start = start} g is chain b (inr other) found =
    subst (IsChain (IsStep steps) start b) (sym (g.others b other)) (is.sound b (subst (λ chain. 0 < length chain) (g.others b other) found))

-- one place of the rest was found
grown_underway : {steps : List (List ℕ)} {start next : ℕ} {walk rest : List ℕ} {chains chains' : ℕ → List ℕ} {queue queue' : List ℕ} {place : ℕ}
    → IsGrown chains chains' queue queue' place (length walk + 1) → IsUnderway steps start walk (place ∷ rest) chains queue next
    → place < length steps → IsChain (IsStep steps) start place (chains' place)
    → IsUnderway steps start walk rest chains' queue' next
grown_underway {steps} {start} {next} {walk} {rest} {chains} {chains'} {queue} {queue'} {place} g is inside chain = record {
  past = omega (arith, is.past, g.longer);
  walked = is.walked;
  listed = λ c inside. is.listed c (in_later place rest c inside);
  queued = λ i inside'. each_queued g (λ p. p < length steps) i is.queued inside (in_queue g i inside');
  known = λ i inside'.
      each_queued g (λ p. 0 < chain_length chains' p) i (λ j at. subst (λ chain. 0 < length chain) (sym (old_chain g (get_or queue j 0) (is.known j at))) (is.known j at))
      (omega (arith, g.there)) (in_queue g i inside');
  sound = λ b found. grown_sound g is chain b (cases_eq b place) found;
  in_order = λ i j from upto inside'. grown_in_order g is i j from upto (in_queue g i (omega arith)) (in_queue g j inside');
  near = λ i b from inside'. grown_near g is i b from (in_queue g i inside');
  behind = λ i from inside'. grown_behind g is i from (in_queue g i inside');
  within = λ b. far_any g b (length walk + 1) (cases_eq b place) (is.within b) (omega arith);
  here = λ c step. grown_here g (omega arith) rest c (split_rest place rest c (0 < chain_length chains c) (is.here c step));
  closed = λ b found. grown_closed g is b (cases_eq b place) found;
}

is_grown : {places : ℕ} {walk : List ℕ} {place : ℕ} {found found' : Entries} → IsNew places walk place found found'
    → IsGrown (chain_at found) (chain_at found') (places_of found) (places_of found') place (length walk + 1)
is_grown {places} {walk} {place} {found} {found'} new =
    let queued : places_of found' ≡ places_of found ++ place ∷ [] = ap places_of new.added ∙ places_push found place new.longer in record {
      before = ap (λ o. length (items_or_none o)) new.unknown;
      there = ap (λ f. length (chain_at f place)) new.added ∙ (ap length (chain_here found place new.longer new.unknown ∙ new.is_longer) ∙ length-append walk (place ∷ []));
      others = λ b other. ap (λ f. chain_at f b) new.added ∙ chain_other found place new.longer b other;
      longer = ap length queued ∙ length-append (places_of found) (place ∷ []);
      kept = λ i inside. ap (λ q. get_or q i 0) queued ∙ get_or_append_left (places_of found) (place ∷ []) 0 i inside;
      last = ap (λ q. get_or q (length (places_of found)) 0) queued ∙ get_or-append_seam (places_of found) place [] 0;
    }

-- the search that has found these entries is underway
abbrev pub IsUnderwayWith : List (List ℕ) → ℕ → List ℕ → List ℕ → Entries → ℕ → Type 0
IsUnderwayWith steps start walk rest found next = IsUnderway steps start walk rest (chain_at found) (places_of found) next

new_underway : (steps : List (List ℕ)) (start : ℕ) (walk : List ℕ) (place : ℕ) (rest : List ℕ) (found : Entries) (next : ℕ) (found' : Entries)
    → IsNew (length steps) walk place found found' → IsUnderwayWith steps start walk (place ∷ rest) found next → IsUnderwayWith steps start walk rest found' next
new_underway steps start walk place rest found next found' new is =
    grown_underway (is_grown new) is new.exists
    (subst (IsChain (IsStep steps) start place) (sym (ap (λ f. chain_at f place) new.added ∙ (chain_here found place new.longer new.unknown ∙ new.is_longer)))
    (chain_longer (IsStep steps) start place walk is.walked (new.exists, is.listed place (in_first place rest))))

known_far : (steps : List (List ℕ)) (start : ℕ) (walk : List ℕ) (place : ℕ) (rest : List ℕ) (found : Entries) (next : ℕ) → (length steps ≤ place) ⊎ IsSome (lookup (nat_eq place) found)
    → IsUnderwayWith steps start walk rest found next → (length steps ≤ place) ⊎ (0 < chain_length (chain_at found) place)
known_far steps start walk place rest found next (inl missing) is = inl missing
known_far steps start walk place rest found next (inr there) is = inr (known_at found place is.known there)

finds_underway : (steps : List (List ℕ)) (start : ℕ) (walk : List ℕ) (place : ℕ) (rest : List ℕ) (found : Entries) (next : ℕ) (found' : Entries)
    → Finds (length steps) walk place found found' → IsUnderwayWith steps start walk (place ∷ rest) found next → IsUnderwayWith steps start walk rest found' next
finds_underway steps start walk place rest found next found' (inl old) is =
    subst (λ f. IsUnderwayWith steps start walk rest f next) (sym old.same)
    (still_underway steps start walk place rest (chain_at found) (places_of found) next (known_far steps start walk place (place ∷ rest) found next old.known is) is)
finds_underway steps start walk place rest found next found' (inr new) is = new_underway steps start walk place rest found next found' new is

-- all of the rest were looked at
pub each_underway : (steps : List (List ℕ)) (start : ℕ) (walk rest : List ℕ) (found : Entries) (next : ℕ) (found' : Entries)
    → FindsEach (length steps) walk rest found found' → IsUnderwayWith steps start walk rest found next → IsUnderwayWith steps start walk [] found' next
each_underway steps start walk [] found next found' same is = subst (λ f. IsUnderwayWith steps start walk [] f next) (sym same) is
each_underway steps start walk (place ∷ rest) found next found' (between, one, more) is =
    each_underway steps start walk rest between next found' more (finds_underway steps start walk place rest found next between one is)

kept_by_one : (places : ℕ) (walk : List ℕ) (place : ℕ) (found found' : Entries) (b : ℕ) → Finds places walk place found found' → 0 < chain_length (chain_at found) b
    → chain_at found' b ≡ chain_at found b
kept_by_one places walk place found found' b (inl old) there = ap (λ f. chain_at f b) old.same
kept_by_one places walk place found found' b (inr new) there = old_chain (is_grown new) b there

-- a chain that is found stays
pub kept_by_each : (places : ℕ) (walk rest : List ℕ) (found found' : Entries) (b : ℕ) → FindsEach places walk rest found found' → 0 < chain_length (chain_at found) b
    → chain_at found' b ≡ chain_at found b
kept_by_each places walk [] found found' b same there = ap (λ f. chain_at f b) same
kept_by_each places walk (place ∷ rest) found found' b (between, one, more) there =
    let here : chain_at between b ≡ chain_at found b = kept_by_one places walk place found between b one there in
    kept_by_each places walk rest between found' b more (subst (λ chain. 0 < length chain) (sym here) there) ∙ here
