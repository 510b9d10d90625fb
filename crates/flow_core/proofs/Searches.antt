-- A search from its beginning to its end.
use Rattle.std.proofs.Common.{◌≡◌, ℕ, ◌+◌, ◌<◌, ◌≤◌, ◌⊎◌, List, [], length, get_or, map, refl, sym, ap, subst, Some, nat_eq, slice_get, ◌∙◌, inl, inr, arith}
use Rattle.std.specs.List.{Contains}
use Rattle.std.specs.Map.{lookup}
use Rattle.std.specs.Prelude.{Vec}
use Rattle.std.specs.declared.alloc.Global.{Global}
use Rattle.std.proofs.lemmas.Bool.{cases_eq}
use Rattle.std.proofs.lemmas.List.{get_or-map, get_or_past, length-map}
use Rattle.flow_core.specs.Chains.{IsChain, IsShortest, IsStep}
use Rattle.flow_core.specs.Searching.{Entries, FindsEach}
use Rattle.flow_core.proofs.Entries.{chain_at, entry_place, items_or_none, places_of}
use Rattle.flow_core.proofs.Listing.{in_none}
use Rattle.flow_core.proofs.Rounds.{IsClosed, IsPending, IsSearched, IsUnderway, chain_length, each_underway, kept_by_each}
use Rattle.flow_core.proofs.Walks.{chain_ends, chain_reaches, last_of}

-- a list among lists that are kept in another form
pub row_at : {X : Type 0} (f : X → List ℕ) (xs : List X) (i : ℕ) (x : X) → i < length xs → x ≡ get_or xs i x → get_or (map f xs) i [] ≡ f x
row_at f xs i x inside at = get_or-map f xs i x [] inside ∙ ap f (sym at)

no_row : {X : Type 0} (f : X → List ℕ) (xs : List X) (i : ℕ) → length xs ≤ i → get_or (map f xs) i [] ≡ []
no_row f xs i past = get_or_past (map f xs) i [] (omega (arith, length-map xs f))

-- nothing is found yet
begins : (steps : List (List ℕ)) (start : ℕ) → IsUnderway steps start [] (get_or steps start []) (chain_at []) [] 0
begins steps start = record {
  past = omega arith;
  walked = tt;
  listed = λ c inside. inside;
  queued = λ i inside. absurd (omega arith);
  known = λ i inside. absurd (omega arith);
  sound = λ b found. absurd (omega arith);
  in_order = λ i j from upto inside. absurd (omega arith);
  near = λ i b from inside. absurd (omega arith);
  behind = λ i from inside. absurd (omega arith);
  within = λ b. omega arith;
  here = λ c step. inr step.1;
  closed = λ b found. absurd (omega arith);
}

found_here : (chains : ℕ → List ℕ) (c : ℕ) → (0 < chain_length chains c) ⊎ Contains [] c → 0 < chain_length chains c
found_here chains c (inl found) = found
found_here chains c (inr inside) = absurd (in_none c inside)

first_closed : (steps : List (List ℕ)) (start : ℕ) (chains : ℕ → List ℕ) (queue : List ℕ) (b : ℕ) → 0 < chain_length chains b
    → IsPending queue 0 b ⊎ (IsClosed steps chains b ⊎ ((b ≡ start) × (chain_length chains b ≡ 0))) → IsPending queue 0 b ⊎ IsClosed steps chains b
first_closed steps start chains queue b found (inl pending) = inl pending
first_closed steps start chains queue b found (inr (inl closed)) = inr closed
first_closed steps start chains queue b found (inr (inr (same, far))) = absurd (omega arith)

first_round : (steps : List (List ℕ)) (start : ℕ) (chains : ℕ → List ℕ) (queue : List ℕ) → IsUnderway steps start [] [] chains queue 0 → IsSearched steps start chains queue 0
first_round steps start chains queue is = record {
  past = is.past;
  queued = is.queued;
  known = is.known;
  sound = is.sound;
  in_order = is.in_order;
  near = is.near;
  first = λ c step. (found_here chains c (is.here c step), is.within c);
  closed = λ b found. first_closed steps start chains queue b found (is.closed b found);
}

-- the search that has found these entries, with those from `next` on to be gone through
abbrev pub IsSearchedWith : List (List ℕ) → ℕ → Entries → ℕ → Type 0
IsSearchedWith steps start found next = IsSearched steps start (chain_at found) (places_of found) next

-- the steps from the start were followed
pub begun : (steps : List (List ℕ)) (start : ℕ) (rest : List ℕ) (found : Entries) → rest ≡ get_or steps start [] → FindsEach (length steps) [] rest [] found → IsSearchedWith steps start found 0
begun steps start rest found row finds =
    first_round steps start (chain_at found) (places_of found)
    (each_underway steps start [] rest [] 0 found finds (subst (λ r. IsUnderway steps start [] r (chain_at []) [] 0) (sym row) (begins steps start)))

-- the start does not exist
pub begun_nowhere : {X : Type 0} (f : X → List ℕ) (steps : List X) (start : ℕ) → length steps ≤ start → IsSearchedWith (map f steps) start [] 0
begun_nowhere f steps start past = begun (map f steps) start [] [] (sym (no_row f steps start past)) refl

-- the steps from the start were followed, where the lists of steps are kept in another form
pub begun_from : {X : Type 0} (f : X → List ℕ) (rows : List X) (start : ℕ) (row : X) (rest : List ℕ) (none found : Entries) → start < length rows → row ≡ get_or rows start row → rest ≡ f row
    → none ≡ [] → FindsEach (length rows) [] rest none found → IsSearchedWith (map f rows) start found 0
begun_from f rows start row rest none found inside at same empty finds =
    begun (map f rows) start rest found (same ∙ sym (row_at f rows start row inside at))
    (subst (λ n. FindsEach n [] rest [] found) (sym (length-map rows f)) (subst (λ before. FindsEach (length rows) [] rest before found) empty finds))

next_closed : (steps : List (List ℕ)) (start next : ℕ) (walk : List ℕ) (chains : ℕ → List ℕ) (queue : List ℕ) (b : ℕ) → last_of start walk ≡ get_or queue next 0
    → walk ≡ chains (get_or queue next 0) → IsPending queue next b ⊎ IsClosed steps chains b
    → IsPending queue (next + 1) b ⊎ (IsClosed steps chains b ⊎ ((b ≡ last_of start walk) × (chain_length chains b ≡ length walk)))
next_closed steps start next walk chains queue b here same (inr closed) = inr (inl closed)
next_closed steps start next walk chains queue b here same (inl (i, from, inside, at)) = at_or_behind (cases_eq i next)
  where
    at_or_behind : (i ≡ next) ⊎ (i ≡ next → ⊥) → IsPending queue (next + 1) b ⊎ (IsClosed steps chains b ⊎ ((b ≡ last_of start walk) × (chain_length chains b ≡ length walk)))
    at_or_behind (inl now) =
        let is : get_or queue next 0 ≡ b = subst (λ j. get_or queue j 0 ≡ b) now at in
        inr (inr (sym (here ∙ is), sym (ap length (same ∙ ap chains is))))
    at_or_behind (inr later) = inl (i, omega arith, inside, at)

-- the steps from the next place of the queue are to be followed
next_begins : (steps : List (List ℕ)) (start next : ℕ) (walk rest : List ℕ) (chains : ℕ → List ℕ) (queue : List ℕ) → next < length queue
    → walk ≡ chains (get_or queue next 0) → rest ≡ get_or steps (get_or queue next 0) [] → IsSearched steps start chains queue next
    → IsUnderway steps start walk rest chains queue (next + 1)
next_begins steps start next walk rest chains queue inside same row is =
    let place = get_or queue next 0 in
    let chain : IsChain (IsStep steps) start place walk = subst (IsChain (IsStep steps) start place) (sym same) (is.sound place (is.known next inside)) in
    let here : last_of start walk ≡ place = chain_ends (IsStep steps) start place walk chain in
    let far : length walk ≡ chain_length chains place = ap length same in
    let listing : rest ≡ get_or steps (last_of start walk) [] = row ∙ ap (λ p. get_or steps p []) (sym here) in record {
      past = omega arith;
      walked = chain.steps;
      listed = λ c within. subst (λ l. Contains l c) listing within;
      queued = is.queued;
      known = is.known;
      sound = is.sound;
      in_order = λ i j from upto within. is.in_order i j (omega arith) upto within;
      near = λ i b from within. is.near i b (omega arith) within;
      behind = λ i from within. omega (arith, far, is.in_order next i (omega arith) (omega arith) within);
      within = λ b. omega (arith, far, is.near next b (omega arith) inside);
      here = λ c step. inr (subst (λ l. Contains l c) (sym listing) step.1);
      closed = λ b found. next_closed steps start next walk chains queue b here same (is.closed b found);
    }

round_closed : (steps : List (List ℕ)) (start : ℕ) (walk : List ℕ) (chains : ℕ → List ℕ) (queue : List ℕ) (next b : ℕ) → IsUnderway steps start walk [] chains queue next
    → IsPending queue next b ⊎ (IsClosed steps chains b ⊎ ((b ≡ last_of start walk) × (chain_length chains b ≡ length walk))) → IsPending queue next b ⊎ IsClosed steps chains b
round_closed steps start walk chains queue next b is (inl pending) = inl pending
round_closed steps start walk chains queue next b is (inr (inl closed)) = inr closed
round_closed steps start walk chains queue next b is (inr (inr (same, far))) =
    inr (λ c step. (found_here chains c (is.here c (subst (λ p. IsStep steps p c) same step)), omega (arith, far, is.within c)))

round_ends : (steps : List (List ℕ)) (start : ℕ) (walk : List ℕ) (chains : ℕ → List ℕ) (queue : List ℕ) (next : ℕ) → IsUnderway steps start walk [] chains queue next
    → ((c : ℕ) → IsStep steps start c → (0 < chain_length chains c) × (chain_length chains c ≤ 1)) → IsSearched steps start chains queue next
round_ends steps start walk chains queue next is first = record {
  past = is.past;
  queued = is.queued;
  known = is.known;
  sound = is.sound;
  in_order = is.in_order;
  near = is.near;
  first = first;
  closed = λ b found. round_closed steps start walk chains queue next b is (is.closed b found);
}

-- the steps from the next place of the queue were followed
pub round : (steps : List (List ℕ)) (start next : ℕ) (walk rest : List ℕ) (found found' : Entries) → next < length (places_of found)
    → walk ≡ chain_at found (get_or (places_of found) next 0) → rest ≡ get_or steps (get_or (places_of found) next 0) [] → FindsEach (length steps) walk rest found found'
    → IsSearchedWith steps start found next → IsSearchedWith steps start found' (next + 1)
round steps start next walk rest found found' inside same row finds is =
    round_ends steps start walk (chain_at found') (places_of found') (next + 1)
    (each_underway steps start walk rest found (next + 1) found' finds (next_begins steps start next walk rest (chain_at found) (places_of found) inside same row is))
    (λ c step. subst (λ chain. (0 < length chain) × (length chain ≤ 1)) (sym (kept_by_each (length steps) walk rest found found' c finds (is.first c step).0)) (is.first c step))

-- the same where the lists of steps are kept in another form, and the next entry is known
pub round_from : {X : Type 0} (f : X → List ℕ) (rows : List X) (start next place : ℕ) (chain : Vec ℕ Global) (row : X) (walk rest : List ℕ) (found found' : Entries)
    → slice_get found next ≡ Some (place, chain) → lookup (nat_eq place) found ≡ Some chain → place < length rows → row ≡ get_or rows place row → walk ≡ chain.items → rest ≡ f row
    → FindsEach (length rows) walk rest found found' → IsSearchedWith (map f rows) start found next → IsSearchedWith (map f rows) start found' (next + 1)
round_from f rows start next place chain row walk rest found found' entry known exists at chained same finds is =
    let here : get_or (places_of found) next 0 ≡ place = (entry_place found next place chain entry).1 in
    round (map f rows) start next walk rest found found' (entry_place found next place chain entry).0
    (chained ∙ (sym (ap items_or_none known) ∙ ap (chain_at found) (sym here)))
    (same ∙ (sym (row_at f rows place row exists at) ∙ ap (λ p. get_or (map f rows) p []) (sym here)))
    (subst (λ n. FindsEach n walk rest found found') (sym (length-map rows f)) finds) is

-- the place of an entry exists
pub place_exists : {X : Type 0} (f : X → List ℕ) (rows : List X) (start next place : ℕ) (chain : Vec ℕ Global) (found : Entries) → slice_get found next ≡ Some (place, chain)
    → IsSearchedWith (map f rows) start found next → place < length rows
place_exists f rows start next place chain found entry is =
    let here = entry_place found next place chain entry in
    omega (arith, here.1, is.queued next here.0, length-map rows f)

closed_now : (steps : List (List ℕ)) (chains : ℕ → List ℕ) (queue : List ℕ) (next b : ℕ) → length queue ≤ next → IsPending queue next b ⊎ IsClosed steps chains b → IsClosed steps chains b
closed_now steps chains queue next b past (inl (i, from, inside, at)) = absurd (omega arith)
closed_now steps chains queue next b past (inr closed) = closed

-- the queue is gone through: a place to which a chain leads is found, by a chain that is no longer
pub reached : (steps : List (List ℕ)) (start : ℕ) (chains : ℕ → List ℕ) (queue : List ℕ) (next end : ℕ) (chain : List ℕ) → length queue ≤ next → IsSearched steps start chains queue next
    → IsChain (IsStep steps) start end chain → (0 < chain_length chains end) × (chain_length chains end ≤ length chain)
reached steps start chains queue next end chain past is chains_to =
    chain_reaches (IsStep steps) (chain_length chains) start end chain (λ b c known step. closed_now steps chains queue next b past (is.closed b known) c step) is.first chains_to

-- and the chain that found a place is a shortest one
pub shortest_at : (steps : List (List ℕ)) (start : ℕ) (chains : ℕ → List ℕ) (queue : List ℕ) (next end : ℕ) → length queue ≤ next → IsSearched steps start chains queue next
    → 0 < chain_length chains end → IsShortest (IsStep steps) start end (chains end)
shortest_at steps start chains queue next end past is found = record {
  is = is.sound end found;
  shortest = λ other chain. (reached steps start chains queue next end other past is chain).1;
}
