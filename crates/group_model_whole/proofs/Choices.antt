-- The choice of a log: among the copies that were heard the best misses nothing that can be decided.
use Rattle.std.proofs.Common.{ℕ, zero, suc, ◌≡◌, ◌≤◌, ◌<◌, ◌+◌, ◌-◌, Bool, true, false, ◌||◌, nat_lt, ◌==◌, List, [], ◌∷◌, length, take, slice_index_or, Some, refl, sym, ◌∙◌, arith, inl, inr, if◌then◌else◌}
use Rattle.std.specs.List.{list_any, list_all}
use Rattle.std.proofs.Common.{length-take, get_or-take}
use Rattle.std.proofs.lemmas.Bool.{ltb-true, eqb-true, or_cases, and_parts, both_ways}
use Rattle.entry_core.specs.Log.{is_in}
use Rattle.group_model_whole.specs.ActingSets.{set_of, is_primary}
use Rattle.group_model_whole.specs.Choice.{is_better, best, covers, is_informed, can_choose, own_offer}
use Rattle.group_model_whole.specs.Types.{PeerInfo, Daemon}
use Rattle.group_model_whole.specs.History.{History, Witness, IsOpened}
use Rattle.group_model_whole.specs.Offer.{IsOffer}
use Rattle.group_model_whole.specs.Each.{Each}

-- b has at least a's base, and at that base at least a's length
pub record AtMost (a b : PeerInfo) : Type 0 where
  pub base : a.base ≤ b.base
  pub size : a.base ≡ b.base → length a.log ≤ length b.log

pub AtMost-refl : (a : PeerInfo) → AtMost a a
AtMost-refl a = record { base = omega arith; size = λ _. omega arith }

pub AtMost-trans : {a b c : PeerInfo} → AtMost a b → AtMost b c → AtMost a c
AtMost-trans {a} {b} {c} p q =
    record {
      base = omega (arith, p.base, q.base);
      size = λ same. (
          let ab : a.base ≡ b.base = omega (arith, p.base, q.base, same) in
          let bc : b.base ≡ c.base = omega (arith, p.base, q.base, same) in
          let first : length a.log ≤ length b.log = p.size ab in
          let second : length b.log ≤ length c.log = q.size bc in
          omega arith
          );
    }

pub better_at_most : (a b : PeerInfo) → is_better b a ≡ true → AtMost a b
better_at_most a b h = grind (arith)

pub not_better_at_most : (a b : PeerInfo) → is_better b a ≡ false → AtMost b a
not_better_at_most a b h = grind (arith)

-- the best of these is one of them
pub best_among : (P : PeerInfo → Type 0) (a : PeerInfo) (bs : List PeerInfo) → P a → Each P bs → P (best a bs)
best_among P a [] pa each = pa
best_among P a (b ∷ bs) pa each =
    best_among P (if is_better b a then b else a) bs
    (elim (is_better b a) as (λ v. P (if v then b else a)) [ true ↦ each.0 | false ↦ pa ])
    each.1

-- the first is at most the winner of the two
at_most_winner : (a b : PeerInfo) → AtMost a (if is_better b a then b else a)
at_most_winner a b = go (is_better b a) refl
  where
    go : (v : Bool) → is_better b a ≡ v → AtMost a (if v then b else a)
    go true e = better_at_most a b e
    go false e = AtMost-refl a

at_most_winner_2 : (a b : PeerInfo) → AtMost b (if is_better b a then b else a)
at_most_winner_2 a b = go (is_better b a) refl
  where
    go : (v : Bool) → is_better b a ≡ v → AtMost b (if v then b else a)
    go true e = AtMost-refl b
    go false e = not_better_at_most a b e

-- each of them is at most the best
pub first_at_most : (a : PeerInfo) (bs : List PeerInfo) → AtMost a (best a bs)
first_at_most a [] = AtMost-refl a
first_at_most a (b ∷ bs) = AtMost-trans (at_most_winner a b) (first_at_most (if is_better b a then b else a) bs)

pub each_at_most : (a : PeerInfo) (bs : List PeerInfo) → Each (λ i. AtMost i (best a bs)) bs
each_at_most a [] = tt
each_at_most a (b ∷ bs) = (
  AtMost-trans (at_most_winner_2 a b) (first_at_most (if is_better b a then b else a) bs),
  each_at_most (if is_better b a then b else a) bs,
)

-- some element of the list passes
pub record Found (test : ℕ → Bool) (xs : List ℕ) : Type 0 where
  pub item : ℕ
  pub is_item : is_in xs item ≡ true
  pub passes : test item ≡ true

pub found_any : (test : ℕ → Bool) (xs : List ℕ) → list_any test xs ≡ true → Found test xs
found_any test [] h = absurd (both_ways false refl h)
found_any test (x ∷ xs) h = elim (or_cases (test x) (list_any test xs) h) [
  | inl here ↦ record { item = x; is_item = grind (arith); passes = here }
  | inr later ↦ (let f : Found test xs = found_any test xs later in record { item = f.item; is_item = or_from_right f; passes = f.passes })
]
  where
    or_from_right : (f : Found test xs) → ((x == f.item) || is_in xs f.item) ≡ true
    or_from_right f = rw f.is_item (elim (x == f.item) as (λ v. (v || true) ≡ true) [ true ↦ refl | false ↦ refl ])

-- an interval that the choice covers has a member that was heard
pub covers_at : (min_size base : ℕ) (informed : ℕ → Bool) (j : ℕ) (sets : List (List ℕ)) → covers min_size base informed j sets ≡ true →
    (i : ℕ) → i < length sets → base ≤ j + i → min_size ≤ length (slice_index_or sets i []) → Found informed (slice_index_or sets i [])
covers_at min_size base informed j [] h i below from enough = absurd (omega arith)
covers_at min_size base informed j (members ∷ sets) h zero below from enough =
    let parts = and_parts (nat_lt j base || nat_lt (length members) min_size || list_any informed members) (covers min_size base informed (j + 1) sets) h in
    elim (or_cases (nat_lt j base || nat_lt (length members) min_size) (list_any informed members) parts.0) [
      | inl small ↦ (elim (or_cases (nat_lt j base) (nat_lt (length members) min_size) small) [
        | inl early ↦ (let e : j < base = ltb-true j base early in absurd (omega arith))
        | inr few ↦ (let e : length members < min_size = ltb-true (length members) min_size few in absurd (omega arith))
      ])
      | inr any ↦ found_any informed members any
    ]
covers_at min_size base informed j (members ∷ sets) h (suc i) below from enough =
    let parts = and_parts (nat_lt j base || nat_lt (length members) min_size || list_any informed members) (covers min_size base informed (j + 1) sets) h in
    covers_at min_size base informed (j + 1) sets parts.1 i (omega arith) (omega arith) enough

-- who was heard made an offer
pub record Heard (P : PeerInfo → Type 0) (m : ℕ) : Type 0 where
  pub offer : PeerInfo
  pub fact : P offer
  pub number : offer.number ≡ m

heard_among : (P : PeerInfo → Type 0) (informed : List PeerInfo) (m : ℕ) → Each P informed → list_any (λ i. i.number == m) informed ≡ true → Heard P m
heard_among P [] m each h = absurd (both_ways false refl h)
heard_among P (i ∷ informed) m each h = elim (or_cases (i.number == m) (list_any (λ i. i.number == m) informed) h) [
  | inl here ↦ record { offer = i; fact = each.0; number = eqb-true i.number m here }
  | inr later ↦ heard_among P informed m each.1 later
]

pub heard_offer : (P : PeerInfo → Type 0) (c : Daemon) (informed : List PeerInfo) (m : ℕ) → P (own_offer c) → Each P informed →
    is_informed c informed m ≡ true → Heard P m
heard_offer P c informed m own each h = elim (or_cases (m == c.number) (list_any (λ i. i.number == m) informed) h) [
  | inl here ↦ record { offer = own_offer c; fact = own; number = sym (eqb-true m c.number here) }
  | inr later ↦ heard_among P informed m each later
]

pub Each-both : {X : Type 0} (P Q : X → Type 0) (xs : List X) → Each P xs → Each Q xs → Each (λ x. P x × Q x) xs
Each-both P Q [] p q = tt
Each-both P Q (x ∷ xs) p q = ((p.0, q.0), Each-both P Q xs p.1 q.1)

-- The log that is chosen misses nothing that was or will be decided in an earlier interval.
module _ (promise : ℕ → ℕ) (sets : List (List ℕ)) (h : History) (c : Daemon) (informed : List PeerInfo)
    (own : IsOffer promise h c.promise (own_offer c)) (offers : Each (IsOffer promise h c.promise) informed)
    (same : (j : ℕ) → 1 ≤ j → j ≤ c.promise → set_of c.known j ≡ set_of sets j)
    (is_last : c.promise ≡ length c.known) (chosen : can_choose c informed ≡ true) where
  winner : PeerInfo
  winner = best (own_offer c) informed

  winner_offer : IsOffer promise h c.promise (best (own_offer c) informed)
  winner_offer = best_among (IsOffer promise h c.promise) (own_offer c) informed own offers

  covered : covers c.min_size (best (own_offer c) informed).base (is_informed c informed) 1 (take (c.promise - 1) c.known) ≡ true
  covered = (and_parts (list_all (is_informed c informed) (set_of c.known c.promise)) (covers c.min_size (best (own_offer c) informed).base (is_informed c informed) 1 (take (c.promise - 1) c.known)) chosen).1

  found_at : (j : ℕ) → 1 ≤ j → (best (own_offer c) informed).base ≤ j → j < c.promise → c.min_size ≤ length (set_of sets j) → Found (is_informed c informed) (set_of sets j)
  found_at j from above below enough =
      let i : ℕ = j - 1 in
      let fits : i < c.promise - 1 = omega arith in
      let read : slice_index_or (take (c.promise - 1) c.known) i [] ≡ set_of sets j = (rw get_or-take) ∙ same j from (omega arith) in
      let long : i < length (take (c.promise - 1) c.known) = simp length-take (omega arith) in
      let enough' : c.min_size ≤ length (slice_index_or (take (c.promise - 1) c.known) i []) = rw read enough in
      rw read at (covers_at c.min_size (best (own_offer c) informed).base (is_informed c informed) 1 (take (c.promise - 1) c.known) covered i long (omega arith) enough')

  witness_at : (j : ℕ) → 1 ≤ j → (best (own_offer c) informed).base ≤ j → j < c.promise → c.min_size ≤ length (set_of sets j) →
      Witness promise sets h c.promise (best (own_offer c) informed).base (best (own_offer c) informed).log j
  witness_at j from above below enough =
      let f : Found (is_informed c informed) (set_of sets j) = found_at j from above below enough in
      let both = λ (i : PeerInfo). IsOffer promise h c.promise i × AtMost i (best (own_offer c) informed) in
      let who : Heard (λ i. IsOffer promise h c.promise i × AtMost i (best (own_offer c) informed)) f.item =
      heard_offer (λ i. IsOffer promise h c.promise i × AtMost i (best (own_offer c) informed)) c informed f.item
      (own, first_at_most (own_offer c) informed)
      (Each-both (IsOffer promise h c.promise) (λ i. AtMost i (best (own_offer c) informed)) informed offers (each_at_most (own_offer c) informed))
      f.passes
      in
      record {
        member = f.item;
        is_member = f.is_item;
        moved = rw who.number at who.fact.0.moved;
        most = λ k held. (
            let held' : h.held who.offer.number j ≡ Some k = rw who.number held in
            let told = who.fact.0.most j k below held' in
            let lower : who.offer.base ≤ (best (own_offer c) informed).base = who.fact.1.base in
            let is_base : j ≡ who.offer.base = omega (arith, told.0) in
            let is_best : who.offer.base ≡ (best (own_offer c) informed).base = omega (arith, told.0) in
            let shorter = who.fact.1.size is_best in
            let fits = told.1 is_base in
            (omega arith, omega (arith, shorter, fits))
            );
      }

  pub chosen_opened : c.promise ≤ length sets → c.min_size ≤ length (set_of sets c.promise) → ((d : ℕ) → is_primary (set_of sets c.promise) d ≡ true → c.promise ≤ promise d) →
      IsOpened promise c.min_size sets h c.promise (best (own_offer c) informed).base (best (own_offer c) informed).log
  chosen_opened known enough led =
      record {
        is_interval = known;
        members = enough;
        below = winner_offer.below;
        source = winner_offer.source;
        source_is = winner_offer.source_is;
        begins = winner_offer.begins;
        within = winner_offer.within;
        led = led;
        witness = witness_at;
      }
