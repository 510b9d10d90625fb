-- A sample stands for each address: the last one that is not behind it, where samples are ordered by their numbers, those of
-- IPv4 before those of IPv6.
use Rattle.std.proofs.Common.{◌≡◌, ℕ, ◌+◌, ◌-◌, ◌*◌, ◌/◌, ◌^◌, ◌<◌, ◌≤◌, Bool, true, false, ◌==◌, ◌⊎◌, inl, inr, refl, sym, List, [], ◌∷◌, length, get_or, take, All, arith}
use Rattle.std.specs.List.{Contains}
use Rattle.std.proofs.lemmas.Bool.{cases_lt}
use Rattle.std.proofs.lemmas.Nat.{pow_pos}
use Rattle.std.proofs.lemmas.List.Elements.{All-nil, All-cons, All-contains, All-more, All-weaker, Contains-get_or, Contains-append_right}
use Rattle.network_core.specs.declared.address.Address.{Address}
use Rattle.network_core.specs.declared.address.Address.TheVariants.{V4, V6}
use Rattle.network_core.specs.declared.network.Network.{Network}
use Rattle.network_core.specs.declared.network.Network.TheVariants.{Never, Range}
use Rattle.network_core.specs.Address.{width, number, IsAddress}
use Rattle.network_core.specs.Network.{first_bits, matches}
use Rattle.network_core.specs.Edges.{HasEdges, with_number, first_number, behind_number}
use Rattle.network_core.specs.Samples.{AreAlike, AreSamples}
use Rattle.network_core.proofs.Blocks.{same_block}

-- an address' place among all
abbrev pub place : Address → ℕ
place (V4 n) = n
place (V6 n) = 2 ^ 32 + n

-- s is among the samples or the one before them, not behind a, and no other such sample is behind it
record Last (xs : List Address) (a before s : Address) : Type 0 where
  pub found : Contains xs s ⊎ (s ≡ before)
  pub low : place s ≤ place a
  pub not_before : place before ≤ place s
  pub last : All (λ p. place p ≤ place a → place p ≤ place s) xs

at_head : (x : Address) (xs : List Address) → Contains (x ∷ xs) x
at_head x xs = Contains-get_or (x ∷ xs) 0 x (omega arith)

in_tail : (x s before : Address) (xs : List Address) → Contains xs s ⊎ (s ≡ before) → Contains (x ∷ xs) s ⊎ (s ≡ before)
in_tail x s before xs (inl h) = inl (Contains-append_right (x ∷ []) xs s h)
in_tail x s before xs (inr h) = inr h

head_or_tail : (x s : Address) (xs : List Address) → Contains xs s ⊎ (s ≡ x) → Contains (x ∷ xs) s
head_or_tail x s xs (inl h) = Contains-append_right (x ∷ []) xs s h
head_or_tail x s xs (inr h) = rw h (at_head x xs)

last_of : (xs : List Address) (a before : Address) → place before ≤ place a → (s : Address) × Last xs a before s
last_of [] a before h = (before, record { found = inr refl; low = h; not_before = omega arith; last = All-nil (λ p. place p ≤ place a → place p ≤ place before) })
last_of (x ∷ xs) a before h =
    elim (cases_lt (place a) (place x)) [
      | inl over ↦
          let rest = last_of xs a before h in
          let l : Last xs a before rest.0 = rest.1 in
          (rest.0, record { found = in_tail x rest.0 before xs l.found; low = l.low; not_before = l.not_before; last = All-cons (λ p. place p ≤ place a → place p ≤ place rest.0) x xs (λ within. absurd (omega arith)) l.last })
      | inr within ↦
          elim (cases_lt (place x) (place before)) [
            | inl earlier ↦
                let rest = last_of xs a before h in
                let l : Last xs a before rest.0 = rest.1 in
                (rest.0, record { found = in_tail x rest.0 before xs l.found; low = l.low; not_before = l.not_before; last = All-cons (λ p. place p ≤ place a → place p ≤ place rest.0) x xs (λ _. omega (arith, l.not_before)) l.last })
            | inr later ↦
                let rest = last_of xs a x within in
                let l : Last xs a x rest.0 = rest.1 in
                (rest.0, record { found = inl (head_or_tail x rest.0 xs l.found); low = l.low; not_before = omega (arith, l.not_before); last = All-cons (λ p. place p ≤ place a → place p ≤ place rest.0) x xs (λ _. l.not_before) l.last })
          ]
    ]

-- no sample between s and a
abbrev IsLast : List Address → Address → Address → Type 0
IsLast samples a s = (p : Address) → Contains samples p → place p ≤ place a → place p ≤ place s

-- which networks match is the same at s as at a
alike : (network : Network) (samples : List Address) (s a : Address) → IsAddress s → IsAddress a → HasEdges samples network → Contains samples (V6 0) → place s ≤ place a → IsLast samples a s → matches network s ≡ matches network a
alike Never samples s a ss aa edges six low last = refl
alike (Range (V4 b) n) samples (V4 s) (V4 a) ss aa edges six low last =
    same_block (b / 2 ^ (32 - n)) (2 ^ (32 - n)) s a (pow_pos (32 - n)) low
    (λ h. last (V4 (b / 2 ^ (32 - n) * 2 ^ (32 - n))) edges.0 h)
    (λ h. last (V4 ((b / 2 ^ (32 - n) + 1) * 2 ^ (32 - n))) (edges.1 (omega (arith, h, aa))) h)
alike (Range (V6 b) n) samples (V6 s) (V6 a) ss aa edges six low last =
    same_block (b / 2 ^ (128 - n)) (2 ^ (128 - n)) s a (pow_pos (128 - n)) (omega arith)
    (λ h. let le : 2 ^ 32 + b / 2 ^ (128 - n) * 2 ^ (128 - n) ≤ 2 ^ 32 + s = last (V6 (b / 2 ^ (128 - n) * 2 ^ (128 - n))) edges.0 (omega (arith, h)) in omega (arith, le))
    (λ h. let le : 2 ^ 32 + (b / 2 ^ (128 - n) + 1) * 2 ^ (128 - n) ≤ 2 ^ 32 + s = last (V6 ((b / 2 ^ (128 - n) + 1) * 2 ^ (128 - n))) (edges.1 (omega (arith, h, aa))) (omega (arith, h)) in omega (arith, le))
alike (Range (V4 b) n) samples (V6 s) (V6 a) ss aa edges six low last = refl
alike (Range (V6 b) n) samples (V4 s) (V4 a) ss aa edges six low last = refl
alike (Range b n) samples (V4 s) (V6 a) ss aa edges six low last = let le : 2 ^ 32 + 0 ≤ s = last (V6 0) six (omega arith) in absurd (omega (arith, le, ss))
alike (Range b n) samples (V6 s) (V4 a) ss aa edges six low last = absurd (omega (arith, low, aa))

found_in : (samples : List Address) (s before : Address) → Contains samples before → Contains samples s ⊎ (s ≡ before) → Contains samples s
found_in samples s before h (inl i) = i
found_in samples s before h (inr e) = rw e h

pub stands : (networks : List Network) (samples : List Address) → All IsAddress samples → Contains samples (V4 0) → Contains samples (V6 0) → All (HasEdges samples) networks → AreSamples networks samples
stands networks samples addresses four six edges = record {
  are_addresses = addresses;
  stand = λ a aa.
      let best = last_of samples a (V4 0) (omega arith) in
      let l : Last samples a (V4 0) best.0 = best.1 in
      let at : Contains samples best.0 = found_in samples best.0 (V4 0) four l.found in
      let last : IsLast samples a best.0 = λ p h. All-contains (λ p. place p ≤ place a → place p ≤ place best.0) samples p l.last h in
      (best.0, at, λ k d within. alike (get_or networks k d) samples best.0 a (All-contains IsAddress samples best.0 addresses at) aa (edges k d within) six l.low last);
}

-- what a list has that has all of another
pub more_edges : (xs ys : List Address) → ((a : Address) → Contains xs a → Contains ys a) → (network : Network) → HasEdges xs network → HasEdges ys network
more_edges xs ys more Never h = tt
more_edges xs ys more (Range base n) h = (more _ h.0, λ within. more _ (h.1 within))

pub edges_more : (networks : List Network) (i : ℕ) (network : Network) (xs ys : List Address) → i < length networks → network ≡ get_or networks i network → ((a : Address) → Contains xs a → Contains ys a) → HasEdges ys network → All (HasEdges xs) (take i networks) → All (HasEdges ys) (take (i + 1) networks)
edges_more networks i network xs ys within is more has before =
    All-more (HasEdges ys) networks i network within (All-weaker (HasEdges xs) (HasEdges ys) (more_edges xs ys more) (take i networks) before) (rw (← is) has)

-- and those of another list that has all of the samples
pub stands_in : (networks : List Network) (samples kept : List Address) → ((a : Address) → Contains samples a → Contains kept a) → (All IsAddress samples → All IsAddress kept) → All IsAddress samples → Contains samples (V4 0) → Contains samples (V6 0) → All (HasEdges samples) networks → AreSamples networks kept
stands_in networks samples kept more addresses are four six edges =
    stands networks kept (addresses are) (more (V4 0) four) (more (V6 0) six) (All-weaker (HasEdges samples) (HasEdges kept) (more_edges samples kept more) networks edges)

pub contained_more : (all : List Address) (i : ℕ) (x : Address) (xs ys : List Address) → i < length all → x ≡ get_or all i x → ((a : Address) → Contains xs a → Contains ys a) → Contains ys x → All (Contains xs) (take i all) → All (Contains ys) (take (i + 1) all)
contained_more all i x xs ys within is more has before =
    All-more (Contains ys) all i x within (All-weaker (Contains xs) (Contains ys) more (take i all) before) (rw (← is) has)
