-- How the chains of a ticket's grants are made.
use Rattle.std.proofs.Common.{◌≡◌, ℕ, ◌+◌, ◌<◌, ◌≤◌, ◌⊎◌, inl, inr, List, length, get_or, set, sym, ap, ◌∙◌, arith}
use Rattle.std.proofs.Math.ListN.{length-set}
use Rattle.std.proofs.lemmas.Bool.{cases_eq}
use Rattle.std.proofs.lemmas.Grind.{get_or-set_at}
use Rattle.std.proofs.lemmas.List.{get_or-set_other}
use Rattle.verdict_core.specs.Chains.{AreChained}

-- from the end on nothing is chained yet
pub chained_none : (n : ℕ) (chains first next : List ℕ) → length first ≡ 257 → length next ≡ length chains → n ≡ length chains → ((chain : ℕ) → chain < 257 → get_or first chain 0 ≡ n)
    → AreChained n chains first next
chained_none n chains first next heads places all firsts = record {
  heads = heads;
  places = places;
  low = λ chain h. omega (arith, firsts chain h);
  first_in = λ chain h below. absurd (omega (arith, firsts chain h));
  first_is = λ chain i h from below within. absurd (omega arith);
  next_in = λ j from within below. absurd (omega arith);
  next_is = λ j i from within after below inside. absurd (omega arith);
  rises = λ j from within. absurd (omega arith);
}

-- what stands at a place after a write
written : (xs : List ℕ) (i j v : ℕ) → i < length xs → ((j ≡ i) × (get_or (set xs i v) j 0 ≡ v)) ⊎ ((j ≡ i → ⊥) × (get_or (set xs i v) j 0 ≡ get_or xs j 0))
written xs i j v h = elim (cases_eq j i) [ inl e ↦ inl (e, get_or-set_at xs i j v 0 e h) | inr n ↦ inr (n, get_or-set_other xs i j v 0 n) ]

-- one more place, at the front of its chain
pub chained_more : (m place : ℕ) (chains first next : List ℕ) (chain head : ℕ) → place + 1 ≡ m → place < length chains → chain ≡ get_or chains place 0 → chain < 257 → head ≡ get_or first chain 0
    → AreChained m chains first next → AreChained place chains (set first chain place) (set next place head)
chained_more m place chains first next chain head one inside here small first_one c =
    let heads : length first ≡ 257 = c.heads in
    let places : length next ≡ length chains = c.places in
    let low : m ≤ get_or first chain 0 = c.low chain small in
    record {
      heads = length-set first chain place ∙ heads;
      places = length-set next place head ∙ places;
      low = λ k h. elim (written first chain k place (omega arith)) [ inl w ↦ omega (arith, w.1) | inr w ↦ omega (arith, w.1, c.low k h) ];
      first_in = λ k h below. elim (written first chain k place (omega arith)) [
        | inl w ↦ ap (λ i. get_or chains i 0) w.1 ∙ sym here ∙ sym w.0
        | inr w ↦ ap (λ i. get_or chains i 0) w.1 ∙ c.first_in k h (omega (arith, w.1))
      ];
      first_is = λ k i h from below within is. elim (written first chain k place (omega arith)) [
        | inl w ↦ absurd (omega (arith, w.1))
        | inr w ↦ elim (cases_eq i place) [
          | inl e ↦ w.0 (sym is ∙ ap (λ p. get_or chains p 0) e ∙ sym here)
          | inr n ↦ c.first_is k i h (omega (arith, n)) (omega (arith, w.1)) within is
        ]
      ];
      next_in = λ j from within below. elim (written next place j head (omega arith)) [
        | inl w ↦ ap (λ i. get_or chains i 0) (w.1 ∙ first_one) ∙ c.first_in chain small (omega (arith, w.1)) ∙ here ∙ ap (λ p. get_or chains p 0) (sym w.0)
        | inr w ↦ ap (λ i. get_or chains i 0) w.1 ∙ c.next_in j (omega (arith, w.0)) within (omega (arith, w.1))
      ];
      next_is = λ j i from within after below inside_i is. elim (written next place j head (omega arith)) [
        | inl w ↦ c.first_is chain i small (omega (arith, w.0)) (omega (arith, w.1)) inside_i (is ∙ ap (λ p. get_or chains p 0) w.0 ∙ sym here)
        | inr w ↦ c.next_is j i (omega (arith, w.0)) within after (omega (arith, w.1)) inside_i is
      ];
      rises = λ j from within. elim (written next place j head (omega arith)) [ inl w ↦ omega (arith, w.0, w.1) | inr w ↦ omega (arith, w.1, c.rises j (omega (arith, w.0)) within) ];
    }
