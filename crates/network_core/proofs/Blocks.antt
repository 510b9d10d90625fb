-- Numbers that share their first bits are those of one block.
use Rattle.std.proofs.Common.{◌≡◌, ℕ, ◌+◌, ◌-◌, ◌*◌, ◌/◌, ◌%◌, ◌^◌, ◌<◌, ◌≤◌, Bool, true, false, ◌==◌, ◌⊎◌, inl, inr, sym, ◌∙◌, arith}
use Rattle.std.proofs.lemmas.Nat.{div-add-mod', pow_pos}
use Rattle.std.proofs.Math.Nat.{div-lt_iff_lt-mul, div-eq_of_lt-le, lt-div-mul-add}
use Rattle.std.proofs.lemmas.Bool.Decides.{nat_tests}
use Rattle.std.proofs.lemmas.Bool.{cases_lt}

pub block_fits : (n p size : ℕ) → size ≡ p → n / p * size ≤ n
block_fits n p size e = let whole : n / p * p + n % p ≡ n = div-add-mod' n p in rw e (omega arith)

pub block_first : (n p size : ℕ) → size ≡ p → n / p * size ≡ n / p * p
block_first n p size e = rw e

pub block_behind : (n p size : ℕ) → size ≡ p → n / p * size + size ≡ (n / p + 1) * p
block_behind n p size e = rw e (omega arith)

-- a number of the block q
in_block : (q p x : ℕ) → q * p ≤ x → x < (q + 1) * p → x / p ≡ q
in_block q p x low high = div-eq_of_lt-le p low high

above : (q p x : ℕ) → q ≡ x / p → q * p ≤ x
above q p x e = let whole : x / p * p + x % p ≡ x = div-add-mod' x p in rw e (omega arith)

below : (q p x : ℕ) → 0 < p → q ≡ x / p → x < (q + 1) * p
below q p x pos e = let more : x < x / p * p + p = lt-div-mul-add pos in rw e (omega arith)

pub same_test : (q a b : ℕ) → (q ≡ a → q ≡ b) → (q ≡ b → q ≡ a) → (q == a) ≡ (q == b)
same_test q a b to from = grind (arith, nat_tests)

-- If s is at most n, and a block that n has reached or left s has too, then both are in the block or none is.
pub same_block : (q p s n : ℕ) → 0 < p → s ≤ n → (q * p ≤ n → q * p ≤ s) → ((q + 1) * p ≤ n → (q + 1) * p ≤ s) → (q == s / p) ≡ (q == n / p)
same_block q p s n pos le begun ended =
    same_test q (s / p) (n / p)
    (λ e.
    let low : q * p ≤ s = above q p s e in
    let high : s < (q + 1) * p = below q p s pos e in
    sym (in_block q p n (omega arith) (elim (cases_lt n ((q + 1) * p)) [ inl h ↦ h | inr h ↦ let over : (q + 1) * p ≤ s = ended h in absurd (omega arith) ])))
    (λ e.
    let low : q * p ≤ n = above q p n e in
    let high : n < (q + 1) * p = below q p n pos e in
    let reached : q * p ≤ s = begun low in
    sym (in_block q p s reached (omega arith)))
