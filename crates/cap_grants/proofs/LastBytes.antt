-- Emptiness and a last star, by lengths.
use Rattle.std.proofs.Common.{◌≡◌, ◌≢◌, ℕ, suc, ◌-◌, ◌==◌, List, [], ◌∷◌, Bool, true, false, length, get_or, refl, sym, ap, ◌∙◌, arith}
use Rattle.std.specs.Cmp.{unsigned_Decides}
use Rattle.cap_grants.specs.Bytes.{is_empty}
use Rattle.cap_grants.specs.Spellable.{ends_in_star}

not_zero : (n : ℕ) → (suc n == 0) ≡ false
not_zero n = go (suc n == 0) refl
  where
    go : (b : Bool) → (suc n == 0) ≡ b → b ≡ false
    go true e = let same : suc n ≡ 0 = (unsigned_Decides (suc n) 0).0 e in absurd (omega arith)
    go false e = refl

pub empty_by_length : (bytes : List ℕ) → is_empty bytes ≡ (length bytes == 0)
empty_by_length [] = refl
empty_by_length (b ∷ bytes) = sym (not_zero (length bytes))

pub star_by_last : (bytes : List ℕ) (d : ℕ) → length bytes ≢ 0 → ends_in_star bytes ≡ (get_or bytes (length bytes - 1) d == 42)
star_by_last [] d some = absurd (some refl)
star_by_last (b ∷ []) d some = refl
star_by_last (b ∷ c ∷ bytes) d some =
    let e : length (b ∷ c ∷ bytes) - 1 ≡ suc (length (c ∷ bytes) - 1) = omega arith in
    star_by_last (c ∷ bytes) d (λ none. omega arith) ∙ ap (λ n. get_or (b ∷ c ∷ bytes) n d == 42) (sym e)

pub no_star_of_none : (bytes : List ℕ) → length bytes ≡ 0 → ends_in_star bytes ≡ false
no_star_of_none [] none = refl
no_star_of_none (b ∷ bytes) none = absurd (omega arith)
