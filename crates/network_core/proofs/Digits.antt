-- Numbers that digits write.
use Rattle.std.proofs.Common.{◌≡◌, ℕ, zero, suc, ◌+◌, ◌<◌, ◌≤◌, List, [], ◌∷◌, length, get_or, arith}
use Rattle.std.specs.Char.{digit_value}
use Rattle.std.specs.Str.Parse.{AllDigits, IsNumeral}

digit_below : (ds : List ℕ) (i : ℕ) → AllDigits 10 ds → i < length ds → digit_value (get_or ds i 0) < 10
digit_below [] i h l = absurd (omega arith)
digit_below (c ∷ cs) zero h l = h.0
digit_below (c ∷ cs) (suc i) h l = digit_below cs i h.1 (omega arith)

-- a byte that is no digit
pub no_numeral : (ds : List ℕ) (i : ℕ) → i < length ds → 10 ≤ digit_value (get_or ds i 0) → IsNumeral 10 ds → ⊥
no_numeral ds i l h n = let d : digit_value (get_or ds i 0) < 10 = digit_below ds i n.1 l in omega arith
