-- Two texts that agree at both ends, which are all of them.
use Rattle.std.proofs.Common.{◌≡◌, ℕ, zero, suc, ◌-◌, ◌*◌, ◌≤◌, List, [], ◌∷◌, ◌++◌, Bool, true, false, length, take, drop, refl, sym, ap, ◌∙◌, arith}
use Rattle.std.specs.Str.{bytes_eq}
use Rattle.std.proofs.lemmas.Bool.{false≢true}
use Rattle.std.proofs.lemmas.List.{take_all, take-append-drop, length-drop}
use Rattle.std.proofs.lemmas.Slice.Eq.{bytes_eq-Decides}

take_within : (m k : ℕ) (xs : List ℕ) → m ≤ k → take m (take k xs) ≡ take m xs
take_within zero k xs h = refl
take_within (suc m) zero xs h = absurd (omega arith)
take_within (suc m) (suc k) [] h = refl
take_within (suc m) (suc k) (x ∷ xs) h = ap (λ ys. x ∷ ys) (take_within m k xs (omega arith))

-- what is behind m and the first k are all of a text, where these parts meet
from_ends : (k m : ℕ) (a b : List ℕ) → m ≤ k → drop m a ≡ drop m b → take k a ≡ take k b → a ≡ b
from_ends k m a b meet backs first =
    let fronts : take m a ≡ take m b = sym (take_within m k a meet) ∙ ap (take m) first ∙ take_within m k b meet in
    sym (take-append-drop m a) ∙ ap (λ xs. xs ++ drop m a) fronts ∙ ap (λ xs. take m b ++ xs) backs ∙ take-append-drop m b

-- what is behind m, as a slice from there to the end
abbrev behind : ℕ → List ℕ → List ℕ
behind m xs = take (length xs - m) (drop m xs)

behind_is : (m : ℕ) (xs : List ℕ) → behind m xs ≡ drop m xs
behind_is m xs = take_all (length xs - m) (drop m xs) (omega (arith, length-drop m xs))

same_bools : (x y : Bool) → (x ≡ true → y ≡ true) → (y ≡ true → x ≡ true) → x ≡ y
same_bools true y to from = sym (to refl)
same_bools false true to from = from refl
same_bools false false to from = refl

-- so where the last are the same, the first tell whether the texts are
pub first_tell : (k : ℕ) (a b : List ℕ) (e s : Bool) → length b ≤ 2 * k
    → e ≡ bytes_eq (behind (length b - k) a) (behind (length b - k) b) → s ≡ bytes_eq (take k a) (take k b) → e ≡ true → s ≡ bytes_eq a b
first_tell k a b e s few e_is s_is same =
    let m = length b - k in
    let backs : drop m a ≡ drop m b = sym (behind_is m a) ∙ (bytes_eq-Decides (behind m a) (behind m b)).0 (sym e_is ∙ same) ∙ behind_is m b in
    let all = bytes_eq-Decides a b in
    let firsts = bytes_eq-Decides (take k a) (take k b) in
    same_bools s (bytes_eq a b) (λ h. all.1 (from_ends k m a b (omega arith) backs (firsts.0 (sym s_is ∙ h)))) (λ h. s_is ∙ firsts.1 (ap (take k) (all.0 h)))

-- and where they are not, the texts are not
pub last_tell : (m : ℕ) (a b : List ℕ) (e : Bool) → e ≡ bytes_eq (behind m a) (behind m b) → e ≡ false → e ≡ bytes_eq a b
last_tell m a b e e_is differ =
    same_bools e (bytes_eq a b) (λ h. absurd (false≢true (sym differ ∙ h))) (λ h. e_is ∙ (bytes_eq-Decides (behind m a) (behind m b)).1 (ap (behind m) ((bytes_eq-Decides a b).0 h)))
