-- Elements that are taken away behind a front that is passed over.
use Rattle.std.proofs.Common.{ℕ, zero, suc, ◌≡◌, ◌≤◌, ◌<◌, ◌+◌, ◌-◌, List, [], ◌∷◌, ◌++◌, length, take, drop, refl, ◌∙◌, ap, arith}
use Rattle.std.specs.List.{remove}

pub drop_remove : {X : Type 0} (xs : List X) (p k n : ℕ) → n ≡ p + k → p ≤ length xs → drop p (remove xs n) ≡ remove (drop p xs) k
drop_remove xs zero k n is fits = (let same : n ≡ k = omega arith in ap (λ v. remove xs v) same)
drop_remove [] (suc p) k n is fits = absurd (omega arith)
drop_remove (x ∷ xs) (suc p) k zero is fits = absurd (omega arith)
drop_remove (x ∷ xs) (suc p) k (suc n) is fits = drop_remove xs p k n (omega arith) (omega arith)

pub drop_first : {X : Type 0} (xs : List X) (p n : ℕ) → n ≡ p + 1 → drop n xs ≡ remove (drop p xs) 0
drop_first [] zero n is = (let same : n ≡ 1 = omega arith in ap (λ v. drop v []) same)
drop_first (x ∷ xs) zero n is = (let same : n ≡ 1 = omega arith in ap (λ v. drop v (x ∷ xs)) same)
drop_first [] (suc p) zero is = absurd (omega arith)
drop_first [] (suc p) (suc n) is = refl
drop_first (x ∷ xs) (suc p) zero is = absurd (omega arith)
drop_first (x ∷ xs) (suc p) (suc n) is = drop_first xs p n (omega arith)

-- the rest stays where more is added behind
pub remove_before : {X : Type 0} (xs ys : List X) (k : ℕ) → k < length xs → remove (xs ++ ys) k ≡ remove xs k ++ ys
remove_before [] ys k lt = absurd (omega arith)
remove_before (x ∷ xs) ys zero lt = refl
remove_before (x ∷ xs) ys (suc k) lt = ap (λ l. x ∷ l) (remove_before xs ys k (omega arith))

-- the last behind a front that is passed over
pub drop_take_last : {X : Type 0} (xs : List X) (p n : ℕ) → n ≡ length xs → p < n → drop p (take (n - 1) xs) ≡ take (length (drop p xs) - 1) (drop p xs)
drop_take_last xs zero n is lt = ap (λ v. take (v - 1) xs) is
drop_take_last [] (suc p) n is lt = absurd (omega arith)
drop_take_last (x ∷ xs) (suc p) n is lt =
    let shift : n - 1 ≡ suc (length xs - 1) = omega arith in
    ap (λ v. drop (suc p) (take v (x ∷ xs))) shift ∙ drop_take_last xs p (length xs) refl (omega arith)
