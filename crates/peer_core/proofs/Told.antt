-- With how many entries a log that was told begins like another one, by the numbers of their requests.
use Prim.Native.Nat.{zero}
use Rattle.std.proofs.Common.{ℕ, suc, ◌≡◌, ◌≤◌, ◌<◌, ◌+◌, ◌-◌, List, [], ◌∷◌, ◌++◌, length, take, drop, min, refl, sym, ap, ◌∙◌, arith}
use Rattle.std.proofs.lemmas.List.{length-take-le, drop-take}
use Rattle.group_messages.specs.Beginnings.{common}
use Rattle.group_messages.proofs.Alike.{common_front, common_short, common_long, common_within}

pub take_none : {X : Type 0} (t : ℕ) → take t (let none : List X = [] in none) ≡ []
take_none zero = refl
take_none (suc t) = refl

-- no more than there are
take_min : {X : Type 0} (n : ℕ) (xs : List X) (t : ℕ) → t ≡ min n (length xs) → take n xs ≡ take t xs
take_min {X} zero xs t is = let none : t ≡ 0 = omega arith in ap (λ k. take k xs) (sym none)
take_min (suc n) [] t is = sym (take_none t)
take_min (suc n) (x ∷ xs) zero is = absurd (omega arith)
take_min (suc n) (x ∷ xs) (suc t) is = ap (λ l. x ∷ l) (take_min n xs t (omega arith))

take_fewer : {X : Type 0} (n m : ℕ) (xs : List X) → n ≤ m → take n (take m xs) ≡ take n xs
take_fewer zero m xs fewer = refl
take_fewer (suc n) zero xs fewer = absurd (omega arith)
take_fewer (suc n) (suc m) [] fewer = refl
take_fewer (suc n) (suc m) (x ∷ xs) fewer = ap (λ l. x ∷ l) (take_fewer n m xs (omega arith))

front : (xs ys : List ℕ) (from told : ℕ) → from ≤ told → told ≤ length xs → from ≤ length ys → take from xs ≡ take from ys → common (take told xs) ys ≡ from + common (take (told - from) (drop from xs)) (drop from ys)
front xs ys from told below in_xs in_ys same =
    let long : length (take told xs) ≡ told = length-take-le told xs in_xs in
    let whole : told ≡ from + (told - from) = omega arith in
    common_front from (take told xs) ys (omega arith) in_ys (take_fewer from told xs below ∙ same)
    ∙ ap (λ l. from + common l (drop from ys)) (ap (λ n. drop from (take n xs)) whole ∙ drop-take from (told - from) xs)

module _ (xs ys : List ℕ) (start shared told from alike : ℕ) (in_xs : shared ≤ length xs) (in_ys : shared ≤ length ys) (same : take shared xs ≡ take shared ys) (told_is : told ≡ min start (length xs)) (from_is : from ≡ min shared told) (alike_is : alike ≡ common (take (told - from) (drop from xs)) (drop from ys)) where
  same_from : take from xs ≡ take from ys
  same_from = sym (take_fewer from shared xs (omega arith)) ∙ ap (take from) same ∙ take_fewer from shared ys (omega arith)

  told_length : length (take start xs) ≡ told
  told_length = ap length (take_min start xs told told_is) ∙ length-take-le told xs (omega arith)

  alike_at : common (take start xs) ys ≡ from + alike
  alike_at =
      ap (λ l. common l ys) (take_min start xs told told_is)
      ∙ front xs ys from told (omega arith) (omega arith) (omega arith) same_from
      ∙ ap (λ n. from + n) (sym alike_is)

  pub parts : (part : List ℕ) → from + alike < told → from + alike ≡ common (take start xs ++ part) ys
  parts part short = sym (common_short (take start xs) part ys (omega (arith, alike_at, told_length)) ∙ alike_at)

  pub goes_on : (part : List ℕ) → told ≤ from + alike → told + common part (drop told ys) ≡ common (take start xs ++ part) ys
  goes_on part long =
      let most = (common_within (take start xs) ys).0 in
      let whole : common (take start xs) ys ≡ length (take start xs) = omega (arith, alike_at, told_length, most) in
      sym (common_long (take start xs) part ys whole ∙ (λ i. told_length i + common part (drop (told_length i) ys)))
