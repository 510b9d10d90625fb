-- The numbers of the daemons in a set.
use Rattle.std.proofs.Common.{◌≡◌, ◌≢◌, ℕ, zero, suc, ◌+◌, ◌<◌, ◌==◌, ◌&&◌, List, [], ◌∷◌, ◌++◌, Bool, false, true, cond, length, take, set, filter, refl, sym, ap, ◌∙◌, arith, All, slice_index_or}
use Rattle.std.specs.List.{range_with_len, AllPairs, list_any}
use Rattle.std.proofs.lemmas.Bool.{eqb-true, eq-eqb}
use Rattle.std.proofs.lemmas.List.Folds.{list_any_at}
use Rattle.std.proofs.lemmas.Map.Views.{any-filter_same}
use Rattle.std.proofs.lemmas.List.Elements.{filter-append, All-filter}
use Rattle.std.proofs.lemmas.List.Kept.{AllPairs-filter}
use Rattle.std.proofs.lemmas.List.{take_more_set, append-nil}
use Rattle.std.proofs.lemmas.List.FromFn.{get_or-range_with_len, length-range_with_len}
use Rattle.place_core.specs.Placement.{numbers_of}

range_push : (a n : ℕ) → range_with_len a (suc n) ≡ range_with_len a n ++ (a + n) ∷ []
range_push a zero = let e : a ≡ a + 0 = omega arith in ap (λ x. x ∷ []) e
range_push a (suc n) = let e : a + 1 + n ≡ a + suc n = omega arith in ap (λ l. a ∷ l) (range_push (a + 1) n ∙ ap (λ x. range_with_len (a + 1) n ++ x ∷ []) e)

-- one number more
pub numbers_more : (p : ℕ → Bool) (n : ℕ) → filter p (range_with_len 0 (n + 1)) ≡ filter p (range_with_len 0 n) ++ cond (p n) (n ∷ []) []
numbers_more p n =
    let e : n + 1 ≡ suc n = omega arith in
    let z : 0 + n ≡ n = omega arith in
    ap (λ m. filter p (range_with_len 0 m)) e ∙ ap (filter p) (range_push 0 n ∙ ap (λ m. range_with_len 0 n ++ m ∷ []) z) ∙ filter-append p (range_with_len 0 n) (n ∷ [])

-- a loop's step, at a number in the set and at another
pub numbers_yes : (p : ℕ → Bool) (xs : List ℕ) (count n : ℕ) → count < length xs → take count xs ≡ filter p (range_with_len 0 n) → p n ≡ true → take (count + 1) (set xs count n) ≡ filter p (range_with_len 0 (n + 1))
numbers_yes p xs count n room so_far passes =
    take_more_set xs count n room ∙ ap (λ l. l ++ n ∷ []) so_far ∙ ap (λ b. filter p (range_with_len 0 n) ++ cond b (n ∷ []) []) (sym passes) ∙ sym (numbers_more p n)

pub numbers_no : (p : ℕ → Bool) (xs : List ℕ) (count n : ℕ) → take count xs ≡ filter p (range_with_len 0 n) → p n ≡ false → take count xs ≡ filter p (range_with_len 0 (n + 1))
numbers_no p xs count n so_far fails =
    so_far ∙ sym (append-nil (filter p (range_with_len 0 n))) ∙ ap (λ b. filter p (range_with_len 0 n) ++ cond b (n ∷ []) []) (sym fails) ∙ sym (numbers_more p n)

-- they are below the length
pub numbers_below : (flags : List Bool) → All (λ d. d < length flags) (numbers_of flags)
unfolding numbers_of
numbers_below flags = All-filter _ (λ d. d < length flags) (range_with_len 0 (length flags))
    (λ k d h. let e = get_or-range_with_len 0 (length flags) k d (omega (arith, length-range_with_len 0 (length flags))) in omega (arith, e, length-range_with_len 0 (length flags)))

-- no number stands twice
pub numbers_differ : (flags : List Bool) → AllPairs (λ a b. a ≢ b) (numbers_of flags)
unfolding numbers_of
numbers_differ flags = AllPairs-filter (λ a b. a ≢ b) _ (range_with_len 0 (length flags))
    (λ i j d low high same.
    let long = length-range_with_len 0 (length flags) in
    let first = get_or-range_with_len 0 (length flags) i d (omega (arith, long)) in
    let second = get_or-range_with_len 0 (length flags) j d (omega (arith, long)) in
    omega (arith, first, second, same))

within : (flags : List Bool) (d : ℕ) → slice_index_or flags d false ≡ true → d < length flags
within [] d is = absurd (cc)
within (f ∷ fs) zero is = omega arith
within (f ∷ fs) (suc d) is = let rest = within fs d is in omega (arith, rest)

-- a flag says whether its number is among them
pub number_is : (flags : List Bool) (d : ℕ) → slice_index_or flags d false ≡ list_any (λ e. e == d) (numbers_of flags)
unfolding numbers_of
number_is flags d = go (slice_index_or flags d false) refl
  where
    all : List ℕ
    all = range_with_len 0 (length flags)

    kept : (b : Bool) → slice_index_or flags d false ≡ b → list_any (λ e. e == d) (filter (λ e. slice_index_or flags e false) all) ≡ (b && list_any (λ e. e == d) all)
    kept b is = any-filter_same (λ e. e == d) (λ e. slice_index_or flags e false) b (λ k same. ap (λ e. slice_index_or flags e false) (eqb-true k d same) ∙ is) all

    go : (b : Bool) → slice_index_or flags d false ≡ b → slice_index_or flags d false ≡ list_any (λ e. e == d) (filter (λ e. slice_index_or flags e false) all)
    go false is = is ∙ sym (kept false is)
    go true is = is ∙ sym (kept true is ∙ there (within flags d is))
      where
        there : d < length flags → list_any (λ e. e == d) all ≡ true
        there low =
            let here = get_or-range_with_len 0 (length flags) d 0 low in
            list_any_at (λ e. e == d) all d 0 (omega (arith, low, length-range_with_len 0 (length flags))) (eq-eqb _ d (omega (arith, here)))
