-- The members that count.
use Rattle.std.proofs.Common.{ℕ, zero, suc, ◌≡◌, ◌≤◌, ◌+◌, ◌<◌, ◌==◌, ◌||◌, ◌&&◌, Bool, true, false, cond, not, List, [], ◌∷◌, ◌++◌, take, length, slice_index_or, get_or, refl, sym, ap, ◌∙◌, arith, length-take}
use Rattle.std.specs.List.{filter, list_any}
use Rattle.std.proofs.lemmas.Bool.{eqb-true, eq-eqb}
use Rattle.std.proofs.lemmas.List.Elements.{filter_more, filter-append}
use Rattle.std.proofs.lemmas.List.{append-nil}
use Rattle.entry_core.specs.Log.{is_in}
use Rattle.place_core.specs.Distinct.{is_distinct}

-- a set's own test of a member
pub has_is_in : (xs : List ℕ) (x : ℕ) → list_any (λ d. d == x) xs ≡ is_in xs x
has_is_in [] x = refl
has_is_in (y ∷ ys) x = ap (λ b. (y == x) || b) (has_is_in ys x)

-- what a filter leaves

length_left : (x : ℕ) (xs : List ℕ) (b : Bool) (n : ℕ) → length xs ≤ n → length (cond b (x ∷ xs) xs) ≤ n + 1
length_left x xs true n h = omega (arith, h)
length_left x xs false n h = omega (arith, h)

pub length-filter_most : (p : ℕ → Bool) (xs : List ℕ) → length (filter p xs) ≤ length xs
length-filter_most p [] = omega arith
length-filter_most p (x ∷ xs) = let rest = length_left x (filter p xs) (p x) (length xs) (length-filter_most p xs) in omega (arith, rest)

none_left : (t : ℕ → Bool) (x : ℕ) (xs : List ℕ) (b : Bool) → t x ≡ false → list_any t xs ≡ false → list_any t (cond b (x ∷ xs) xs) ≡ false
none_left t x xs true h k = rw (h, k) refl
none_left t x xs false h k = k

either : (a b : Bool) → (a || b) ≡ false → (a ≡ false) × (b ≡ false)
either false false h = (refl, refl)
either true b h = absurd (cc)
either false true h = absurd (cc)

pub none-filter : (t p : ℕ → Bool) (xs : List ℕ) → list_any t xs ≡ false → list_any t (filter p xs) ≡ false
none-filter t p [] h = refl
none-filter t p (x ∷ xs) h =
    let parts : (t x ≡ false) × (list_any t xs ≡ false) = either (t x) (list_any t xs) h in
    none_left t x (filter p xs) (p x) parts.0 (none-filter t p xs parts.1)

differs : (a b : ℕ) → (a ≡ b → ⊥) → (a == b) ≡ false
differs a b other = go (a == b) refl
  where
    go : (v : Bool) → (a == b) ≡ v → v ≡ false
    go true is = absurd (other (eqb-true a b is))
    go false is = refl

split : (a b : Bool) → (not a && b) ≡ true → (a ≡ false) × (b ≡ true)
split false true h = (refl, refl)
split true b h = absurd (cc)
split false false h = absurd (cc)

any_head : (t : ℕ → Bool) (xs : List ℕ) (i d : ℕ) → i < length xs → list_any t xs ≡ false → t (get_or xs i d) ≡ false
any_head t [] i d within h = absurd (omega (arith, within))
any_head t (x ∷ xs) zero d within h = (either (t x) (list_any t xs) h).0
any_head t (x ∷ xs) (suc i) d within h = any_head t xs i d (omega (arith, within)) (either (t x) (list_any t xs) h).1

turned : (a b : ℕ) → (a == b) ≡ false → (b == a) ≡ false
turned a b h = differs b a (λ same. let e : (a == b) ≡ true = eq-eqb a b (sym same) in absurd (cc))

-- among distinct members, none of those before a place is the one there
pub new_here : (xs : List ℕ) (i d : ℕ) → is_distinct xs ≡ true → i < length xs → list_any (λ m. m == get_or xs i d) (take i xs) ≡ false
new_here [] i d once within = absurd (omega (arith, within))
new_here (x ∷ xs) zero d once within = refl
new_here (x ∷ xs) (suc i) d once within =
    let parts : (list_any (λ m. m == x) xs ≡ false) × (is_distinct xs ≡ true) = split (list_any (λ m. m == x) xs) (is_distinct xs) once in
    let here : (get_or xs i d == x) ≡ false = any_head (λ m. m == x) xs i d (omega (arith, within)) parts.0 in
    let rest : list_any (λ m. m == get_or xs i d) (take i xs) ≡ false = new_here xs i d parts.1 (omega (arith, within)) in
    rw (turned (get_or xs i d) x here, rest) refl

-- the loop over a set: those that were taken so far are few, and the next is not among them
pub room_left : (p q : ℕ → Bool) (xs counted : List ℕ) (i : ℕ) → length xs ≤ 5 → i < length xs → counted ≡ filter q (filter p (take i xs)) → length counted < 5
room_left p q xs counted i few within is =
    let one = length-filter_most q (filter p (take i xs)) in
    let two = length-filter_most p (take i xs) in
    omega (arith, few, within, ap length is, one, two, length-take i xs)

pub is_new : (p q : ℕ → Bool) (xs counted : List ℕ) (i d : ℕ) → is_distinct xs ≡ true → i < length xs → counted ≡ filter q (filter p (take i xs)) → list_any (λ m. m == get_or xs i d) counted ≡ false
is_new p q xs counted i d once within is =
    ap (list_any (λ m. m == get_or xs i d)) is
    ∙ none-filter (λ m. m == get_or xs i d) q (filter p (take i xs)) (none-filter (λ m. m == get_or xs i d) p (take i xs) (new_here xs i d once within))

kept_more : (p q : ℕ → Bool) (xs : List ℕ) (i : ℕ) → i < length xs →
    filter q (filter p (take (i + 1) xs)) ≡ filter q (filter p (take i xs)) ++ filter q (cond (p (slice_index_or xs i 0)) (slice_index_or xs i 0 ∷ []) [])
kept_more p q xs i within = ap (filter q) (filter_more p xs i 0 within) ∙ filter-append q (filter p (take i xs)) _

last_kept : (p q : ℕ → Bool) (x : ℕ) (a b : Bool) → p x ≡ a → q x ≡ b → (a && b) ≡ true → filter q (cond (p x) (x ∷ []) []) ≡ x ∷ []
last_kept p q x true true is_p is_q both = rw (is_p, is_q) refl
last_kept p q x true false is_p is_q both = absurd (cc)
last_kept p q x false b is_p is_q both = absurd (cc)

last_left : (p q : ℕ → Bool) (x : ℕ) (a b : Bool) → p x ≡ a → q x ≡ b → (a && b) ≡ false → filter q (cond (p x) (x ∷ []) []) ≡ []
last_left p q x false b is_p is_q not_both = rw is_p refl
last_left p q x true false is_p is_q not_both = rw (is_p, is_q) refl
last_left p q x true true is_p is_q not_both = absurd (cc)

pub takes : (p q : ℕ → Bool) (xs counted : List ℕ) (i : ℕ) → i < length xs → counted ≡ filter q (filter p (take i xs)) → (p (slice_index_or xs i 0) && q (slice_index_or xs i 0)) ≡ true →
    counted ++ slice_index_or xs i 0 ∷ [] ≡ filter q (filter p (take (i + 1) xs))
takes p q xs counted i within is both =
    ap (λ l. l ++ slice_index_or xs i 0 ∷ []) is ∙ sym (kept_more p q xs i within ∙ ap (λ l. filter q (filter p (take i xs)) ++ l) (last_kept p q (slice_index_or xs i 0) _ _ refl refl both))

pub skips : (p q : ℕ → Bool) (xs counted : List ℕ) (i : ℕ) → i < length xs → counted ≡ filter q (filter p (take i xs)) → (p (slice_index_or xs i 0) && q (slice_index_or xs i 0)) ≡ false →
    counted ≡ filter q (filter p (take (i + 1) xs))
skips p q xs counted i within is not_both =
    is ∙ sym (kept_more p q xs i within ∙ ap (λ l. filter q (filter p (take i xs)) ++ l) (last_left p q (slice_index_or xs i 0) _ _ refl refl not_both) ∙ append-nil _)
