-- With how many entries logs begin alike.
use Prim.Native.Nat.{zero}
use Rattle.std.proofs.Common.{ℕ, suc, ◌≡◌, ◌≤◌, ◌<◌, ◌+◌, ◌==◌, ◌||◌, Bool, true, false, cond, List, [], ◌∷◌, ◌++◌, length, take, drop, get_or, min, map, refl, sym, ap, ◌∙◌, arith, add-one}
use Rattle.std.proofs.lemmas.Bool.{eq-eqb, eqb-true}
use Rattle.std.proofs.Math.Seq.{drop-cons}
use Rattle.entry_core.specs.Log.{ids, is_in}
use Rattle.group_messages.specs.Types.{Sealed, Entry}
use Rattle.group_messages.specs.Beginnings.{common, count_at}

common_at : (xs ys : List ℕ) (p : ℕ) → p < length xs → p < length ys → common (drop p xs) (drop p ys) ≡ cond (get_or xs p 0 == get_or ys p 0) (suc (common (drop (suc p) xs) (drop (suc p) ys))) 0
common_at xs ys p in_xs in_ys = λ i. common (drop-cons xs p 0 in_xs i) (drop-cons ys p 0 in_ys i)

-- one more place, at which both lists have the same
pub common_next : (xs ys : List ℕ) (p : ℕ) → p < length xs → p < length ys → (get_or xs p 0 == get_or ys p 0) ≡ true → common (drop p xs) (drop p ys) ≡ suc (common (drop (suc p) xs) (drop (suc p) ys))
common_next xs ys p in_xs in_ys same = common_at xs ys p in_xs in_ys ∙ ap (λ b. cond b (suc (common (drop (suc p) xs) (drop (suc p) ys))) 0) same

-- or not
pub common_stop : (xs ys : List ℕ) (p : ℕ) → p < length xs → p < length ys → (get_or xs p 0 == get_or ys p 0) ≡ false → common (drop p xs) (drop p ys) ≡ 0
common_stop xs ys p in_xs in_ys apart = common_at xs ys p in_xs in_ys ∙ ap (λ b. cond b (suc (common (drop (suc p) xs) (drop (suc p) ys))) 0) apart

pub common_none : (xs : List ℕ) → common xs [] ≡ 0
common_none [] = refl
common_none (x ∷ xs) = refl

drop_none : (p : ℕ) → drop p (let none : List ℕ = [] in none) ≡ []
drop_none zero = refl
drop_none (suc p) = refl

pub common_end : (xs ys : List ℕ) (p : ℕ) → p ≡ min (length xs) (length ys) → common (drop p xs) (drop p ys) ≡ 0
common_end [] ys p h = ap (λ l. common l (drop p ys)) (drop_none p)
common_end (x ∷ xs) [] p h = ap (common (drop p (x ∷ xs))) (drop_none p) ∙ common_none (drop p (x ∷ xs))
common_end (x ∷ xs) (y ∷ ys) zero h = absurd (omega arith)
common_end (x ∷ xs) (y ∷ ys) (suc p) h = common_end xs ys p (omega arith)

pub common_within : (xs ys : List ℕ) → (common xs ys ≤ length xs) × (common xs ys ≤ length ys)
common_within [] ys = (omega arith, omega arith)
common_within (x ∷ xs) [] = (omega arith, omega arith)
common_within (x ∷ xs) (y ∷ ys) = go (x == y) (common_within xs ys)
  where
    go : (b : Bool) → (common xs ys ≤ length xs) × (common xs ys ≤ length ys) → (cond b (suc (common xs ys)) 0 ≤ length (x ∷ xs)) × (cond b (suc (common xs ys)) 0 ≤ length (y ∷ ys))
    go true rest = (omega (arith, rest.0), omega (arith, rest.1))
    go false rest = (omega arith, omega arith)

-- lists that begin alike
pub common_front : (k : ℕ) (xs ys : List ℕ) → k ≤ length xs → k ≤ length ys → take k xs ≡ take k ys → common xs ys ≡ k + common (drop k xs) (drop k ys)
common_front zero xs ys in_xs in_ys same = omega arith
common_front (suc k) [] ys in_xs in_ys same = absurd (omega arith)
common_front (suc k) (x ∷ xs) [] in_xs in_ys same = absurd (omega arith)
common_front (suc k) (x ∷ xs) (y ∷ ys) in_xs in_ys same =
    let here : x ≡ y = cc in
    let rest : take k xs ≡ take k ys = cc in
    let more : common xs ys ≡ k + common (drop k xs) (drop k ys) = common_front k xs ys (omega arith) (omega arith) rest in
    ap (λ b. cond b (suc (common xs ys)) 0) (eq-eqb x y here) ∙ omega (arith, more)

-- a list that goes on behind where they part, or behind what the other begins with

pub common_short : (xs ys zs : List ℕ) → common xs zs < length xs → common (xs ++ ys) zs ≡ common xs zs
common_short [] ys zs short = absurd (omega arith)
common_short (x ∷ xs) ys [] short = refl
common_short (x ∷ xs) ys (z ∷ zs) short = go (x == z) short (common_short xs ys zs)
  where
    go : (b : Bool) → cond b (suc (common xs zs)) 0 < length (x ∷ xs) → (common xs zs < length xs → common (xs ++ ys) zs ≡ common xs zs) → cond b (suc (common (xs ++ ys) zs)) 0 ≡ cond b (suc (common xs zs)) 0
    go true short rest = ap suc (rest (omega (arith, short)))
    go false short rest = refl

pub common_long : (xs ys zs : List ℕ) → common xs zs ≡ length xs → common (xs ++ ys) zs ≡ length xs + common ys (drop (length xs) zs)
common_long [] ys zs long = omega arith
common_long (x ∷ xs) ys [] long = absurd (omega arith)
common_long (x ∷ xs) ys (z ∷ zs) long = go (x == z) long (common_long xs ys zs)
  where
    go : (b : Bool) → cond b (suc (common xs zs)) 0 ≡ length (x ∷ xs) → (common xs zs ≡ length xs → common (xs ++ ys) zs ≡ length xs + common ys (drop (length xs) zs)) → cond b (suc (common (xs ++ ys) zs)) 0 ≡ length (x ∷ xs) + common ys (drop (length (x ∷ xs)) (z ∷ zs))
    go true long rest = let r : common (xs ++ ys) zs ≡ length xs + common ys (drop (length xs) zs) = rest (omega (arith, long)) in omega (arith, r)
    go false long rest = absurd (omega (arith, long))

-- the numbers of entries

pub ids-length : (log : List Entry) → length (ids log) ≡ length log
ids-length [] = refl
ids-length (e ∷ es) = ap suc (ids-length es)

pub ids-take : (k : ℕ) (log : List Entry) → ids (take k log) ≡ take k (ids log)
ids-take zero log = refl
ids-take (suc k) [] = refl
ids-take (suc k) (e ∷ es) = ap (λ l. e.sealed.id ∷ l) (ids-take k es)

pub ids-drop : (k : ℕ) (log : List Entry) → ids (drop k log) ≡ drop k (ids log)
ids-drop zero log = refl
ids-drop (suc k) [] = refl
ids-drop (suc k) (e ∷ es) = ids-drop k es

pub ids-get : (log : List Entry) (p : ℕ) (e : Entry) → p < length log → e ≡ get_or log p e → get_or (ids log) p 0 ≡ e.sealed.id
ids-get [] p e within is = absurd (omega arith)
ids-get (x ∷ xs) zero e within is = ap (λ (v : Entry). v.sealed.id) (sym is)
ids-get (x ∷ xs) (suc p) e within is = ids-get xs p e (omega arith) is

pub map-get : (part : List Sealed) (p : ℕ) (s : Sealed) → p < length part → s ≡ get_or part p s → get_or (map (λ (r : Sealed). r.id) part) p 0 ≡ s.id
map-get [] p s within is = absurd (omega arith)
map-get (x ∷ xs) zero s within is = ap (λ (r : Sealed). r.id) (sym is)
map-get (x ∷ xs) (suc p) s within is = map-get xs p s (omega arith) is

-- what is kept of members

pub count_kept : (f : ℕ → ℕ) (ms : List ℕ) (m : ℕ) → is_in ms m ≡ true → count_at (map (λ m. record { member = m; count = f m }) ms) m ≡ f m
count_kept f [] m within = absurd (cc)
count_kept f (x ∷ ms) m within = go (x == m) refl within (count_kept f ms m)
  where
    go : (b : Bool) → (x == m) ≡ b → (b || is_in ms m) ≡ true → (is_in ms m ≡ true → count_at (map (λ m. record { member = m; count = f m }) ms) m ≡ f m) → cond b (f x) (count_at (map (λ m. record { member = m; count = f m }) ms) m) ≡ f m
    go true is within rest = ap f (eqb-true x m is)
    go false is within rest = rest within

either_true : (a b : Bool) → b ≡ true → (a || b) ≡ true
either_true true b h = refl
either_true false b h = h

pub map_alike : {Y : Type 0} (h k : ℕ → Y) (ms : List ℕ) → ((m : ℕ) → is_in ms m ≡ true → h m ≡ k m) → map h ms ≡ map k ms
map_alike h k [] same = refl
map_alike h k (x ∷ ms) same =
    let here : h x ≡ k x = same x (ap (λ b. b || is_in ms x) (eq-eqb x x refl)) in
    let rest : map h ms ≡ map k ms = map_alike h k ms (λ m within. same m (either_true (x == m) (is_in ms m) within)) in
    λ i. here i ∷ rest i

-- the place at which a loop over both stops, or goes on

pub stops_at : (xs ys : List ℕ) (p a b : ℕ) → p < length xs → p < length ys → get_or xs p 0 ≡ a → get_or ys p 0 ≡ b → (a == b) ≡ false → common xs ys ≡ p + common (drop p xs) (drop p ys) → p ≡ common xs ys
stops_at xs ys p a b in_xs in_ys x_is y_is apart so_far =
    let none : common (drop p xs) (drop p ys) ≡ 0 = common_stop xs ys p in_xs in_ys ((λ i. x_is i == y_is i) ∙ apart) in
    omega (arith, so_far, none)

pub goes_past : (xs ys : List ℕ) (p a b : ℕ) → p < length xs → p < length ys → get_or xs p 0 ≡ a → get_or ys p 0 ≡ b → (a == b) ≡ true → common xs ys ≡ p + common (drop p xs) (drop p ys) →
    common xs ys ≡ (p + 1) + common (drop (p + 1) xs) (drop (p + 1) ys)
goes_past xs ys p a b in_xs in_ys x_is y_is same so_far =
    let more : common (drop p xs) (drop p ys) ≡ suc (common (drop (suc p) xs) (drop (suc p) ys)) = common_next xs ys p in_xs in_ys ((λ i. x_is i == y_is i) ∙ same) in
    let next : common (drop (p + 1) xs) (drop (p + 1) ys) ≡ common (drop (suc p) xs) (drop (suc p) ys) = ap (λ n. common (drop n xs) (drop n ys)) (add-one p) in
    omega (arith, so_far, more, next)

pub ends_at : (xs ys : List ℕ) (p : ℕ) → p ≡ min (length xs) (length ys) → common xs ys ≡ p + common (drop p xs) (drop p ys) → p ≡ common xs ys
ends_at xs ys p is so_far = let none : common (drop p xs) (drop p ys) ≡ 0 = common_end xs ys p is in omega (arith, so_far, none)
