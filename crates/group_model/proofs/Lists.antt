-- Lists that agree one by one, and parts of lists.
use Rattle.std.proofs.Common.{ℕ, zero, suc, ◌≡◌, ◌<◌, Bool, true, false, ◌==◌, ◌||◌, List, [], ◌∷◌, ◌++◌, map, length, take, drop, refl, sym, ◌∙◌, ap, subst, arith, inl, inr, if◌then◌else◌}
use Rattle.std.specs.Prelude.{Option, Some, None, slice_get, slice_set}
use Rattle.std.specs.List.{filter, remove}
use Rattle.std.proofs.lemmas.Bool.{or_cases, eq-eqb, eqb-true, both_ways}
use Rattle.entry_core.specs.Log.{is_in}
use Rattle.group_model_whole.specs.Each.{Each}
use Rattle.group_model_whole.proofs.Leading.{or_true}
use Rattle.group_model.specs.Standing.{Both}

-- the same of two places
abbrev pub IfBoth : {X Y : Type 0} → (X → Y → Type 0) → Option X → Option Y → Type 0
IfBoth R None None = Unit {0}
IfBoth R None (Some y) = ⊥
IfBoth R (Some x) None = ⊥
IfBoth R (Some x) (Some y) = R x y

module _ {X Y : Type 0} (R : X → Y → Type 0) where
  pub Both-append : (xs : List X) (ys : List Y) (xs' : List X) (ys' : List Y) → Both R xs ys → Both R xs' ys' → Both R (xs ++ xs') (ys ++ ys')
  Both-append [] [] xs' ys' a b = b
  Both-append [] (y ∷ ys) xs' ys' a b = absurd a
  Both-append (x ∷ xs) [] xs' ys' a b = absurd a
  Both-append (x ∷ xs) (y ∷ ys) xs' ys' a b = (a.0, Both-append xs ys xs' ys' a.1 b)

  pub Both-push : (xs : List X) (ys : List Y) (x : X) (y : Y) → Both R xs ys → R x y → Both R (xs ++ x ∷ []) (ys ++ y ∷ [])
  Both-push xs ys x y a one = Both-append xs ys (x ∷ []) (y ∷ []) a (one, tt)

  pub Both-take : (n : ℕ) (xs : List X) (ys : List Y) → Both R xs ys → Both R (take n xs) (take n ys)
  Both-take zero xs ys a = tt
  Both-take (suc n) [] [] a = tt
  Both-take (suc n) [] (y ∷ ys) a = absurd a
  Both-take (suc n) (x ∷ xs) [] a = absurd a
  Both-take (suc n) (x ∷ xs) (y ∷ ys) a = (a.0, Both-take n xs ys a.1)

  pub Both-drop : (n : ℕ) (xs : List X) (ys : List Y) → Both R xs ys → Both R (drop n xs) (drop n ys)
  Both-drop zero xs ys a = a
  Both-drop (suc n) [] [] a = tt
  Both-drop (suc n) [] (y ∷ ys) a = absurd a
  Both-drop (suc n) (x ∷ xs) [] a = absurd a
  Both-drop (suc n) (x ∷ xs) (y ∷ ys) a = Both-drop n xs ys a.1

  pub Both-remove : (xs : List X) (ys : List Y) (i : ℕ) → Both R xs ys → Both R (remove xs i) (remove ys i)
  Both-remove xs ys i a = Both-append (take i xs) (take i ys) (drop (suc i) xs) (drop (suc i) ys) (Both-take i xs ys a) (Both-drop (suc i) xs ys a)

  pub Both-set : (xs : List X) (ys : List Y) (i : ℕ) (x : X) (y : Y) → Both R xs ys → R x y → Both R (slice_set xs i x) (slice_set ys i y)
  Both-set [] [] i x y a one = tt
  Both-set [] (v ∷ ys) i x y a one = absurd a
  Both-set (u ∷ xs) [] i x y a one = absurd a
  Both-set (u ∷ xs) (v ∷ ys) zero x y a one = (one, a.1)
  Both-set (u ∷ xs) (v ∷ ys) (suc i) x y a one = (a.0, Both-set xs ys i x y a.1 one)

  pub Both-get : (xs : List X) (ys : List Y) (i : ℕ) → Both R xs ys → IfBoth R (slice_get xs i) (slice_get ys i)
  Both-get [] [] i a = tt
  Both-get [] (y ∷ ys) i a = absurd a
  Both-get (x ∷ xs) [] i a = absurd a
  Both-get (x ∷ xs) (y ∷ ys) zero a = a.0
  Both-get (x ∷ xs) (y ∷ ys) (suc i) a = Both-get xs ys i a.1

-- what the other list has at the same place
pub record Beside {X Y : Type 0} (R : X → Y → Type 0) (x : X) (ys : List Y) (i : ℕ) : Type 0 where
  pub item : Y
  pub is : slice_get ys i ≡ Some item
  pub agrees : R x item

pub beside : {X Y : Type 0} (R : X → Y → Type 0) (xs : List X) (ys : List Y) (i : ℕ) (x : X) → Both R xs ys → slice_get xs i ≡ Some x → Beside R x ys i
beside {X} {Y} R xs ys i x both is = go (slice_get ys i) refl (subst (λ v. IfBoth R v (slice_get ys i)) is (Both-get R xs ys i both))
  where
    go : (found : Option Y) → slice_get ys i ≡ found → IfBoth R (Some x) found → Beside R x ys i
    go None there agrees = absurd agrees
    go (Some y) there agrees = record { item = y; is = there; agrees = agrees }

pub besides : {X Y : Type 0} (R : X → Y → Type 0) (xs : List X) (ys : List Y) (i : ℕ) (y : Y) → Both R xs ys → slice_get ys i ≡ Some y → Beside (λ w v. R v w) y xs i
besides {X} {Y} R xs ys i y both is = go (slice_get xs i) refl (subst (λ v. IfBoth R (slice_get xs i) v) is (Both-get R xs ys i both))
  where
    go : (found : Option X) → slice_get xs i ≡ found → IfBoth R found (Some y) → Beside (λ w v. R v w) y xs i
    go None there agrees = absurd agrees
    go (Some x) there agrees = record { item = x; is = there; agrees = agrees }

pub Both-weaker : {X Y : Type 0} (R Q : X → Y → Type 0) → ((x : X) (y : Y) → R x y → Q x y) → (xs : List X) (ys : List Y) → Both R xs ys → Both Q xs ys
Both-weaker R Q to [] [] a = tt
Both-weaker R Q to [] (y ∷ ys) a = absurd a
Both-weaker R Q to (x ∷ xs) [] a = absurd a
Both-weaker R Q to (x ∷ xs) (y ∷ ys) a = (to x y a.0, Both-weaker R Q to xs ys a.1)

pub Both-map_both : {X Y X' Y' : Type 0} (R : X → Y → Type 0) (Q : X' → Y' → Type 0) (f : X → X') (g : Y → Y') → ((x : X) (y : Y) → R x y → Q (f x) (g y)) → (xs : List X) (ys : List Y) → Both R xs ys → Both Q (map f xs) (map g ys)
Both-map_both R Q f g to [] [] a = tt
Both-map_both R Q f g to [] (y ∷ ys) a = absurd a
Both-map_both R Q f g to (x ∷ xs) [] a = absurd a
Both-map_both R Q f g to (x ∷ xs) (y ∷ ys) a = (to x y a.0, Both-map_both R Q f g to xs ys a.1)

pub Both-map : {A X Y : Type 0} (R : X → Y → Type 0) (f : A → X) (g : A → Y) → ((v : A) → R (f v) (g v)) → (vs : List A) → Both R (map f vs) (map g vs)
Both-map R f g each [] = tt
Both-map R f g each (v ∷ vs) = (each v, Both-map R f g each vs)

pub Both-map_each : {A X Y : Type 0} (R : X → Y → Type 0) (P : A → Type 0) (f : A → X) (g : A → Y) → ((v : A) → P v → R (f v) (g v)) → (vs : List A) → Each P vs → Both R (map f vs) (map g vs)
Both-map_each R P f g each [] ok = tt
Both-map_each R P f g each (v ∷ vs) ok = (each v ok.0, Both-map_each R P f g each vs ok.1)

-- a fact of each that is among these numbers
pub Each-in : (P : ℕ → Type 0) (xs : List ℕ) → ((x : ℕ) → is_in xs x ≡ true → P x) → Each P xs
Each-in P [] each = tt
Each-in P (x ∷ xs) each = (
  each x (ap (λ b. b || is_in xs x) (eq-eqb x x refl)),
  Each-in P xs (λ y is. each y (ap (λ b. (x == y) || b) is ∙ or_true (x == y))),
)

pub in-filter : (q : ℕ → Bool) (xs : List ℕ) (x : ℕ) → is_in (filter q xs) x ≡ true → (is_in xs x ≡ true) × (q x ≡ true)
in-filter q [] x is = absurd (both_ways false refl is)
in-filter q (y ∷ xs) x is = go (q y) refl is (λ there. in-filter q xs x there)
  where
    go : (b : Bool) → q y ≡ b → is_in (if b then y ∷ filter q xs else filter q xs) x ≡ true → (is_in (filter q xs) x ≡ true → (is_in xs x ≡ true) × (q x ≡ true)) → (is_in (y ∷ xs) x ≡ true) × (q x ≡ true)
    go true e here later = elim (or_cases (y == x) (is_in (filter q xs) x) here) [
      | inl same ↦ (ap (λ b. b || is_in xs x) same, subst (λ v. q v ≡ true) (eqb-true y x same) e)
      | inr there ↦ (let rest = later there in (ap (λ b. (y == x) || b) rest.0 ∙ or_true (y == x), rest.1))
    ]
    go false e here later = (let rest = later here in (ap (λ b. (y == x) || b) rest.0 ∙ or_true (y == x), rest.1))

pub Each-front : {X : Type 0} (P : X → Type 0) (xs ys : List X) → Each P (xs ++ ys) → Each P xs
Each-front P [] ys each = tt
Each-front P (x ∷ xs) ys each = (each.0, Each-front P xs ys each.1)

pub Each-rest : {X : Type 0} (P : X → Type 0) (xs ys : List X) → Each P (xs ++ ys) → Each P ys
Each-rest P [] ys each = each
Each-rest P (x ∷ xs) ys each = Each-rest P xs ys each.1

pub get-split : {X : Type 0} (xs : List X) (k : ℕ) (x : X) → slice_get xs k ≡ Some x → take k xs ++ x ∷ drop (suc k) xs ≡ xs
get-split [] k x is = absurd (cc)
get-split (y ∷ xs) zero x is = let same : y ≡ x = cc in ap (λ v. v ∷ xs) (sym same)
get-split (y ∷ xs) (suc k) x is = ap (λ l. y ∷ l) (get-split xs k x is)

pub get-take : {X : Type 0} (n : ℕ) (xs : List X) (k : ℕ) → k < n → slice_get (take n xs) k ≡ slice_get xs k
get-take zero xs k below = absurd (omega arith)
get-take (suc n) [] k below = refl
get-take (suc n) (x ∷ xs) zero below = refl
get-take (suc n) (x ∷ xs) (suc k) below = get-take n xs k (omega arith)

-- one place more that is the same
pub take-next : {X : Type 0} (k : ℕ) (xs ys : List X) (x : X) → take k xs ≡ take k ys → slice_get xs k ≡ Some x → slice_get ys k ≡ Some x → take (suc k) xs ≡ take (suc k) ys
take-next k xs ys x same here there = next k xs x here ∙ ap (λ l. l ++ x ∷ []) same ∙ sym (next k ys x there)
  where
    next : {X : Type 0} (k : ℕ) (xs : List X) (x : X) → slice_get xs k ≡ Some x → take (suc k) xs ≡ take k xs ++ x ∷ []
    next k [] x is = absurd (cc)
    next zero (y ∷ xs) x is = let same : y ≡ x = cc in ap (λ v. v ∷ []) same
    next (suc k) (y ∷ xs) x is = ap (λ l. y ∷ l) (next k xs x is)

pub record At {X : Type 0} (xs : List X) (k : ℕ) : Type 0 where
  pub item : X
  pub is : slice_get xs k ≡ Some item

pub at_place : {X : Type 0} (xs : List X) (k : ℕ) → k < length xs → At xs k
at_place [] k below = absurd (omega arith)
at_place (x ∷ xs) zero below = record { item = x; is = refl }
at_place (x ∷ xs) (suc k) below = let a = at_place xs k (omega arith) in record { item = a.item; is = a.is }
