-- A seat of a list is taken out, used and put back.
use Rattle.std.proofs.Common.{◌≡◌, ◌≢◌, ℕ, ◌+◌, ◌-◌, ◌<◌, ◌≤◌, zero, suc, take, drop, List, [], ◌∷◌, ◌++◌, map, length, get_or, set, refl, sym, ap, ◌∙◌, subst, Some, arith, length-set, get_or-set_other, get_or-set_same}
use Rattle.std.specs.Prelude.{slice_get, reverse}
use Rattle.std.proofs.lemmas.List.{get_or-map, get_or-take, take-append-le, map-set, map-append, length-map, take_more, append-nil, drop_more, reverse-append, take-set, drop-set}
use Rattle.std.proofs.lemmas.Option.{slice_get-get_or}
use Rattle.std.proofs.Math.Seq.{map-set_same}
use Rattle.turn_lock.specs.Turns.{StartsWith}
use Rattle.cluster_locks.specs.Places.{InStep}

module _ {A X : Type 0} (f : A → X) (xs : List A) (k : ℕ) (inside : k < length xs) where
  -- what f is of the place k
  pub read_at : (a : A) (d : X) → a ≡ get_or xs k a → get_or (map f xs) k d ≡ f a
  read_at a d at = get_or-map f xs k a d inside ∙ ap f (sym at)

  -- the same after a new one was put there
  pub read_put : (a : A) (d : X) → get_or (map f (set xs k a)) k d ≡ f a
  read_put a d = let inside' : k < length (set xs k a) = let e = length-set xs k a in omega arith in
      get_or-map f (set xs k a) k a d inside' ∙ ap f (get_or-set_same xs k a a inside)

  pub read_other : (a : A) (j : ℕ) (d : X) → j ≢ k → get_or (map f (set xs k a)) j d ≡ get_or (map f xs) j d
  read_other a j d other = ap (λ l. get_or l j d) (map-set f xs k a) ∙ get_or-set_other (map f xs) k j (f a) d other

  pub put_same : (a b : A) → a ≡ get_or xs k a → f b ≡ f a → map f (set xs k b) ≡ map f xs
  put_same a b at same = map-set_same f xs k b a (same ∙ ap f at)

  get_at_map : (a : A) → a ≡ get_or xs k a → slice_get (map f xs) k ≡ Some (f a)
  get_at_map a at = let inside' : k < length (map f xs) = let e = length-map xs f in omega arith in
      slice_get-get_or (map f xs) k (f a) inside' ∙ ap (λ (x : X). Some x) (read_at a (f a) at)

pub get_at : {A : Type 0} → (xs : List A) (k : ℕ) (a : A) → k < length xs → a ≡ get_or xs k a → slice_get xs k ≡ Some a
get_at {A} xs k a inside at = slice_get-get_or xs k a inside ∙ ap (λ (x : A). Some x) (sym at)

-- two lists that agree under f and g agree at k
pub same_at : {A B X : Type 0} → (f : A → X) (g : B → X) (xs : List A) (ys : List B) (k : ℕ) (a : A) (b : B) → k < length ys → map f xs ≡ map g ys → a ≡ get_or xs k a → b ≡ get_or ys k b → f a ≡ g b
same_at f g xs ys k a b inside same at at' =
    let long : length xs ≡ length ys = sym (length-map xs f) ∙ (ap length same ∙ length-map ys g) in
    sym (read_at f xs k (omega arith) a (f a) at) ∙ (ap (λ l. get_or l k (f a)) same ∙ read_at g ys k inside b (f a) at')

pub same_length : {A B X : Type 0} → (f : A → X) (g : B → X) (xs : List A) (ys : List B) → map f xs ≡ map g ys → length xs ≡ length ys
same_length f g xs ys same = sym (length-map xs f) ∙ (ap length same ∙ length-map ys g)

-- an element that was read is itself there
pub at_read : {A : Type 0} → (xs : List A) (k : ℕ) (r : A) → r ≡ get_or xs k r → get_or xs k r ≡ get_or xs k (get_or xs k r)
at_read xs k r is = ap (λ d. get_or xs k d) is

-- one more element, which is the next of `all` under f
pub grown : {A X : Type 0} → (f : A → X) (xs : List A) (x : A) (all : List X) (k : ℕ) (d : X) → k < length all → map f xs ≡ take k all → f x ≡ get_or all k d → map f (xs ++ x ∷ []) ≡ take (k + 1) all
grown f xs x all k d inside before is = map-append f xs (x ∷ []) ∙ ((λ i. before i ++ is i ∷ []) ∙ sym (take_more all k d inside))

-- the last of the first n, when it is taken off
pub popped_at : {A : Type 0} → (all xs : List A) (n k : ℕ) (x : A) → xs ≡ take n all → k < n → n - 1 ≡ k → Some x ≡ Some (get_or xs (n - 1) x) → x ≡ get_or all k x
popped_at all xs n k x is below last e = let e' : x ≡ get_or xs (n - 1) x = cc in e' ∙ (ap (λ l. get_or l (n - 1) x) is ∙ (ap (λ i. get_or (take n all) i x) last ∙ get_or-take n all k x below))

pub starts_whole : {X : Type 0} → (xs : List X) → StartsWith xs xs
starts_whole xs = ([], sym (append-nil xs))

take_within : {A : Type 0} → (xs : List A) (m n : ℕ) → m ≤ n → take m (take n xs) ≡ take m xs
take_within [] zero zero h = refl
take_within [] zero (suc n) h = refl
take_within [] (suc m) zero h = absurd (omega arith)
take_within [] (suc m) (suc n) h = refl
take_within (x ∷ xs) zero n h = refl
take_within (x ∷ xs) (suc m) zero h = absurd (omega arith)
take_within (x ∷ xs) (suc m) (suc n) h = ap (λ l. x ∷ l) (take_within xs m n (omega arith))

-- the first n less one
pub take_fewer : {A : Type 0} → (all xs : List A) (n m : ℕ) → xs ≡ take n all → m + 1 ≡ n → take (n - 1) xs ≡ take m all
take_fewer all xs n m is next = let e : n - 1 ≡ m = omega arith in ap (λ i. take i xs) e ∙ (ap (take m) is ∙ take_within all m n (omega arith))

pub drop_whole : {A : Type 0} → (xs : List A) (n : ℕ) → length xs ≡ n → drop n xs ≡ []
drop_whole [] zero h = refl
drop_whole [] (suc n) h = refl
drop_whole (x ∷ xs) zero h = absurd (omega arith)
drop_whole (x ∷ xs) (suc n) h = drop_whole xs n (omega arith)

pub take_whole : {A : Type 0} → (xs : List A) (n : ℕ) → length xs ≡ n → xs ≡ take n xs
take_whole [] zero h = refl
take_whole [] (suc n) h = refl
take_whole (x ∷ xs) zero h = absurd (omega arith)
take_whole (x ∷ xs) (suc n) h = ap (λ l. x ∷ l) (take_whole xs n (omega arith))

-- a slice of a whole Vec, written back
pub spliced : {A : Type 0} → (xs rest : List A) (n : ℕ) → length xs ≡ n → take n (xs ++ rest) ≡ xs
spliced xs rest n h = let le : n ≤ length xs = omega arith in rw take-append-le (sym (take_whole xs n h))

-- one place more of three lists that are in step, from their ends
pub one_more : {X Y Z : Type 0} → (P : X → Y → Z → Type 0) (xs : List X) (ys : List Y) (zs : List Z) (k n : ℕ) (x : X) (y : Y) (z : Z) → k + 1 ≡ n
    → drop k xs ≡ x ∷ drop n xs → drop k ys ≡ y ∷ drop n ys → drop k zs ≡ z ∷ drop n zs → P x y z → InStep P (drop n xs) (drop n ys) (drop n zs) → InStep P (drop k xs) (drop k ys) (drop k zs)
one_more {X} {Y} {Z} P xs ys zs k n x y z next a b c here before =
    subst (λ (t : List X × List Y × List Z). InStep P t.0 t.1 t.2) (λ i. (sym a i, sym b i, sym c i)) (here, before)

-- the same where the third list is built from its end
pub one_built : {X Y Z : Type 0} → (P : X → Y → Z → Type 0) (xs : List X) (ys : List Y) (out : List Z) (k n : ℕ) (x : X) (y : Y) (z : Z) → k + 1 ≡ n
    → drop k xs ≡ x ∷ drop n xs → drop k ys ≡ y ∷ drop n ys → P x y z → InStep P (drop n xs) (drop n ys) (reverse out) → InStep P (drop k xs) (drop k ys) (reverse (out ++ z ∷ []))
one_built {X} {Y} {Z} P xs ys out k n x y z next a b here before =
    let c : reverse (out ++ z ∷ []) ≡ z ∷ reverse out = reverse-append out (z ∷ []) in
    subst (λ (t : List X × List Y × List Z). InStep P t.0 t.1 t.2) (λ i. (sym a i, sym b i, sym c i)) (here, before)

pub rest_at : {X : Type 0} → (xs : List X) (k n : ℕ) (x : X) → k + 1 ≡ n → k < length xs → x ≡ get_or xs k x → drop k xs ≡ x ∷ drop n xs
rest_at xs k n x next inside at = drop_more xs k x inside ∙ λ i. sym at i ∷ drop (next i) xs

-- what is left of lists in step
pub none_left : {X Y Z : Type 0} → (P : X → Y → Z → Type 0) (xs : List X) (ys : List Y) (zs : List Z) (n : ℕ) → length xs ≡ n → length ys ≡ n → length zs ≡ n → InStep P (drop n xs) (drop n ys) (drop n zs)
none_left {X} {Y} {Z} P xs ys zs n a b c = subst (λ (t : List X × List Y × List Z). InStep P t.0 t.1 t.2) (λ i. (sym (drop_whole xs n a) i, sym (drop_whole ys n b) i, sym (drop_whole zs n c) i)) tt

-- one place more, which was put into the third list
pub one_put : {X Y Z : Type 0} → (P : X → Y → Z → Type 0) (xs : List X) (ys : List Y) (zs : List Z) (k n : ℕ) (x : X) (y : Y) (z : Z) → k + 1 ≡ n → k < length zs
    → drop k xs ≡ x ∷ drop n xs → drop k ys ≡ y ∷ drop n ys → P x y z → InStep P (drop n xs) (drop n ys) (drop n zs) → InStep P (drop k xs) (drop k ys) (drop k (set zs k z))
one_put {X} {Y} {Z} P xs ys zs k n x y z next inside a b here before =
    let c : drop k (set zs k z) ≡ z ∷ drop n zs = drop-set zs k z inside ∙ λ i. z ∷ drop (next i) zs in
    subst (λ (t : List X × List Y × List Z). InStep P t.0 t.1 t.2) (λ i. (sym a i, sym b i, sym c i)) (here, before)

-- what stands before a place that was put
pub take_put : {X : Type 0} → (xs old : List X) (k n : ℕ) (x : X) → k ≤ n → take n xs ≡ take n old → take k (set xs k x) ≡ take k old
take_put xs old k n x le same = take-set xs k x ∙ (sym (take_within xs k n le) ∙ (ap (take k) same ∙ take_within old k n le))
