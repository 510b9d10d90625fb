-- Seats of locks that were just opened, in rows, and the shares that they have.
use Rattle.std.proofs.Common.{◌≡◌, ℕ, zero, suc, ◌+◌, ◌-◌, ◌*◌, List, [], ◌∷◌, ◌++◌, map, length, refl, sym, ap, ◌∙◌, subst, arith}
use Rattle.std.specs.Prelude.{All}
use Rattle.std.proofs.lemmas.List.{map-append, length-append}
use Rattle.std.proofs.lemmas.List.Elements.{All-head, All-tail}
use Rattle.turn_lock.specs.Turns.{last_word}
use Rattle.turn_lock.specs.Seats.{Locked, Seated, IsFresh, IsNewSeatOf, AreShared}
use Rattle.cluster_locks.specs.Places.{InStep, Beside, IsFreshRow, share_of}
use Rattle.cluster_locks.specs.Shares.{times, pass_share, monitor_share, shares_of}

-- ---- shares

evens : {E : Type 0} → (share : ℕ) (seats : List (Seated E)) → All (λ s. s.share ≡ share) seats → map share_of seats ≡ times (length seats) share
evens share [] h = refl
evens share (s ∷ ss) h = (λ i. All-head (λ x. x.share ≡ share) s ss h i ∷ evens share ss (All-tail (λ x. x.share ≡ share) s ss h) i)

pub shares_are : {E : Type 0} → (passes : ℕ) (seats : List (Seated E)) → AreShared (passes + 1) seats → length seats ≡ passes + 1 → map share_of seats ≡ shares_of passes
shares_are passes seats h long =
    let count : length h.others ≡ passes = let e = sym (ap length h.are) ∙ long in let f = length-append h.others (h.last ∷ []) in omega arith in
    let all : map share_of h.others ≡ times passes (pass_share passes) = evens (pass_share passes) h.others h.even ∙ ap (λ n. times n (pass_share passes)) count in
    let less : (passes + 1) - 1 ≡ passes = omega arith in
    let last : h.last.share ≡ monitor_share passes = h.rest ∙ ap (λ n. last_word - n * pass_share passes) less in
    ap (map share_of) h.are ∙ (map-append share_of h.others (h.last ∷ []) ∙ (λ i. all i ++ last i ∷ []))

times_long : (n x : ℕ) → length (times n x) ≡ n
times_long zero x = refl
times_long (suc n) x = ap suc (times_long n x)

pub shares_long : (passes : ℕ) → length (shares_of passes) ≡ passes + 1
shares_long passes = length-append (times passes (pass_share passes)) (monitor_share passes ∷ []) ∙ ap (λ n. n + 1) (times_long passes (pass_share passes))

-- ---- rows

pub row_longer : {S E : Type 0} → (share : ℕ) (ls : List (Locked S)) (ss : List (Seated E)) (l : Locked S) (s : Seated E) → IsFreshRow share ls ss → IsFresh l.table s → s.share ≡ share → IsFreshRow share (ls ++ l ∷ []) (ss ++ s ∷ [])
row_longer share [] [] l s h fresh is = (fresh, is, tt)
row_longer share [] (x ∷ xs) l s h fresh is = absurd h
row_longer share (l' ∷ ls) [] l s h fresh is = absurd h
row_longer share (l' ∷ ls) (x ∷ xs) l s h fresh is = (h.0, h.1, row_longer share ls xs l s h.2 fresh is)

module _ {S E V : Type 0} (row_of : V → List (Seated E)) (ls : List (Locked S)) (l : Locked S) where
  -- each row has a seat of one lock more
  pub rows_longer : (shares : List ℕ) (rows : List V) (seats : List (Seated E)) (longer : List V) → Beside (λ share row. IsFreshRow share ls (row_of row)) shares rows → All (IsNewSeatOf l) seats → map share_of seats ≡ shares
      → InStep (λ row seat next. row_of next ≡ row_of row ++ seat ∷ []) rows seats longer → Beside (λ share row. IsFreshRow share (ls ++ l ∷ []) (row_of row)) shares longer
  rows_longer [] [] [] [] h new are dealt = tt
  rows_longer [] [] [] (n ∷ ns) h new are dealt = absurd dealt
  rows_longer [] [] (s ∷ ss) ns h new are dealt = absurd (cc)
  rows_longer [] (r ∷ rs) ss ns h new are dealt = absurd h
  rows_longer (x ∷ xs) [] ss ns h new are dealt = absurd h
  rows_longer (x ∷ xs) (r ∷ rs) [] ns h new are dealt = absurd (cc)
  rows_longer (x ∷ xs) (r ∷ rs) (s ∷ ss) [] h new are dealt = absurd dealt
  rows_longer (x ∷ xs) (r ∷ rs) (s ∷ ss) (n ∷ ns) h new are dealt =
      let first : s.share ≡ x = cc in
      let rest : map share_of ss ≡ xs = cc in
      (subst (IsFreshRow x (ls ++ l ∷ [])) (sym dealt.0) (row_longer x ls (row_of r) l s h.0 (All-head (IsNewSeatOf l) s ss new) first), rows_longer xs rs ss ns h.1 (All-tail (IsNewSeatOf l) s ss new) rest dealt.1)

-- rows without a seat
pub rows_empty : (S : Type 0) {E V : Type 0} → (row_of : V → List (Seated E)) (shares : List ℕ) (rows : List V) → length rows ≡ length shares → All (λ row. row_of row ≡ []) rows → Beside (λ share row. IsFreshRow {S = S} share [] (row_of row)) shares rows
rows_empty S row_of [] [] long h = tt
rows_empty S row_of [] (r ∷ rs) long h = absurd (omega arith)
rows_empty S row_of (x ∷ xs) [] long h = absurd (omega arith)
rows_empty S row_of (x ∷ xs) (r ∷ rs) long h = (subst (IsFreshRow {S = S} x []) (sym (All-head (λ row. row_of row ≡ []) r rs h)) tt, rows_empty S row_of xs rs (omega arith) (All-tail (λ row. row_of row ≡ []) r rs h))

-- ---- lists place by place

pub beside_long : {X Y : Type 0} → (P : X → Y → Type 0) (xs : List X) (ys : List Y) → Beside P xs ys → length ys ≡ length xs
beside_long P [] [] h = refl
beside_long P [] (y ∷ ys) h = absurd h
beside_long P (x ∷ xs) [] h = absurd h
beside_long P (x ∷ xs) (y ∷ ys) h = ap suc (beside_long P xs ys h.1)

pub in_step_long : {X Y Z : Type 0} → (P : X → Y → Z → Type 0) (xs : List X) (ys : List Y) (zs : List Z) → InStep P xs ys zs → (length ys ≡ length xs) × (length zs ≡ length xs)
in_step_long P [] [] [] h = (refl, refl)
in_step_long P [] [] (z ∷ zs) h = absurd h
in_step_long P [] (y ∷ ys) zs h = absurd h
in_step_long P (x ∷ xs) [] zs h = absurd h
in_step_long P (x ∷ xs) (y ∷ ys) [] h = absurd h
in_step_long P (x ∷ xs) (y ∷ ys) (z ∷ zs) h = let r = in_step_long P xs ys zs h.1 in (ap suc r.0, ap suc r.1)
