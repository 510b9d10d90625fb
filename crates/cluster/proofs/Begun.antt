-- The seats of a cluster that is begun.
use Rattle.std.proofs.Common.{◌≡◌, ℕ, zero, suc, ◌+◌, List, [], ◌∷◌, ◌++◌, map, length, take, get_or, refl, sym, ap, ◌∙◌, subst, arith}
use Rattle.std.specs.Prelude.{All, Option, None, Some, IfSome}
use Rattle.std.specs.Option.{option_to_list}
use Rattle.std.proofs.lemmas.List.{take_more}
use Rattle.std.proofs.lemmas.List.Elements.{All-head, All-tail, All-cons, All-nil}
use Rattle.turn_lock.specs.Turns.{made_by}
use Rattle.turn_lock.specs.Seats.{Locked, Seated, lock_of, seat_lock, IsFresh, IsNewSeatOf, HasDrawnNone, HasItsOwn}
use Rattle.cluster_locks.specs.Places.{InStep, Beside, IsFreshRow, share_of}
use Rattle.cluster_locks.specs.Shares.{times}
use Rattle.cluster.specs.Passes.{AreFreshOf, AreSeatsOf, HaveShare, HaveDrawnNone, AreAlone}
use Rattle.cluster_locks.specs.declared.groups.GroupEntry.{GroupEntry}
use Rattle.cluster_locks.specs.declared.users.UserEntry.{UserEntry}
use Rattle.cluster.specs.declared.cluster.Cluster.{Cluster}
use Rattle.cluster.specs.declared.cluster.Seats.{Seats}
use Rattle.cluster_locks.proofs.Places.{take_whole}

-- ---- the last, and those before it

pub last_of : {X : Type 0} → (P : ℕ → X → Type 0) (n a b : ℕ) (xs : List X) (x : X) → Beside P (times n a ++ b ∷ []) (xs ++ x ∷ []) → P b x × All (P a) xs
last_of P zero a b [] x h = (h.0, All-nil (P a))
last_of P zero a b (y ∷ []) x h = absurd h.1
last_of P zero a b (y ∷ z ∷ ys) x h = absurd h.1
last_of P (suc n) a b [] x h = absurd (none n h.1)
  where
    none : (n : ℕ) → Beside P (times n a ++ b ∷ []) [] → ⊥
    none zero h = h
    none (suc n) h = h
last_of P (suc n) a b (y ∷ ys) x h = let r = last_of P n a b ys x h.1 in (r.0, All-cons (P a) y ys h.0 r.1)

-- ---- a row and a seat of the users each

module _ {V : Type 0} (row_of : V → List (Seated GroupEntry)) (c : Cluster) where
  pub pairs_fresh : (shares : List ℕ) (rows : List V) (users : List (Seated UserEntry)) (all : List Seats) → Beside (λ share row. IsFreshRow share c.groups.items (row_of row)) shares rows → All (IsNewSeatOf c.users) users
      → map share_of users ≡ shares → InStep (λ row seat s. (s.groups.items ≡ row_of row) × (s.users ≡ seat)) rows users all → Beside (AreFreshOf c) shares all
  pairs_fresh [] [] [] [] h new are made = tt
  pairs_fresh [] [] [] (n ∷ ns) h new are made = absurd made
  pairs_fresh [] [] (s ∷ ss) ns h new are made = absurd (cc)
  pairs_fresh [] (r ∷ rs) ss ns h new are made = absurd h
  pairs_fresh (x ∷ xs) [] ss ns h new are made = absurd h
  pairs_fresh (x ∷ xs) (r ∷ rs) [] ns h new are made = absurd (cc)
  pairs_fresh (x ∷ xs) (r ∷ rs) (s ∷ ss) [] h new are made = absurd made
  pairs_fresh (x ∷ xs) (r ∷ rs) (s ∷ ss) (n ∷ ns) h new are made =
      let first : s.share ≡ x = cc in
      let rest : map share_of ss ≡ xs = cc in
      let is = made.0 in
      let fresh : IsFresh c.users.table s = All-head (IsNewSeatOf c.users) s ss new in
      ((subst (IsFreshRow x c.groups.items) (sym is.0) h.0, subst (IsFresh c.users.table) (sym is.1) fresh, ap share_of is.1 ∙ first), pairs_fresh xs rs ss ns h.1 (All-tail (IsNewSeatOf c.users) s ss new) rest made.1)

-- a list whose last element was taken off
pub last_off : {X : Type 0} → (xs : List X) (k : ℕ) (x : X) → length xs ≡ k + 1 → x ≡ get_or xs k x → xs ≡ take k xs ++ x ∷ []
last_off xs k x long at = take_whole xs (k + 1) long ∙ (take_more xs k x (omega arith) ∙ λ i. take k xs ++ sym at i ∷ [])

-- ---- fresh seats are seats of the locks

fresh_locks : {S E : Type 0} → (share : ℕ) (ls : List (Locked S)) (ss : List (Seated E)) → IsFreshRow share ls ss → map seat_lock ss ≡ map lock_of ls
fresh_locks share [] [] h = refl
fresh_locks share [] (s ∷ ss) h = absurd h
fresh_locks share (l ∷ ls) [] h = absurd h
fresh_locks share (l ∷ ls) (s ∷ ss) h = (λ i. h.0.0 i ∷ fresh_locks share ls ss h.2 i)

fresh_shares : {S E : Type 0} → (share : ℕ) (ls : List (Locked S)) (ss : List (Seated E)) → IsFreshRow share ls ss → All (λ s. s.share ≡ share) ss × All (λ s. s.joined ≡ []) ss
fresh_shares share [] [] h = (All-nil (λ s. s.share ≡ share), All-nil (λ s. s.joined ≡ []))
fresh_shares share [] (s ∷ ss) h = absurd h
fresh_shares share (l ∷ ls) [] h = absurd h
fresh_shares share (l ∷ ls) (s ∷ ss) h = let r = fresh_shares share ls ss h.2 in (All-cons (λ x. x.share ≡ share) s ss h.1 r.0, All-cons (λ x. x.joined ≡ []) s ss h.0.3 r.1)

-- and have made nothing
pub row_own : {S E : Type 0} → (share : ℕ) (ls : List (Locked S)) (ss : List (Seated E)) → IsFreshRow share ls ss → All (HasItsOwn {E = E}) ss
row_own share [] [] h = All-nil HasItsOwn
row_own share [] (s ∷ ss) h = absurd h
row_own share (l ∷ ls) [] h = absurd h
row_own share (l ∷ ls) (s ∷ ss) h = All-cons HasItsOwn s ss (ap (made_by s.number) h.0.1 ∙ sym h.0.2) (row_own share ls ss h.2)

pub fresh_are : (c : Cluster) (share : ℕ) (p : Seats) → AreFreshOf c share p → AreSeatsOf c p × HaveShare share p × AreAlone p
fresh_are c share p h = let r = fresh_shares share c.groups.items p.groups.items h.0 in
    ((fresh_locks share c.groups.items p.groups.items h.0, h.1.0), (r.0, h.2), (r.1, h.1.3))

fresh_undrawn : {S E : Type 0} → (share : ℕ) (ls : List (Locked S)) (ss : List (Seated E)) → IsFreshRow share ls ss → All (HasDrawnNone {E = E}) ss
fresh_undrawn share [] [] h = All-nil HasDrawnNone
fresh_undrawn share [] (s ∷ ss) h = absurd h
fresh_undrawn share (l ∷ ls) [] h = absurd h
fresh_undrawn share (l ∷ ls) (s ∷ ss) h = All-cons HasDrawnNone s ss h.0.4 (fresh_undrawn share ls ss h.2)

-- and have drawn no number
pub fresh_numbers : (c : Cluster) (share : ℕ) (p : Seats) → AreFreshOf c share p → HaveDrawnNone p
fresh_numbers c share p h = (fresh_undrawn share c.groups.items p.groups.items h.0, h.1.4)

pub all_are : {X : Type 0} → (P Q : X → Type 0) (xs : List X) → ((x : X) → P x → Q x) → All P xs → All Q xs
all_are P Q [] f h = All-nil Q
all_are P Q (x ∷ xs) f h = All-cons Q x xs (f x (All-head P x xs h)) (all_are P Q xs f (All-tail P x xs h))

-- ---- what holds of all holds of some

pub all_front : {X : Type 0} → (P : X → Type 0) (xs ys : List X) → All P (xs ++ ys) → All P xs
all_front P [] ys h = All-nil P
all_front P (x ∷ xs) ys h = All-cons P x xs (All-head P x (xs ++ ys) h) (all_front P xs ys (All-tail P x (xs ++ ys) h))

pub all_back : {X : Type 0} → (P : X → Type 0) (xs ys : List X) → All P (xs ++ ys) → All P ys
all_back P [] ys h = h
all_back P (x ∷ xs) ys h = all_back P xs ys (All-tail P x (xs ++ ys) h)

pub all_in : {X : Type 0} → (P : X → Type 0) (o : Option X) → All P (option_to_list o) → IfSome o P
all_in P None h = tt
all_in P (Some x) h = All-head P x [] h
