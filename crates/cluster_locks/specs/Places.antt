-- Statement: contracts of public calls use it.
-- A turn on one of a list of locks, each of which a seat of a list is of; what a list of seats takes in; and the end of such a list of locks.
use Rattle.std.specs.Prelude.{◌≡◌, ℕ, ◌+◌, List, [], ◌∷◌, Some, slice_get, slice_set}
use Rattle.turn_lock.specs.Seats.{Locked, Seated, IsFresh, IsSameSeat, HasSameShare, HasItsOwn, joined_after}
use Rattle.turn_lock.specs.Turns.{StartsWith}
use Rattle.turn_lock.specs.Turned.{Turned, Closes}

-- three lists of one length, and what holds of them place by place
abbrev pub InStep : {X Y Z : Type 0} → (X → Y → Z → Type 0) → List X → List Y → List Z → Type 0
InStep P [] [] [] = Unit {0}
InStep P (x ∷ xs) (y ∷ ys) (z ∷ zs) = P x y z × InStep P xs ys zs
InStep P _ _ _ = ⊥

-- two lists of one length, in the same way
abbrev pub Beside : {X Y : Type 0} → (X → Y → Type 0) → List X → List Y → Type 0
Beside P [] [] = Unit {0}
Beside P (x ∷ xs) (y ∷ ys) = P x y × Beside P xs ys
Beside P _ _ = ⊥

module _ {S E : Type 0} (next : S → E → S) where
  -- one turn of the seat k on the lock k; the other seats stay
  pub record TurnsAt {A Step : Type 0} (entry : Step → S → A → E) (tells : Step → S → A → Type 0) (locks : List (Locked S)) (k : ℕ) (step : Step) (answer : A) (old new : List (Seated E)) : Type 0 where
    pub lock : Locked S
    pub before : Seated E
    pub after : Seated E
    pub locked : slice_get locks k ≡ Some lock
    pub found : slice_get old k ≡ Some before
    pub stays : new ≡ slice_set old k after
    pub same : IsSameSeat before after
    pub share : HasSameShare before after
    pub turned : Turned next entry tells lock.first step answer before after

  -- each lock was closed by its seat, with these values
  abbrev pub ClosedAll : (S → E → Type 0) → {T : Type 0} → (T → S) → List (Locked S) → List (Seated E) → List T → Type 0
  ClosedAll fits state locks seats values = InStep (λ l s x. Closes next fits l.first (state x) s) locks seats values

module _ {E : Type 0} where
  abbrev pub share_of : Seated E → ℕ
  share_of s = s.share

  -- one seat takes in what another of its lock has seen, and its numbers
  pub record TakesIn (old other new : Seated E) : Type 0 where
    pub same : IsSameSeat old new
    pub own : new.mine ≡ old.mine
    pub before : StartsWith new.seen old.seen
    pub heard : StartsWith new.seen other.seen
    pub share : new.share ≡ old.share + other.share
    pub joined : new.joined ≡ joined_after old other
    pub made : HasItsOwn new

-- seats of these locks, which have seen nothing, each with this share of the numbers of its lock
abbrev pub IsFreshRow : {S E : Type 0} → ℕ → List (Locked S) → List (Seated E) → Type 0
IsFreshRow share [] [] = Unit {0}
IsFreshRow share (l ∷ ls) (s ∷ ss) = IsFresh l.table s × (s.share ≡ share) × IsFreshRow share ls ss
IsFreshRow share _ _ = ⊥
