-- Statement: contracts of public calls use it.
-- What clauses see of a lock and of a seat.
use Rattle.std.specs.Prelude.{◌≡◌, ℕ, ◌+◌, ◌-◌, ◌*◌, ◌/◌, List, [], ◌∷◌, ◌++◌, Option, All}
use Rattle.atomic_table.specs.Seated.{TableId}
use Rattle.atomic_table.specs.declared.shared.Seat.{Seat}
use Rattle.turn_lock.specs.declared.rule.Made.{Made}
use Rattle.turn_lock.specs.declared.rule.Joined.{Joined}
use Rattle.turn_lock.specs.declared.rule.View.{View}
use Rattle.turn_lock.specs.Turns.{made_by, last_word, with_leaver}

-- A lock: which one it is, and the state that its value began with
pub record Locked (S : Type 0) : Type 0 where
  pub table : TableId
  pub first : S

-- A seat: whose it is, its number, the beginning of the list of turns that it has seen, the entries that it made, how many
-- of the lock's numbers were given to it, those that were drawn counted, how many it may still draw, and the seats with a
-- share that were joined to it
pub record Seated (E : Type 0) : Type 0 where
  pub lock : TableId
  pub number : ℕ
  pub seen : List (Made E)
  pub mine : List E
  pub share : ℕ
  pub draws : ℕ
  pub joined : List (Joined E)

-- their fields as functions, for lists of locks and of seats
module _ {S : Type 0} where
  abbrev pub lock_of : Locked S → TableId
  lock_of l = l.table

  abbrev pub first_of : Locked S → S
  first_of l = l.first

module _ {E : Type 0} where
  abbrev pub seat_lock : Seated E → TableId
  seat_lock s = s.lock

  abbrev pub seat_number : Seated E → ℕ
  seat_number s = s.number

  abbrev pub seen_by : Seated E → List (Made E)
  seen_by s = s.seen

  abbrev pub mine_of : Seated E → List E
  mine_of s = s.mine

abbrev pub IsSeatOf : {S E : Type 0} → Locked S → Seated E → Type 0
IsSeatOf l s = s.lock ≡ l.table

-- the seat may draw every number that was given to it
abbrev pub HasDrawnNone : {E : Type 0} → Seated E → Type 0
HasDrawnNone s = s.draws ≡ s.share

-- a seat of the lock which has seen nothing, made nothing and drawn no number, and to which none was joined
abbrev pub IsFresh : {E : Type 0} → TableId → Seated E → Type 0
IsFresh table s = (s.lock ≡ table) × (s.seen ≡ []) × (s.mine ≡ []) × (s.joined ≡ []) × HasDrawnNone s

abbrev pub IsNewSeatOf : {S E : Type 0} → Locked S → Seated E → Type 0
IsNewSeatOf l s = IsFresh l.table s

module _ {E : Type 0} where
  abbrev pub IsSameSeat : Seated E → Seated E → Type 0
  IsSameSeat old new = (new.lock ≡ old.lock) × (new.number ≡ old.number)

  -- no number was given away or taken in
  abbrev pub HasSameShare : Seated E → Seated E → Type 0
  HasSameShare old new = (new.share ≡ old.share) × (new.joined ≡ old.joined)

  -- A new seat gets `part` of the numbers that a seat may still draw, and has drawn none. That seat keeps all others
  pub record GivesPart (part : ℕ) (old new given : Seated E) : Type 0 where
    pub draws : given.draws ≡ part
    pub share : given.share ≡ part
    pub kept_draws : new.draws + part ≡ old.draws
    pub kept_share : new.share + part ≡ old.share

  -- all numbers of the lock were given to this seat, or to those that were joined to it
  abbrev pub HasAllNumbers : Seated E → Type 0
  HasAllNumbers s = s.share ≡ last_word

  -- the numbers of a lock, shared evenly by `count` seats: the last one has what the others leave
  pub record AreShared (count : ℕ) (seats : List (Seated E)) : Type 0 where
    pub others : List (Seated E)
    pub last : Seated E
    pub are : seats ≡ others ++ last ∷ []
    pub even : All (λ s. s.share ≡ last_word / count) others
    pub rest : last.share ≡ last_word - (count - 1) * (last_word / count)

  -- the seats that were joined to one, after one more
  abbrev pub joined_after : Seated E → Seated E → List (Joined E)
  joined_after s other = with_leaver other.number s.joined other.share other.joined other.mine

  -- of the seat's own entries, what it has seen has just those that it made, each once
  abbrev pub HasItsOwn : Seated E → Type 0
  HasItsOwn s = made_by s.number s.seen ≡ s.mine

  abbrev pub seated : {T : Type 0} → Seat (Option T) (View E) → Seated E
  seated p = record { lock = p.table_id; number = p.id; seen = p.me.0.seen; mine = p.me.0.mine; share = p.me.0.share; draws = p.me.0.draws; joined = p.me.0.joined }
