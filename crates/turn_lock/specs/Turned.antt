-- Statement: contracts of public calls use it.
-- What a turn does, and what a lock holds at its end.
use Rattle.std.specs.Prelude.{◌≡◌, List, [], ◌∷◌, ◌++◌}
use Rattle.turn_lock.specs.declared.rule.Made.{Made}
use Rattle.turn_lock.specs.Seats.{Seated, HasAllNumbers}
use Rattle.turn_lock.specs.Turns.{StartsWith, made, made_by, state_after, HasMadeAll, EachFits}

module _ {S E : Type 0} (after : S → E → S) where
  -- The step finds the state after a list that begins with all that the seat had seen, and adds one entry, its own: `between` are the turns of others since.
  -- The seat has then seen the list up to that entry, and of its own entries the list has just those that it made, each once
  pub record Turned {A Step : Type 0} (entry : Step → S → A → E) (tells : Step → S → A → Type 0) (first : S) (step : Step) (answer : A) (old new : Seated E) : Type 0 where
    pub between : List (Made E)
    pub seen_is : new.seen ≡ (old.seen ++ between) ++ made old.number (entry step (state_after after first (old.seen ++ between)) answer) ∷ []
    pub mine_is : new.mine ≡ old.mine ++ entry step (state_after after first (old.seen ++ between)) answer ∷ []
    pub own : made_by old.number new.seen ≡ new.mine
    pub told : tells step (state_after after first (old.seen ++ between)) answer

module _ {S E : Type 0} (after : S → E → S) (fits : S → E → Type 0) where
  -- A lock that held this value at its end: it stands for the whole list, which begins with what the seat had seen, and of the seat's entries has just its own.
  -- Each entry is one of the state that it found. Where the seat has all numbers, the list has no entry but its own and those of the seats that were joined to it
  pub record Closes (first last : S) (seat : Seated E) : Type 0 where
    pub list : List (Made E)
    pub begins : StartsWith list seat.seen
    pub own : made_by seat.number list ≡ seat.mine
    pub others : HasAllNumbers seat → HasMadeAll list seat.number seat.joined
    pub fit : EachFits after fits first list
    pub stands : last ≡ state_after after first list
