-- Refinement: only contracts inside the crate use it.
-- The rule of the lock, which holds between any two of its atomic steps, and what each step tells the seat that makes it.
use Rattle.std.specs.Prelude.{◌≡◌, ◌≢◌, ℕ, ◌+◌, ◌-◌, ◌<◌, ◌≤◌, Bool, true, false, ◌⊎◌, List, [], ◌∷◌, ◌++◌, length, slice_index, Option, Some, min}
use mathlib.Core.Option.{some}
use mathlib.Core.Option as maybe
use lib.ListN.{get_elem?}
use Rattle.atomic_table.specs.Table.{State, Me, Step}
use Rattle.turn_lock.specs.declared.rule.Made.{Made}
use Rattle.turn_lock.specs.declared.rule.Joined.{Joined}
use Rattle.turn_lock.specs.declared.rule.View.{View}
use Rattle.turn_lock.specs.declared.rule.Stage.{Stage}
use Rattle.turn_lock.specs.declared.rule.Stage.TheVariants.{Spent, Away, Waiting, Turn}
use Rattle.turn_lock.specs.Turns.{StartsWith, longer, made, made_by, state_after, last_word, EachFits, Has, with_leaver, HasMadeAll}

-- one number is drawn and not yet called, or none
abbrev pub pending : Stage → ℕ
pending Spent = 0
pending Away = 0
pending (Waiting t) = 1
pending (Turn t) = 1

module _ {E : Type 0} where
  -- what all seats have together
  abbrev pub total : (View E → ℕ) → List (View E) → ℕ
  total of [] = 0
  total of (v ∷ vs) = of v + total of vs

  -- how many numbers all seats together may still draw
  abbrev pub total_draws : List (View E) → ℕ
  total_draws views = total (λ v. v.draws) views

  abbrev pub total_share : List (View E) → ℕ
  total_share views = total (λ v. v.share) views

  abbrev pub entry_count : List (Joined E) → ℕ
  entry_count [] = 0
  entry_count (x ∷ xs) = length x.entries + entry_count xs

  -- what the seat may draw, and what it made with those that were joined to it, lies within its share
  abbrev pub IsWithinShare : View E → Type 0
  IsWithinShare v = v.draws + (pending v.stage + (length v.mine + entry_count v.joined)) ≤ v.share

  abbrev pub IsSpent : List (View E) → ℕ → Type 0
  IsSpent views j = (v : View E) × (get_elem? views j ≡ some v) × (v.stage ≡ Spent)

  -- each of these seats is no more, and made just these entries
  abbrev pub AreJoined : List (Made E) → List (View E) → List (Joined E) → Type 0
  AreJoined log views [] = Unit {0}
  AreJoined log views (x ∷ xs) = (made_by x.by log ≡ x.entries) × IsSpent views x.by × AreJoined log views xs

  -- a seat that is no more made nothing, or one that still is tells of it
  abbrev pub IsToldOf : List (Made E) → List (View E) → ℕ → Type 0
  IsToldOf log views j = (made_by j log ≡ []) ⊎ ((k : ℕ) × (w : View E) × (get_elem? views k ≡ some w) × (w.stage ≢ Spent) × Has j w.joined)

  abbrev pub Shares : List (Made E) → List (View E) → ℕ → View E → Type 0
  Shares log views j v = IsWithinShare v × AreJoined log views v.joined × (v.stage ≡ Spent → IsToldOf log views j)

  -- the list begins with what the seat has seen or was told, and of the seat's entries it has just those that it made
  abbrev pub HasSeen : List (Made E) → ℕ → View E → Type 0
  HasSeen log seat v = StartsWith log v.seen × StartsWith log v.told × (made_by seat log ≡ v.mine)

  -- What a seat knows in each stage. One that was joined to another knows nothing any more. One that waits has a ticket of its own that was not served yet.
  -- One whose turn it is has seen the whole list, and has the value
  module _ (log : List (Made E)) (owner : ℕ → ℕ) (busy : Bool) (serving next : ℕ) (seat : ℕ) (v : View E) where
    abbrev pub Knows : Stage → Type 0
    Knows Spent = Unit {0}
    Knows Away = HasSeen log seat v
    Knows (Waiting t) = HasSeen log seat v × (serving ≤ t) × (t < next) × (owner t ≡ seat) × (t ≡ serving → busy ≡ false)
    Knows (Turn t) = HasSeen log seat v × (log ≡ v.seen) × (t ≡ serving) × (t < next) × (owner t ≡ seat) × (busy ≡ true)

module _ {T S E : Type 0} (state : T → S) (after : S → E → S) (fits : S → E → Type 0) (first : S) where
  -- `log` is the list of all turns, `owner` the seat that drew each ticket, and `busy` says that the value is out.
  -- At home the value stands for the list
  pub record Turning (serving next : ℕ) (homes : List (maybe.Option (Option T))) (views : List (View E)) : Type 0 where
    pub log : List (Made E)
    pub owner : ℕ → ℕ
    pub busy : Bool
    pub room : total_draws views + next ≤ last_word
    pub order : serving ≤ next
    pub within : busy ≡ true → serving < next
    pub home : busy ≡ false → (x : T) × (get_elem? homes 0 ≡ some (some (Some x))) × (state x ≡ state_after after first log)
    pub each_seat : (j : ℕ) (v : View E) → get_elem? views j ≡ some v → Knows log owner busy serving next j v v.stage
    pub strangers : (j : ℕ) → length views ≤ j → made_by j log ≡ []
    pub fit : EachFits after fits first log
    pub whole : total_share views ≡ last_word
    pub shares : (j : ℕ) (v : View E) → get_elem? views j ≡ some v → Shares log views j v

  abbrev pub Ruled : State (Option T) (View E) → Type 0
  Ruled s = (length s.words ≡ 2) × Turning (slice_index s.words 0) (slice_index s.words 1) s.homes s.views

module _ {E : Type 0} where
  abbrev pub first_view : View E
  first_view = record { seen = []; told = []; mine = []; draws = last_word; share = last_word; joined = []; stage = Away }

  -- `part` of the numbers that a seat may draw go to a new seat, which has seen what that one has
  abbrev pub kept_view : ℕ → View E → View E
  kept_view part v = record v { draws = v.draws - part; share = v.share - part }

  abbrev pub given_view : ℕ → View E → View E
  given_view part v = record { seen = v.seen; told = []; mine = []; draws = part; share = part; joined = []; stage = Away }

  abbrev pub joined_view : ℕ → View E → View E → View E
  joined_view by v w = record v { told = w.seen; draws = min (v.draws + w.draws) last_word; share = v.share + w.share; joined = with_leaver by v.joined w.share w.joined w.mine }

  abbrev pub spent_view : View E
  spent_view = record { seen = []; told = []; mine = []; draws = 0; share = 0; joined = []; stage = Spent }

  abbrev pub settled_view : View E → View E
  settled_view v = record v { seen = longer v.seen v.told; told = [] }

abbrev Sat : Type 0 → Type 0 → Type 0
Sat T E = Me (Option T) (View E)

module _ {T E : Type 0} where
  -- the seat has drawn the number found, and waits
  abbrev pub drew : Step (Option T) → Sat T E → ℕ → Sat T E → Type 0
  drew st m n m' = m' ≡ (record m.0 { draws = m.0.draws - 1; stage = Waiting n }, m.1)

  -- the seat's one entry stands at the end of the list, and it has nothing any more
  abbrev pub called : ℕ → List E → Step (Option T) → Sat T E → ℕ → Sat T E → Type 0
  called by adds st m n m' = (e : E) → adds ≡ e ∷ [] → (m' ≡ (record m.0 { seen = m.0.seen ++ made by e ∷ []; mine = m.0.mine ++ e ∷ []; stage = Away }, [])) × (made_by by m'.0.seen ≡ m'.0.mine)

  -- of what it has seen and what it was told the seat keeps the longer, which begins with both, and in which it has made no entry but its own
  abbrev pub settled : ℕ → Step (Option T) → Sat T E → ℕ → Sat T E → Type 0
  settled by st m n m' = (m' ≡ (settled_view m.0, m.1)) × StartsWith m'.0.seen m.0.seen × StartsWith m'.0.seen m.0.told × StartsWith m'.0.mine (made_by by m'.0.seen)

  module _ {S : Type 0} (state : T → S) (after : S → E → S) (fits : S → E → Type 0) (firsts : List S) (by : ℕ) where
    -- the turn has come: the seat has the value, which stands for the list that the seat has now seen
    pub record Found (t : ℕ) (m m' : Sat T E) : Type 0 where
      pub value : T
      pub log : List (Made E)
      pub begins : StartsWith log m.0.seen
      pub own : made_by by log ≡ m.0.mine
      pub others : m.0.share ≡ last_word → HasMadeAll log by m.0.joined
      pub seat : m' ≡ (record m.0 { seen = log; stage = Turn t }, (0, Some value) ∷ [])
      pub fit : (f : S) → firsts ≡ f ∷ [] → EachFits after fits f log
      pub stands : (f : S) → firsts ≡ f ∷ [] → state value ≡ state_after after f log

    -- it is the seat's turn exactly where the number found is its ticket
    abbrev pub looked : ℕ → Step (Option T) → Sat T E → ℕ → Sat T E → Type 0
    looked ticket st m n m' = (n ≡ ticket → Found ticket m m') × (n ≢ ticket → m' ≡ m)
