-- Statement: contracts of public calls use it.
-- Lists of turns.
use Rattle.std.specs.Prelude.{◌≡◌, ◌≢◌, ℕ, ◌⊎◌, ◌==◌, if◌then◌else◌, nat_le, List, [], ◌∷◌, ◌++◌, map, fold, length}
use Rattle.turn_lock.specs.declared.rule.Made.{Made}
use Rattle.turn_lock.specs.declared.rule.Joined.{Joined}

-- the list begins with what was seen
abbrev pub StartsWith : {X : Type 0} → List X → List X → Type 0
StartsWith {X} list seen = (rest : List X) × (list ≡ seen ++ rest)

-- how many numbers a lock has: the last number that a word holds, which is never drawn
abbrev pub last_word : ℕ
last_word = 18446744073709551615

-- of two beginnings of one list the longer one
abbrev pub longer : {X : Type 0} → List X → List X → List X
longer xs ys = if nat_le (length ys) (length xs) then xs else ys

module _ {E : Type 0} where
  abbrev pub made : ℕ → E → Made E
  made by entry = record { by = by; entry = entry }

  abbrev pub entries : List (Made E) → List E
  entries list = map (λ (m : Made E). m.entry) list

  -- the entries of one seat
  abbrev pub made_by : ℕ → List (Made E) → List E
  made_by by [] = []
  made_by by (m ∷ ms) = if m.by == by then m.entry ∷ made_by by ms else made_by by ms

  abbrev pub leaver : ℕ → List E → Joined E
  leaver by entries = record { by = by; entries = entries }

  -- the seats that were joined to one, after one more, with its share and its entries. One without a share made nothing, and is left out
  abbrev pub with_leaver : ℕ → List (Joined E) → ℕ → List (Joined E) → List E → List (Joined E)
  with_leaver by before share joined mine = if share == 0 then before else before ++ (joined ++ leaver by mine ∷ [])

  abbrev pub Has : ℕ → List (Joined E) → Type 0
  Has by [] = ⊥
  Has by (x ∷ xs) = (x.by ≡ by) ⊎ Has by xs

  -- what the seat of this number made, and nothing where it is not among these
  abbrev pub entries_by : ℕ → List (Joined E) → List E
  entries_by by [] = []
  entries_by by (x ∷ xs) = if x.by == by then x.entries else entries_by by xs

  -- every entry is the seat's own, or of one of those that were joined to it, each with just its entries
  abbrev pub HasMadeAll : List (Made E) → ℕ → List (Joined E) → Type 0
  HasMadeAll list own joined = (by : ℕ) → by ≢ own → made_by by list ≡ entries_by by joined

-- the state that the entries of these turns lead to, one after another
abbrev pub state_after : {S E : Type 0} → (S → E → S) → S → List (Made E) → S
state_after after first list = fold after first (entries list)

-- each entry is one of the state that it found
abbrev pub EachFits : {S E : Type 0} → (S → E → S) → (S → E → Type 0) → S → List (Made E) → Type 0
EachFits {S} {E} after fits first list = (before rest : List (Made E)) (m : Made E) → list ≡ before ++ m ∷ rest → fits (state_after after first before) m.entry
