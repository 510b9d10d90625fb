-- Statement: contracts of public calls use it.
-- The lines of a script: this project's profile.
use Rattle.std.specs.Prelude.{ℕ, List, [], ◌∷◌, Bool, true, map, if◌then◌else◌, ◌==◌}

-- a byte at the front of the first line
abbrev pub onto_first : ℕ → List (List ℕ) → List (List ℕ)
onto_first b [] = (b ∷ []) ∷ []
onto_first b (line ∷ lines) = (b ∷ line) ∷ lines

-- a line ends at byte 10 or at the end
abbrev pub lines_of : List ℕ → List (List ℕ)
lines_of [] = []
lines_of (b ∷ bs) = if b == 10 then [] ∷ lines_of bs else onto_first b (lines_of bs)

-- without one byte 13 at the end
abbrev pub trimmed : List ℕ → List ℕ
trimmed [] = []
trimmed (b ∷ []) = if b == 13 then [] else b ∷ []
trimmed (b ∷ c ∷ bs) = b ∷ trimmed (c ∷ bs)

-- the lines of a script, without their ends
abbrev pub script_lines : List ℕ → List (List ℕ)
script_lines text = map trimmed (lines_of text)

-- an empty line, or a note
abbrev pub is_blank : List ℕ → Bool
is_blank [] = true
is_blank (b ∷ bs) = b == 35

-- the lines that are left, and how many were taken before them
pub record LinesLeft : Type 0 where
  pub taken : ℕ
  pub lines : List (List ℕ)
