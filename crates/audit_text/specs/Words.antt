-- Statement: contracts of public calls use it.
-- The letters of a cell (this project's profile).
use Rattle.std.specs.Prelude.{ℕ, List, [], ◌∷◌, ◌++◌, Bool, true, false, codes, if◌then◌else◌}
use Rattle.audit_core.specs.declared.cell.Cell.{Cell}
use Rattle.audit_core.specs.declared.cell.Extent.{Extent}
use Rattle.audit_core.specs.declared.cell.Extent.TheVariants.{Nothing, Part, Whole}

abbrev pub is_whole : Extent → Bool
is_whole Nothing = false
is_whole Part = false
is_whole Whole = true

abbrev pub is_part : Extent → Bool
is_part Nothing = false
is_part Part = true
is_part Whole = false

-- a letter, where this holds
abbrev pub letter_if : Bool → ℕ → List ℕ
letter_if true byte = byte ∷ []
letter_if false byte = []

-- r, w, l and x where every request of the letter is allowed
abbrev pub whole_letters : Cell → List ℕ
whole_letters cell = letter_if (is_whole cell.read) 114 ++ (letter_if (is_whole cell.write) 119 ++ (letter_if (is_whole cell.list) 108 ++ letter_if (is_whole cell.call) 120))

-- and where some are, and others are not
abbrev pub part_letters : Cell → List ℕ
part_letters cell = letter_if (is_part cell.read) 114 ++ (letter_if (is_part cell.write) 119 ++ (letter_if (is_part cell.list) 108 ++ letter_if (is_part cell.call) 120))

abbrev pub bracketed : List ℕ → List ℕ
bracketed [] = []
bracketed (byte ∷ bytes) = codes "(" ++ ((byte ∷ bytes) ++ codes ")")

abbrev pub or_dash : List ℕ → List ℕ
or_dash [] = codes "-"
or_dash (byte ∷ bytes) = byte ∷ bytes

-- a star where every request is allowed, a dash where none is, else the letters, in brackets those of which some are
abbrev pub cell_word : Cell → List ℕ
cell_word cell = if is_whole cell.any then codes "*" else or_dash (whole_letters cell ++ bracketed (part_letters cell))
