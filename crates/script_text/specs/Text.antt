-- Statement: contracts of public calls use it.
-- The printed texts of a script: this project's profile.
use Prim.Native.Nat.{zero, suc}
use Rattle.std.specs.Prelude.{ℕ, ◌+◌, ◌/◌, ◌%◌, List, [], ◌∷◌, ◌++◌, Bool, ◌||◌, ◌&&◌, not, if◌then◌else◌, ◌==◌, nat_lt, codes}
use Rattle.std.specs.List.{flat_map}
use Rattle.common_types.specs.Escapes.{escape}
use Rattle.script_text.specs.Words.{is_printable}

-- each line ends with byte 10
abbrev pub line : List ℕ → List ℕ
line text = text ++ 10 ∷ []

-- a line for each item
abbrev pub item : List ℕ → List ℕ
item text = line (codes "- " ++ text)

-- printable, and neither a double quote nor a backslash
abbrev pub stands_for_itself : ℕ → Bool
stands_for_itself b = is_printable b && not (b == 34 || b == 92)

-- a byte between double quotes: itself, or \x and two hexadecimal digits
abbrev pub glyph : ℕ → List ℕ
glyph b = if stands_for_itself b then b ∷ [] else escape b

abbrev pub quoted : List ℕ → List ℕ
quoted text = 34 ∷ (flat_map glyph text ++ 34 ∷ [])

-- a number in decimal digits, at most as many as the first argument
abbrev pub numeral_within : ℕ → ℕ → List ℕ
numeral_within zero n = []
numeral_within (suc most) n = if nat_lt n 10 then (48 + n) ∷ [] else numeral_within most (n / 10) ++ (48 + n % 10) ∷ []

-- a number in decimal digits, however many it has: never more than the number and one
abbrev pub numeral : ℕ → List ℕ
numeral n = numeral_within (suc n) n
