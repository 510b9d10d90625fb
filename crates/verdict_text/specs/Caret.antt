-- Statement: contracts of public calls use it.
-- How the position of a fault is shown under its text (this project's profile). Every line ends with byte 10.
use Rattle.std.specs.Prelude.{ℕ, ◌&&◌, List, [], ◌∷◌, ◌++◌, codes, length, take, replicate, flat_map, nat_le, if◌then◌else◌}
use Rattle.common_types.specs.Escapes.{escape}

-- bytes 32 to 126 as they are; any other as \x and its two hexadecimal digits
abbrev pub shown_byte : ℕ → List ℕ
shown_byte b =
    if nat_le 32 b && nat_le b 126 then b ∷ [] else escape b

-- a text as it is shown
abbrev pub shown : List ℕ → List ℕ
shown text = flat_map shown_byte text

-- the text, and a caret below the byte at this position, or behind the text where none stands there
abbrev pub pointed_text : List ℕ → ℕ → List ℕ
pointed_text text position =
    shown text ++ (codes "\n" ++ (replicate (length (shown (take position text))) 32 ++ codes "^\n"))
