-- Statement: contracts of public calls use it.
-- Texts as the words of a shell (this project's profile; quotes as POSIX shells read them).
use Rattle.std.specs.Prelude.{ℕ, Bool, List, [], ◌∷◌, ◌++◌, ◌==◌, ◌&&◌, not, length, codes, if◌then◌else◌}
use Rattle.std.specs.List.{flat_map, list_all}
use Rattle.common_types.specs.WordBytes.{is_word_byte}

-- inside single quotes each byte stands for itself; a single quote ends them, stands behind a backslash, and begins them again
abbrev pub quoted_byte : ℕ → List ℕ
quoted_byte byte = if byte == 39 then codes "'\\''" else byte ∷ []

abbrev pub quoted : List ℕ → List ℕ
quoted text = codes "'" ++ (flat_map quoted_byte text ++ codes "'")

-- bare, where it has bytes and all are those of words; else in single quotes
abbrev pub shell_word : List ℕ → List ℕ
shell_word text = if not (length text == 0) && list_all is_word_byte text then text else quoted text

abbrev pub flag_words : Bool → List ℕ → List ℕ
flag_words set word = if set then word else []
