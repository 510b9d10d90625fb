-- Statement: contracts of public calls use it.
-- Words of a line of a POSIX shell. Source: POSIX.1-2017, Shell Command Language, 2.2 Quoting and 2.3 Token Recognition.
use Rattle.std.specs.Prelude.{ℕ, ◌==◌, ◌&&◌, not, Bool, List, [], ◌∷◌, ◌++◌, Option, None, Some, codes, flat_map, length, if◌then◌else◌}
use Rattle.std.specs.List.{list_all}
use Rattle.std.specs.Option.{option_map}
use Rattle.common_types.specs.WordBytes.{is_word_byte}

-- where a line is being read: between words, in a word, behind a backslash of a word, or between single quotes
pub data Stage : Type 0 where
  Between : Stage
  Inside : Stage
  Escaped : Stage
  Quoted : Stage

-- a byte at the front of the first word
abbrev pub onto_word : ℕ → List (List ℕ) → List (List ℕ)
onto_word b [] = (b ∷ []) ∷ []
onto_word b (word ∷ words) = (b ∷ word) ∷ words

-- The words from here on. Outside of quotes a shell may act on any byte except a word byte, a blank, a single quote and a backslash: a
-- line with such a byte has no words here. A line has no byte 0, and a backslash before a line feed joins lines.
abbrev pub words_from : Stage → List ℕ → Option (List (List ℕ))
words_from Between [] = Some []
words_from Between (b ∷ bs) =
    if b == 32 then words_from Between bs
    else if b == 39 then words_from Quoted bs
    else if b == 92 then words_from Escaped bs
    else if is_word_byte b then option_map (onto_word b) (words_from Inside bs)
    else None
words_from Inside [] = Some ([] ∷ [])
words_from Inside (b ∷ bs) =
    if b == 32 then option_map (λ ws. [] ∷ ws) (words_from Between bs)
    else if b == 39 then words_from Quoted bs
    else if b == 92 then words_from Escaped bs
    else if is_word_byte b then option_map (onto_word b) (words_from Inside bs)
    else None
words_from Escaped [] = None
words_from Escaped (b ∷ bs) =
    if b == 0 then None
    else if b == 10 then None
    else option_map (onto_word b) (words_from Inside bs)
words_from Quoted [] = None
words_from Quoted (b ∷ bs) =
    if b == 39 then words_from Inside bs
    else if b == 0 then None
    else option_map (onto_word b) (words_from Quoted bs)

-- the words of a line that a shell splits and leaves as they are, or `None`
abbrev pub shell_words : List ℕ → Option (List (List ℕ))
shell_words line = words_from Between line

-- stands for itself
abbrev pub is_plain : List ℕ → Bool
is_plain text = not (length text == 0) && list_all is_word_byte text

-- a single quote between single quotes ends them, stands behind a backslash, and begins them again
abbrev pub marked : ℕ → List ℕ
marked byte = if byte == 39 then codes "'\\''" else byte ∷ []

abbrev pub quoted : List ℕ → List ℕ
quoted text = codes "'" ++ (flat_map marked text ++ codes "'")

-- a text as a word
abbrev pub shell_word : List ℕ → List ℕ
shell_word text = if is_plain text then text else quoted text

-- words, each behind a blank
abbrev pub more_words : List (List ℕ) → List ℕ
more_words words = flat_map (λ word. codes " " ++ shell_word word) words

-- texts as words, with a blank between each two
abbrev pub line_of : List (List ℕ) → List ℕ
line_of [] = []
line_of (word ∷ words) = shell_word word ++ more_words words
