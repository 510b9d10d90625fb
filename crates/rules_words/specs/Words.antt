-- Statement: contracts of public calls use it.
-- The words of a line of a file of rules (this project's profile). Positions count from 0.
use Rattle.std.specs.Prelude.{ℕ, ◌≡◌, ◌+◌, ◌<◌, ◌≤◌, ◌==◌, ◌&&◌, ◌||◌, not, nat_le, Bool, true, false, List, [], ◌∷◌, ◌++◌, Option, None, Some, Result, Ok, Err, length}
use Rattle.std.specs.List.{list_all, prefix_len}
use Rattle.rules_words.specs.declared.words.BadWord.{BadWord}
use Rattle.rules_words.specs.declared.words.BadWord.TheVariants.{OpenQuote, StrayQuote, BadByte, TooLong}
use Rattle.rules_words.specs.declared.words.Word.{Word}

-- a space or a tab
abbrev pub is_blank : ℕ → Bool
is_blank b = b == 32 || b == 9

-- a double quote or a single one
abbrev pub is_quote : ℕ → Bool
is_quote b = b == 34 || b == 39

-- may be in a word without quotes
abbrev pub is_bare : ℕ → Bool
is_bare b = not (is_blank b || is_quote b)

-- may be between two of these quotes
abbrev pub is_inside : ℕ → ℕ → Bool
is_inside quote b = not (b == quote)

-- from the space to the tilde, or a tab
abbrev pub is_plain : ℕ → Bool
is_plain b = nat_le 32 b && nat_le b 126 || b == 9

-- a word as it is written, with its quotes
abbrev pub written : Option ℕ → List ℕ → List ℕ
written None text = text
written (Some quote) text = quote ∷ (text ++ quote ∷ [])

-- a word without quotes has a byte
abbrev pub is_word : Option ℕ → List ℕ → Bool
is_word None text = not (length text == 0) && list_all is_bare text
is_word (Some quote) text = is_quote quote && list_all (is_inside quote) text

-- a word may end before these bytes
abbrev pub ends : List ℕ → Bool
ends [] = true
ends (b ∷ bs) = is_blank b

-- a word goes on with a byte that is not allowed behind it
abbrev pub breaks : Option ℕ → List ℕ → Bool
breaks quote [] = false
breaks None (b ∷ bs) = is_quote b
breaks (Some quote) (b ∷ bs) = not (is_blank b)

-- the end of a line of this size begins with blanks and this word, and these bytes are behind it
pub record Begins (size : ℕ) (text : List ℕ) (word : Word) (behind : List ℕ) : Type 0 where
  pub blanks : List ℕ
  pub skipped : list_all is_blank blanks ≡ true
  pub parts : text ≡ blanks ++ (written word.quote word.text.now ++ behind)
  pub sound : is_word word.quote word.text.now ≡ true
  pub at : word.at + length (written word.quote word.text.now ++ behind) ≡ size

-- these words, each with its end, and what is left behind them
abbrev pub Leads : ℕ → List ℕ → List Word → List ℕ → Type 0
Leads size text [] rest = text ≡ rest
Leads size text (word ∷ words) rest =
    (behind : List ℕ) × Begins size text word behind × (ends behind ≡ true) × Leads size behind words rest

-- the end of a line of this size begins with a word that is not valid
abbrev pub IsBadWord : ℕ → List ℕ → BadWord → Type 0
IsBadWord size text (OpenQuote at) =
    (blanks inside : List ℕ) × (quote : ℕ) × (list_all is_blank blanks ≡ true) × (is_quote quote ≡ true)
    × (list_all (is_inside quote) inside ≡ true) × (text ≡ blanks ++ quote ∷ inside)
    × (at + length (quote ∷ inside) ≡ size)
IsBadWord size text (StrayQuote at) =
    (word : Word) × (behind : List ℕ) × Begins size text word behind × (breaks word.quote behind ≡ true)
    × (at + length behind ≡ size)
IsBadWord size text (BadByte at) = ⊥
IsBadWord size text TooLong = ⊥

-- 8,192 bytes at most, all of them plain
abbrev pub IsSound : List ℕ → Type 0
IsSound line = (length line ≤ 8192) × (list_all is_plain line ≡ true)

-- the words of a line, or the first fault of it
abbrev pub IsCut : List ℕ → Result (List Word) BadWord → Type 0
IsCut line (Ok words) =
    IsSound line × ((rest : List ℕ) × Leads (length line) line words rest × (list_all is_blank rest ≡ true))
IsCut line (Err TooLong) = 8192 < length line
IsCut line (Err (BadByte at)) = (length line ≤ 8192) × (at ≡ prefix_len is_plain line) × (at < length line)
IsCut line (Err (OpenQuote at)) =
    IsSound line
    × ((words : List Word) × (rest : List ℕ) × Leads (length line) line words rest
    × IsBadWord (length line) rest (OpenQuote at))
IsCut line (Err (StrayQuote at)) =
    IsSound line
    × ((words : List Word) × (rest : List ℕ) × Leads (length line) line words rest
    × IsBadWord (length line) rest (StrayQuote at))
