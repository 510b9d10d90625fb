-- Statement: contracts of public calls use it.
-- Laws of lines, words, numbers and printed texts.
use Rattle.std.specs.Prelude.{◌≡◌, ◌⊎◌, ℕ, ◌^◌, ◌<◌, ◌≤◌, List, [], ◌∷◌, ◌++◌, true, not, ◌==◌, Some, length, codes, decimal}
use Rattle.std.specs.List.{flat_map, list_all}
use Rattle.script_text.specs.Lines.{lines_of}
use Rattle.script_text.specs.Words.{words_of}
use Rattle.script_text.specs.Numbers.{number_of, pair_of}
use Rattle.script_text.specs.Text.{line, numeral, quoted, stands_for_itself}

-- the lines of a text, each with its end, are the text, whose last line may have had no end
abbrev pub LinesAreTheText : Type 0
LinesAreTheText = (text : List ℕ) → (flat_map line (lines_of text) ≡ text) ⊎ (flat_map line (lines_of text) ≡ line text)

-- lines without byte 10, each with its end, are a text of just these lines
abbrev pub LinesAreReadBack : Type 0
LinesAreReadBack = (lines : List (List ℕ)) → list_all (list_all (λ b. not (b == 10))) lines ≡ true → lines_of (flat_map line lines) ≡ lines

-- a printed text whose bytes stand for themselves is one word
abbrev pub QuotedIsReadBack : Type 0
QuotedIsReadBack = (text : List ℕ) → list_all stands_for_itself text ≡ true → length text ≤ 8190 → words_of (quoted text) ≡ Some (text ∷ [])

-- a printed number is read back, and so are two with a dot between them
abbrev pub NumbersAreReadBack : Type 0
NumbersAreReadBack = (n : ℕ) → n < 2 ^ 32 → number_of (decimal n) ≡ Some n

abbrev pub PairsAreReadBack : Type 0
PairsAreReadBack = (a b : ℕ) → a < 2 ^ 32 → b < 2 ^ 32 → pair_of (decimal a ++ codes "." ++ decimal b) ≡ Some (a, b)

-- std's decimal text has at most 64 digits; up to there the numeral is the same
abbrev pub NumeralsAreDecimal : Type 0
NumeralsAreDecimal = (n : ℕ) → n < 10 ^ 64 → numeral n ≡ decimal n
