-- Refinement: only contracts inside the crate use it.
-- What private calls say: the first line, the word that a line begins with, and a count's digits.
use Rattle.std.specs.Prelude.{◌≡◌, ℕ, ◌+◌, ◌*◌, ◌<◌, nat_lt, List, [], ◌∷◌, ◌++◌, Bool, true, not, ◌||◌, ◌==◌, if◌then◌else◌, Option, None, Some, length}
use Rattle.std.specs.List.{list_all}
use Rattle.std.specs.Option.{option_map}
use Rattle.std.specs.Str.{IsAscii}
use Rattle.script_text.specs.Words.{is_quote, words_from, Between}
use Rattle.script_text.specs.declared.words.FirstWord.{FirstWord}
use Rattle.script_text.specs.declared.words.FirstWord.TheVariants as first

-- up to the first byte 10, and what is behind it
abbrev pub first_line : List ℕ → List ℕ
first_line [] = []
first_line (b ∷ bs) = if b == 10 then [] else b ∷ first_line bs

abbrev pub after_line : List ℕ → List ℕ
after_line [] = []
after_line (b ∷ bs) = if b == 10 then bs else after_line bs

abbrev pub is_space : ℕ → Bool
is_space b = b == 32

-- may go on a bare word
abbrev pub is_bare : ℕ → Bool
is_bare b = not (b == 32 || is_quote b)

-- may stand behind this quote and not close it
abbrev pub is_inside : ℕ → ℕ → Bool
is_inside quote b = not (b == quote)

-- nothing follows, or a space does
abbrev pub ends_word : List ℕ → Bool
ends_word [] = true
ends_word (b ∷ bs) = b == 32

-- the words of a text, by what it begins with
abbrev pub words_by : FirstWord → Option (List (List ℕ))
words_by first.Bad = None
words_by first.End = Some []
words_by (first.Word word rest) = option_map (λ ws. word.now ∷ ws) (words_from Between rest.now)

-- what is behind the word
abbrev pub GoesOn : List ℕ → FirstWord → Type 0
GoesOn rest first.Bad = Unit {0}
GoesOn rest first.End = Unit {0}
GoesOn rest (first.Word word behind) = behind.now ≡ rest

-- what is behind the word is shorter than the text, and ASCII
abbrev pub IsShorter : List ℕ → FirstWord → Type 0
IsShorter text first.Bad = Unit {0}
IsShorter text first.End = Unit {0}
IsShorter text (first.Word word behind) = IsAscii behind.now × (length behind.now < length text)

-- ---- a count by its decimal digits, the lowest first

abbrev pub count_of : List ℕ → ℕ
count_of [] = 0
count_of (d ∷ ds) = d + 10 * count_of ds

abbrev pub AreDigits : List ℕ → Type 0
AreDigits [] = Unit {0}
AreDigits (d ∷ ds) = (d < 10) × AreDigits ds

-- digits, of which the last is not 0: what any digit begins is more than 0
abbrev pub IsCount : List ℕ → Type 0
IsCount [] = Unit {0}
IsCount (d ∷ ds) = (d < 10) × (0 < d + 10 * count_of ds) × IsCount ds

abbrev pub is_nine : ℕ → Bool
is_nine d = d == 9

-- with one digit more where all are nines
abbrev pub with_room : List ℕ → List ℕ
with_room ds = if list_all is_nine ds then ds ++ 0 ∷ [] else ds

-- the nines in front become 0, and the next digit is one more
abbrev pub one_more : List ℕ → List ℕ
one_more [] = []
one_more (d ∷ ds) = if nat_lt d 9 then (d + 1) ∷ ds else 0 ∷ one_more ds

-- as they are printed, the last first
abbrev pub digits_text : List ℕ → List ℕ
digits_text [] = []
digits_text (d ∷ ds) = digits_text ds ++ (48 + d) ∷ []
