-- Statement: contracts of public calls use it.
-- The words of a line: this project's profile.
use Rattle.std.specs.Prelude.{ℕ, List, [], ◌∷◌, Bool, ◌||◌, ◌&&◌, if◌then◌else◌, ◌==◌, nat_le, Option, None, Some, length}
use Rattle.std.specs.Option.{option_map}
use Rattle.std.specs.List.{list_all}

-- a double quote or a single one
abbrev pub is_quote : ℕ → Bool
is_quote b = b == 34 || b == 39

-- from the blank to the tilde
abbrev pub is_printable : ℕ → Bool
is_printable b = nat_le 32 b && nat_le b 126

-- where a line is being read: between words, in a bare word, behind this quote, or behind a closed quote
pub data Stage : Type 0 where
  Between : Stage
  Bare : Stage
  Quoted : ℕ → Stage
  Behind : Stage

-- a byte at the front of the first word
abbrev pub onto_word : ℕ → List (List ℕ) → List (List ℕ)
onto_word b [] = (b ∷ []) ∷ []
onto_word b (word ∷ words) = (b ∷ word) ∷ words

-- the words from here on. In a bare word and behind a quote the first of them is the rest of that word.
abbrev pub words_from : Stage → List ℕ → Option (List (List ℕ))
words_from Between [] = Some []
words_from Between (b ∷ bs) =
    if b == 32 then words_from Between bs
    else if is_quote b then words_from (Quoted b) bs
    else option_map (onto_word b) (words_from Bare bs)
words_from Bare [] = Some ([] ∷ [])
words_from Bare (b ∷ bs) =
    if b == 32 then option_map (λ ws. [] ∷ ws) (words_from Between bs)
    else if is_quote b then None
    else option_map (onto_word b) (words_from Bare bs)
words_from (Quoted q) [] = None
words_from (Quoted q) (b ∷ bs) =
    if b == q then option_map (λ ws. [] ∷ ws) (words_from Behind bs)
    else option_map (onto_word b) (words_from (Quoted q) bs)
words_from Behind [] = Some []
words_from Behind (b ∷ bs) = if b == 32 then words_from Between bs else None

-- 8,192 bytes at most, and all of them printable
abbrev pub is_sound : List ℕ → Bool
is_sound line = nat_le (length line) 8192 && list_all is_printable line

-- the words of a line, if it is no bad line
abbrev pub words_of : List ℕ → Option (List (List ℕ))
words_of line = if is_sound line then words_from Between line else None

-- exactly one, two, three or four words

abbrev pub one_of : List (List ℕ) → Option (List ℕ)
one_of (a ∷ []) = Some a
one_of ws = None

abbrev pub two_of : List (List ℕ) → Option (List ℕ × List ℕ)
two_of (a ∷ b ∷ []) = Some (a, b)
two_of ws = None

abbrev pub three_of : List (List ℕ) → Option (List ℕ × List ℕ × List ℕ)
three_of (a ∷ b ∷ c ∷ []) = Some (a, b, c)
three_of ws = None

abbrev pub four_of : List (List ℕ) → Option (List ℕ × List ℕ × List ℕ × List ℕ)
four_of (a ∷ b ∷ c ∷ d ∷ []) = Some (a, b, c, d)
four_of ws = None

-- what was read, if no words are left behind it, and else `None`
abbrev pub whole_of : {A : Type 0} → List (List ℕ) → Option A → Option A
whole_of [] found = found
whole_of (w ∷ ws) found = None
