-- Statement: contracts of public calls use it.
-- What the rest of a line begins with.
use Rattle.std.specs.Prelude.{ℕ, ◌≡◌, ◌+◌, ◌<◌, true, false, List, ◌∷◌, Result, Ok, Err, Vec, length}
use Rattle.std.specs.List.{list_all}
use Rattle.std.specs.Str.{IsAscii}
use Rattle.std.specs.declared.alloc.Global.{Global}
use Rattle.rules_words.specs.Words.{Begins, IsBadWord, IsCut, Leads, ends, is_blank, is_quote}
use Rattle.rules_words.specs.declared.words.BadWord.{BadWord}
use Rattle.rules_words.specs.declared.words.BadWord.TheVariants.{OpenQuote, StrayQuote, BadByte, TooLong}
use Rattle.rules_words.specs.declared.words.CutLine.{CutLine}
use Rattle.rules_words.specs.declared.words.FirstWord.{FirstWord}
use Rattle.rules_words.specs.declared.words.FirstWord.TheVariants as first
use Rattle.rules_words.specs.declared.words.Word.{Word}

-- nothing but blanks, a word with its end, or a bad one
abbrev pub IsFirst : ℕ → List ℕ → FirstWord → Type 0
IsFirst size text first.End = list_all is_blank text ≡ true
IsFirst size text (first.Word word behind) =
    Begins size text word behind.now × (ends behind.now ≡ true) × IsAscii behind.now
    × (length behind.now < length text)
IsFirst size text (first.Bad bad) = IsBadWord size text bad

-- a text begins with this quote
abbrev pub IsQuoted : ℕ → List ℕ → Type 0
IsQuoted quote text = (is_quote quote ≡ true) × ((rest : List ℕ) × (text ≡ quote ∷ rest))

-- the word and what is behind it, or that it goes on
abbrev pub IsEnded : ℕ → Word → List ℕ → FirstWord → Type 0
IsEnded size word behind first.End = ⊥
IsEnded size word behind (first.Word same rest) = (same ≡ word) × (rest.now ≡ behind) × (ends behind ≡ true)
IsEnded size word behind (first.Bad (OpenQuote at)) = ⊥
IsEnded size word behind (first.Bad (StrayQuote at)) = (ends behind ≡ false) × (at + length behind ≡ size)
IsEnded size word behind (first.Bad (BadByte at)) = ⊥
IsEnded size word behind (first.Bad TooLong) = ⊥

-- the words of the last bytes of a line, or why they have none
abbrev pub AreWords : List ℕ → Result (Vec Word Global) BadWord → Type 0
AreWords text (Ok words) = (rest : List ℕ) × Leads (length text) text words.items rest × (list_all is_blank rest ≡ true)
AreWords text (Err bad) =
    (words : List Word) × (rest : List ℕ) × Leads (length text) text words rest × IsBadWord (length text) rest bad

-- those of a line
abbrev pub IsRead : List ℕ → Result CutLine BadWord → Type 0
IsRead line (Ok read) = (read.text.now ≡ line) × IsCut line (Ok read.words.items)
IsRead line (Err bad) = IsCut line (Err bad)
