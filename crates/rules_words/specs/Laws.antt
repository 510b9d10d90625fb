-- Statement: contracts of public calls use it.
-- A law of the words of a line.
use Rattle.std.specs.Prelude.{ℕ, ◌≡◌, List, Option, Result, Ok, Err, map}
use Rattle.rules_words.specs.Words.{IsCut}
use Rattle.rules_words.specs.declared.words.BadWord.{BadWord}
use Rattle.rules_words.specs.declared.words.Word.{Word}

-- a word's position, its quote and its text
abbrev pub seen : Word → ℕ × Option ℕ × List ℕ
seen word = (word.at, word.quote, word.text.now)

abbrev pub all_seen : Result (List Word) BadWord → Result (List (ℕ × Option ℕ × List ℕ)) BadWord
all_seen (Ok words) = Ok (map seen words)
all_seen (Err bad) = Err bad

-- two cuts of a line have the same words, or the same fault
abbrev pub LinesAreCutOnce : Type 0
LinesAreCutOnce =
    (line : List ℕ) (one other : Result (List Word) BadWord) → IsCut line one → IsCut line other
    → all_seen one ≡ all_seen other
