-- The words of a line, one after another.
use Rattle.std.proofs.Common.{◌≡◌, ℕ, ◌<◌, ◌≤◌, true, List, [], ◌∷◌, ◌++◌, Ok, Err, Vec, length, refl, sym, subst, arith}
use Rattle.std.specs.List.{list_all, prefix_len}
use Rattle.std.specs.Str.{IsAscii}
use Rattle.std.specs.declared.alloc.Global.{Global}
use Rattle.std.proofs.lemmas.Bool.Decides.{nat_tests}
use Rattle.std.proofs.lemmas.List.Sums.{prefix_len-le-length}
use Rattle.std.proofs.lemmas.Str.Ascii.{IsAscii-nil, IsAscii-cons}
use Rattle.rules_words.specs.Cutting.{AreWords}
use Rattle.rules_words.specs.Words.{Begins, IsBadWord, IsCut, IsSound, Leads, ends, is_blank, is_plain}
use Rattle.rules_words.specs.declared.words.BadWord.{BadWord}
use Rattle.rules_words.specs.declared.words.BadWord.TheVariants.{OpenQuote, StrayQuote, BadByte, TooLong}
use Rattle.rules_words.proofs.Fronts.{all_pass, both_true}
use Rattle.rules_words.specs.declared.words.Word.{Word}

pub one_word : (size : ℕ) (text : List ℕ) (words : List Word) (rest : List ℕ) (word : Word) (behind : List ℕ)
    → Leads size text words rest → Begins size rest word behind → ends behind ≡ true
    → Leads size text (words ++ word ∷ []) behind
one_word size text [] rest word behind is begins end =
    (behind, subst (λ (xs : List ℕ). Begins size xs word behind) (sym is) begins, end, refl)
one_word size text (w ∷ words) rest word behind (next, here, stops, more) begins end =
    (next, here, stops, one_word size next words rest word behind more begins end)

-- a plain byte is ASCII
plain_is_ascii : (b : ℕ) → is_plain b ≡ true → b < 128
plain_is_ascii b h = grind (arith, nat_tests)

pub plain_ascii : (xs : List ℕ) → list_all is_plain xs ≡ true → IsAscii xs
plain_ascii [] h = IsAscii-nil
plain_ascii (b ∷ bs) h =
    let parts = both_true (is_plain b) (list_all is_plain bs) h in
    IsAscii-cons b bs (plain_is_ascii b parts.0) (plain_ascii bs parts.1)

-- where no byte ends the plain ones
pub plain_all : (xs : List ℕ) (n : ℕ) → n ≡ prefix_len is_plain xs → length xs ≤ n → list_all is_plain xs ≡ true
plain_all xs n is all = all_pass is_plain xs (omega (arith, prefix_len-le-length is_plain xs))

-- the words of a sound line, and its fault
pub cut_words : (line text : List ℕ) (words : Vec Word Global) → IsSound line → text ≡ line → AreWords text (Ok words)
    → IsCut line (Ok words.items)
cut_words line text words sound is (rest, leads, blank) = (
  sound,
  subst (λ (xs : List ℕ). (rest : List ℕ) × Leads (length xs) xs words.items rest × (list_all is_blank rest ≡ true))
      is (rest, leads, blank),
)

pub cut_fault : (line text : List ℕ) (bad : BadWord) → IsSound line → text ≡ line → AreWords text (Err bad)
    → IsCut line (Err bad)
cut_fault line text (OpenQuote at) sound is h = (
  sound,
  subst (λ (xs : List ℕ). (words : List Word) × (rest : List ℕ) × Leads (length xs) xs words rest
      × IsBadWord (length xs) rest (OpenQuote at)) is h,
)
cut_fault line text (StrayQuote at) sound is h = (
  sound,
  subst (λ (xs : List ℕ). (words : List Word) × (rest : List ℕ) × Leads (length xs) xs words rest
      × IsBadWord (length xs) rest (StrayQuote at)) is h,
)
cut_fault line text (BadByte at) sound is (words, rest, leads, h) = absurd h
cut_fault line text TooLong sound is (words, rest, leads, h) = absurd h

pub no_bytes : (xs : List ℕ) → length xs ≤ 0 → list_all is_blank xs ≡ true
no_bytes [] h = refl
no_bytes (b ∷ bs) h = absurd (omega arith)
