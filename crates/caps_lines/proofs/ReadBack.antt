-- A shell reads a line as its words.
use Rattle.std.proofs.Common.{◌≡◌, ◌∙◌, ℕ, List, [], ◌∷◌, ◌++◌, Bool, true, false, not, cond, ◌&&◌, ◌||◌, ◌==◌, if◌then◌else◌, Option, None, Some, length, refl, sym, ap, arith, codes, append_assoc, nat_le}
use Rattle.std.specs.Option.{option_map}
use Rattle.std.specs.List.{flat_map, list_all}
use Rattle.std.proofs.lemmas.Bool.Decides.{nat_tests}
use Rattle.common_types.specs.WordBytes.{is_word_byte}
use Rattle.caps_lines.specs.Shell.{Stage, Between, Inside, Escaped, Quoted, is_plain, line_of, marked, more_words, onto_word, quoted, shell_word, words_from}
use Rattle.caps_lines.specs.Laws.{WordsAreReadBack, has_no_zero}

and_first : (a b : Bool) → (a && b) ≡ true → a ≡ true
and_first true b h = refl
and_first false b h = absurd cc

and_second : (a b : Bool) → (a && b) ≡ true → b ≡ true
and_second true b h = h
and_second false b h = absurd cc

-- bytes at the front of the first word
abbrev onto_front : List ℕ → List (List ℕ) → List (List ℕ)
onto_front [] words = words
onto_front (b ∷ bs) words = onto_word b (onto_front bs words)

mapped : (b : ℕ) (bs : List ℕ) (o : Option (List (List ℕ))) → option_map (onto_word b) (option_map (onto_front bs) o) ≡ option_map (onto_front (b ∷ bs)) o
mapped b bs None = refl
mapped b bs (Some words) = refl

onto_nothing : (o : Option (List (List ℕ))) → o ≡ option_map (onto_front []) o
onto_nothing None = refl
onto_nothing (Some words) = refl

whole_word : (word : List ℕ) (words : List (List ℕ)) → onto_front word ([] ∷ words) ≡ word ∷ words
whole_word [] words = refl
whole_word (b ∷ bs) words = ap (onto_word b) (whole_word bs words)

-- ---- between single quotes

is_39 : (b : ℕ) → (b == 39) ≡ true → b ≡ 39
is_39 b h = grind (arith, nat_tests)

no_zero : (b : ℕ) → not (b == 0) ≡ true → (b == 0) ≡ false
no_zero b h = grind (arith, nat_tests)

a_quote : (rest : List ℕ) → words_from Quoted (codes "'\\''" ++ rest) ≡ option_map (onto_word 39) (words_from Quoted rest)
a_quote rest = refl

quoted_byte : (b : ℕ) (rest : List ℕ) → (b == 0) ≡ false → words_from Quoted (marked b ++ rest) ≡ option_map (onto_word b) (words_from Quoted rest)
quoted_byte b rest some = go (b == 39) refl
  where
    go : (t : Bool) → (b == 39) ≡ t → words_from Quoted (cond t (codes "'\\''") (b ∷ []) ++ rest) ≡ option_map (onto_word b) (words_from Quoted rest)
    go true e = rw (is_39 b e) (a_quote rest)
    go false e = rw (e, some) refl

quoted_text : (text rest : List ℕ) → has_no_zero text ≡ true → words_from Quoted (flat_map marked text ++ 39 ∷ rest) ≡ option_map (onto_front text) (words_from Inside rest)
quoted_text [] rest h = onto_nothing (words_from Inside rest)
quoted_text (b ∷ bs) rest h =
    ap (words_from Quoted) (append_assoc (marked b) (flat_map marked bs) (39 ∷ rest))
    ∙ (quoted_byte b (flat_map marked bs ++ 39 ∷ rest) (no_zero b (and_first (not (b == 0)) (has_no_zero bs) h))
    ∙ (ap (option_map (onto_word b)) (quoted_text bs rest (and_second (not (b == 0)) (has_no_zero bs) h))
    ∙ mapped b bs (words_from Inside rest)))

-- ---- word bytes

no_blank : (b : ℕ) → is_word_byte b ≡ true → (b == 32) ≡ false
no_blank b h = grind (arith, nat_tests)

no_quote : (b : ℕ) → is_word_byte b ≡ true → (b == 39) ≡ false
no_quote b h = grind (arith, nat_tests)

no_backslash : (b : ℕ) → is_word_byte b ≡ true → (b == 92) ≡ false
no_backslash b h = grind (arith, nat_tests)

inside_byte : (b : ℕ) (rest : List ℕ) → is_word_byte b ≡ true → words_from Inside (b ∷ rest) ≡ option_map (onto_word b) (words_from Inside rest)
inside_byte b rest h = rw (no_blank b h, no_quote b h, no_backslash b h, h) refl

first_byte : (b : ℕ) (rest : List ℕ) → is_word_byte b ≡ true → words_from Between (b ∷ rest) ≡ option_map (onto_word b) (words_from Inside rest)
first_byte b rest h = rw (no_blank b h, no_quote b h, no_backslash b h, h) refl

plain_text : (text rest : List ℕ) → list_all is_word_byte text ≡ true → words_from Inside (text ++ rest) ≡ option_map (onto_front text) (words_from Inside rest)
plain_text [] rest h = onto_nothing (words_from Inside rest)
plain_text (b ∷ bs) rest h =
    inside_byte b (bs ++ rest) (and_first (is_word_byte b) (list_all is_word_byte bs) h)
    ∙ (ap (option_map (onto_word b)) (plain_text bs rest (and_second (is_word_byte b) (list_all is_word_byte bs) h)) ∙ mapped b bs (words_from Inside rest))

-- ---- words

plain_word : (text rest : List ℕ) → is_plain text ≡ true → words_from Between (text ++ rest) ≡ option_map (onto_front text) (words_from Inside rest)
plain_word [] rest h = absurd cc
plain_word (b ∷ bs) rest h =
    let all = and_second (not (length (b ∷ bs) == 0)) (list_all is_word_byte (b ∷ bs)) h in
    first_byte b (bs ++ rest) (and_first (is_word_byte b) (list_all is_word_byte bs) all)
    ∙ (ap (option_map (onto_word b)) (plain_text bs rest (and_second (is_word_byte b) (list_all is_word_byte bs) all)) ∙ mapped b bs (words_from Inside rest))

quoted_word : (text rest : List ℕ) → has_no_zero text ≡ true → words_from Between (quoted text ++ rest) ≡ option_map (onto_front text) (words_from Inside rest)
quoted_word text rest h = ap (words_from Quoted) (append_assoc (flat_map marked text) (39 ∷ []) rest) ∙ quoted_text text rest h

one_word : (text rest : List ℕ) → has_no_zero text ≡ true → words_from Between (shell_word text ++ rest) ≡ option_map (onto_front text) (words_from Inside rest)
one_word text rest h = go (is_plain text) refl
  where
    go : (t : Bool) → is_plain text ≡ t → words_from Between (cond t text (quoted text) ++ rest) ≡ option_map (onto_front text) (words_from Inside rest)
    go true e = plain_word text rest e
    go false e = quoted_word text rest h

next_words : (words : List (List ℕ)) → list_all has_no_zero words ≡ true → words_from Inside (more_words words) ≡ Some ([] ∷ words)
next_words [] h = refl
next_words (word ∷ words) h =
    ap (option_map (λ ws. [] ∷ ws))
    (one_word word (more_words words) (and_first (has_no_zero word) (list_all has_no_zero words) h)
    ∙ (ap (option_map (onto_front word)) (next_words words (and_second (has_no_zero word) (list_all has_no_zero words) h))
    ∙ ap Some (whole_word word words)))

pub words_are_read_back : WordsAreReadBack
words_are_read_back [] h = refl
words_are_read_back (word ∷ words) h =
    one_word word (more_words words) (and_first (has_no_zero word) (list_all has_no_zero words) h)
    ∙ (ap (option_map (onto_front word)) (next_words words (and_second (has_no_zero word) (list_all has_no_zero words) h))
    ∙ ap Some (whole_word word words))
