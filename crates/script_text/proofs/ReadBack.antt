-- What is printed is read back.
use Rattle.std.proofs.Common.{◌≡◌, ◌⊎◌, ◌<◌, ◌≤◌, ◌+◌, ◌∙◌, ℕ, suc, List, [], ◌∷◌, ◌++◌, Bool, true, false, not, ◌&&◌, ◌||◌, ◌==◌, if◌then◌else◌, Some, length, decimal, refl, sym, ap, inl, inr, arith, nat_le, length-append}
use Rattle.std.specs.Option.{option_map}
use Rattle.std.specs.List.{flat_map, list_all, list_any, position_or_len, before_first, after_first}
use Rattle.std.specs.Str.{all_ascii_digits}
use Rattle.std.specs.Char.{is_ascii_digit}
use Rattle.std.proofs.lemmas.Bool.Decides.{nat_tests}
use Rattle.std.proofs.lemmas.Fmt.{digits_decimal}
use Rattle.script_text.specs.Lines.{lines_of, onto_first}
use Rattle.script_text.specs.Words.{words_of, words_from, onto_word, is_printable, Quoted}
use Rattle.script_text.specs.Numbers.{is_dot}
use Rattle.script_text.specs.Text.{line, glyph, stands_for_itself}
use Rattle.script_text.specs.Laws.{LinesAreTheText, LinesAreReadBack, QuotedIsReadBack, NumbersAreReadBack, PairsAreReadBack}
use Rattle.script_text.proofs.FirstLines.{lines_at}
use Rattle.script_text.proofs.Digits.{own, number-decimal}

and_first : (a b : Bool) → (a && b) ≡ true → a ≡ true
and_first true b h = refl
and_first false b h = absurd cc

and_second : (a b : Bool) → (a && b) ≡ true → b ≡ true
and_second true b h = h
and_second false b h = absurd cc

-- ---- lines

onto_text : (b : ℕ) (ls : List (List ℕ)) → 0 < length ls → flat_map line (onto_first b ls) ≡ b ∷ flat_map line ls
onto_text b [] h = absurd (omega arith)
onto_text b (l ∷ ls) h = refl

more_text : (b : ℕ) (x bs : List ℕ) → (x ≡ bs) ⊎ (x ≡ line bs) → (b ∷ x ≡ b ∷ bs) ⊎ (b ∷ x ≡ line (b ∷ bs))
more_text b x bs (inl e) = inl (ap (λ xs. b ∷ xs) e)
more_text b x bs (inr e) = inr (ap (λ xs. b ∷ xs) e)

is_10 : (b : ℕ) → (b == 10) ≡ true → b ≡ 10
is_10 b h = grind (arith, nat_tests)

pub lines_are_the_text : LinesAreTheText
lines_are_the_text [] = inl refl
lines_are_the_text (b ∷ []) =
    elim (b == 10) as (λ v. (b == 10) ≡ v → (flat_map line (if v then [] ∷ lines_of [] else onto_first b (lines_of [])) ≡ b ∷ []) ⊎ (flat_map line (if v then [] ∷ lines_of [] else onto_first b (lines_of [])) ≡ line (b ∷ []))) [
      | true ↦ λ e. inl (ap (λ k. k ∷ []) (sym (is_10 b e)))
      | false ↦ λ e. inr refl
    ] refl
lines_are_the_text (b ∷ c ∷ cs) =
    let rest = lines_are_the_text (c ∷ cs) in
    let some : 0 < length (lines_of (c ∷ cs)) = omega (arith, ap length (lines_at c cs)) in
    let P : Bool → Type 0 = λ v. (flat_map line (if v then [] ∷ lines_of (c ∷ cs) else onto_first b (lines_of (c ∷ cs))) ≡ b ∷ c ∷ cs) ⊎ (flat_map line (if v then [] ∷ lines_of (c ∷ cs) else onto_first b (lines_of (c ∷ cs))) ≡ line (b ∷ c ∷ cs)) in
    elim (b == 10) as (λ v. (b == 10) ≡ v → P v) [
      | true ↦ λ e. rw (is_10 b e) (more_text 10 (flat_map line (lines_of (c ∷ cs))) (c ∷ cs) rest)
      | false ↦ λ e. rw (onto_text b (lines_of (c ∷ cs)) some) (more_text b (flat_map line (lines_of (c ∷ cs))) (c ∷ cs) rest)
    ] refl

no_end : (b : ℕ) → not (b == 10) ≡ true → (b == 10) ≡ false
no_end b h = grind (arith, nat_tests)

one_line : (l rest : List ℕ) → list_all (λ b. not (b == 10)) l ≡ true → lines_of (line l ++ rest) ≡ l ∷ lines_of rest
one_line [] rest h = refl
one_line (b ∷ bs) rest h = rw (no_end b (and_first (not (b == 10)) _ h)) (ap (onto_first b) (one_line bs rest (and_second (not (b == 10)) _ h)))

pub lines_are_read_back : LinesAreReadBack
lines_are_read_back [] h = refl
lines_are_read_back (l ∷ ls) h =
    one_line l (flat_map line ls) (and_first (list_all (λ b. not (b == 10)) l) _ h) ∙ ap (λ rest. l ∷ rest) (lines_are_read_back ls (and_second (list_all (λ b. not (b == 10)) l) _ h))

-- ---- quoted texts

itself : (b : ℕ) → stands_for_itself b ≡ true → (is_printable b ≡ true) × ((b == 34) ≡ false)
itself b h = (and_first (is_printable b) _ h, (let no = and_second (is_printable b) _ h in grind (arith, nat_tests)))

glyphs : (text : List ℕ) → list_all stands_for_itself text ≡ true → flat_map glyph text ≡ text
glyphs [] h = refl
glyphs (b ∷ bs) h = rw (and_first (stands_for_itself b) _ h) (ap (λ xs. b ∷ xs) (glyphs bs (and_second (stands_for_itself b) _ h)))

all_printable : (text : List ℕ) → list_all stands_for_itself text ≡ true → list_all is_printable (text ++ 34 ∷ []) ≡ true
all_printable [] h = refl
all_printable (b ∷ bs) h = rw ((itself b (and_first (stands_for_itself b) _ h)).0) (all_printable bs (and_second (stands_for_itself b) _ h))

inside : (text : List ℕ) → list_all stands_for_itself text ≡ true → words_from (Quoted 34) (text ++ 34 ∷ []) ≡ Some (text ∷ [])
inside [] h = refl
inside (b ∷ bs) h = rw ((itself b (and_first (stands_for_itself b) _ h)).1) (ap (option_map (onto_word b)) (inside bs (and_second (stands_for_itself b) _ h)))

short_enough : (text : List ℕ) → length text ≤ 8190 → nat_le (length (34 ∷ (text ++ 34 ∷ []))) 8192 ≡ true
short_enough text h = let few : length (34 ∷ (text ++ 34 ∷ [])) ≤ 8192 = omega (arith, length-append text (34 ∷ [])) in grind (arith, nat_tests)

pub quoted_is_read_back : QuotedIsReadBack
quoted_is_read_back text h short =
    ap (λ xs. words_of (34 ∷ (xs ++ 34 ∷ []))) (glyphs text h) ∙ rw (short_enough text short, all_printable text h) (inside text h)

-- ---- numbers

pub numbers_are_read_back : NumbersAreReadBack
numbers_are_read_back = number-decimal

no_dot : (d : ℕ) → is_ascii_digit d ≡ true → is_dot d ≡ false
no_dot d h = grind (arith, nat_tests)

one_more : (n : ℕ) → 1 + n ≡ suc n
one_more n = omega arith

two_more : (n : ℕ) → 1 + n + 1 ≡ suc (n + 1)
two_more n = omega arith

some_dot : (ds es : List ℕ) → list_any is_dot ((ds ++ 46 ∷ []) ++ es) ≡ true
some_dot [] es = refl
some_dot (d ∷ ds) es = elim (is_dot d) as (λ v. (v || list_any is_dot ((ds ++ 46 ∷ []) ++ es)) ≡ true) [ true ↦ refl | false ↦ some_dot ds es ]

before_dot : (ds es : List ℕ) → all_ascii_digits ds ≡ true → before_first is_dot ((ds ++ 46 ∷ []) ++ es) ≡ ds
before_dot [] es h = refl
before_dot (d ∷ ds) es h =
    let n = position_or_len is_dot ((ds ++ 46 ∷ []) ++ es) in
    rw (no_dot d (and_first (is_ascii_digit d) _ h), one_more n) (ap (λ xs. d ∷ xs) (before_dot ds es (and_second (is_ascii_digit d) _ h)))

after_dot : (ds es : List ℕ) → all_ascii_digits ds ≡ true → after_first is_dot ((ds ++ 46 ∷ []) ++ es) ≡ es
after_dot [] es h = refl
after_dot (d ∷ ds) es h =
    let n = position_or_len is_dot ((ds ++ 46 ∷ []) ++ es) in
    rw (no_dot d (and_first (is_ascii_digit d) _ h), two_more n) (after_dot ds es (and_second (is_ascii_digit d) _ h))

pub pairs_are_read_back : PairsAreReadBack
pairs_are_read_back a b ha hb =
    let digits : all_ascii_digits (decimal a) ≡ true = digits_decimal own a (omega arith) in
    rw (some_dot (decimal a) (decimal b), before_dot (decimal a) (decimal b) digits, after_dot (decimal a) (decimal b) digits, number-decimal a ha, number-decimal b hb) refl
