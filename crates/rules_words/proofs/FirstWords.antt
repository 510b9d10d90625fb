-- What the rest of a line begins with.
use Rattle.std.proofs.Common.{◌≡◌, ℕ, zero, suc, ◌+◌, ◌-◌, ◌<◌, ◌≤◌, Bool, true, false, not, ◌||◌, ◌&&◌, ◌==◌, cond, List, [], ◌∷◌, ◌++◌, length, take, drop, get_or, refl, sym, ap, subst, ◌∙◌, arith, None, Some, length-drop, length-append, append_assoc}
use Rattle.std.specs.List.{prefix_len, list_all}
use Rattle.std.specs.Str.{IsAscii}
use Rattle.std.proofs.lemmas.Bool.Decides.{nat_tests}
use Rattle.std.proofs.lemmas.Str.{IsAscii-drop}
use Rattle.std.proofs.lemmas.List.{take-append-drop}
use Rattle.rules_words.specs.Words.{Begins, IsBadWord, breaks, ends, is_bare, is_blank, is_inside, is_quote, is_word, written}
use Rattle.rules_words.specs.Cutting.{IsEnded, IsFirst, IsQuoted}
use Rattle.rules_words.specs.declared.words.BadWord.TheVariants as bad
use Rattle.rules_words.specs.declared.words.FirstWord.{FirstWord}
use Rattle.rules_words.specs.declared.words.FirstWord.TheVariants as first
use Rattle.rules_words.specs.declared.words.Word.{Word}
use Rattle.rules_words.proofs.Fronts.{all_pass, front_passes, one_more, rest_fails}

-- without blanks in front
pub begins_at : (size : ℕ) (text : List ℕ) (word : Word) (behind : List ℕ)
    → text ≡ written word.quote word.text.now ++ behind → is_word word.quote word.text.now ≡ true
    → word.at + length text ≡ size
    → Begins size text word behind
begins_at size text word behind parts sound at = record {
  blanks = [];
  skipped = refl;
  parts = parts;
  sound = sound;
  at = subst (λ (xs : List ℕ). word.at + length xs ≡ size) parts at;
}

-- a text that has only blanks behind its blanks
none_left : (front text : List ℕ) → list_all is_blank front ≡ true → list_all is_blank text ≡ true
    → list_all is_blank (front ++ text) ≡ true
none_left [] text a b = b
none_left (x ∷ xs) text a b =
    elim (is_blank x) as (λ v. (v && list_all is_blank xs) ≡ true → (v && list_all is_blank (xs ++ text)) ≡ true) [
      | true ↦ λ a. none_left xs text a b
      | false ↦ λ a. absurd cc
    ] a

-- with blanks in front
more_blanks : (size : ℕ) (front text : List ℕ) (word : Word) (behind : List ℕ) → list_all is_blank front ≡ true
    → Begins size text word behind → Begins size (front ++ text) word behind
more_blanks size front text word behind blank h = record {
  blanks = front ++ h.blanks;
  skipped = none_left front h.blanks blank h.skipped;
  parts = ap (λ xs. front ++ xs) h.parts
      ∙ sym (append_assoc front h.blanks (written word.quote word.text.now ++ behind));
  sound = h.sound;
  at = h.at;
}

open_blanks : (size : ℕ) (front text : List ℕ) (at : ℕ) → list_all is_blank front ≡ true
    → IsBadWord size text (bad.OpenQuote at) → IsBadWord size (front ++ text) (bad.OpenQuote at)
open_blanks size front text at blank (blanks, inside, quote, skipped, quotes, inner, parts, is) = (
  front ++ blanks,
  inside,
  quote,
  none_left front blanks blank skipped,
  quotes,
  inner,
  ap (λ xs. front ++ xs) parts
      ∙ sym (append_assoc front blanks (quote ∷ inside)),
  is,
)

behind_blanks : (size : ℕ) (front text : List ℕ) (r : FirstWord) → list_all is_blank front ≡ true → IsFirst size text r
    → IsFirst size (front ++ text) r
behind_blanks size front text first.End blank h = none_left front text blank h
behind_blanks size front text (first.Word word behind) blank (begins, end, ascii, shorter) =
    (more_blanks size front text word behind.now blank begins, end, ascii, omega (arith, length-append front text))
behind_blanks size front text (first.Bad (bad.OpenQuote at)) blank h = open_blanks size front text at blank h
behind_blanks size front text (first.Bad (bad.StrayQuote at)) blank (word, behind, begins, more, is) =
    (word, behind, more_blanks size front text word behind blank begins, more, is)
behind_blanks size front text (first.Bad (bad.BadByte at)) blank h = h
behind_blanks size front text (first.Bad bad.TooLong) blank h = h

-- what is behind the blanks of a text
pub behind_all_blanks : (size : ℕ) (text start : List ℕ) (r : FirstWord) → start ≡ drop (prefix_len is_blank text) text
    → IsFirst size start r → IsFirst size text r
behind_all_blanks size text start r is h =
    subst (λ (xs : List ℕ). IsFirst size xs r)
    (ap (λ xs. take (prefix_len is_blank text) text ++ xs) is ∙ take-append-drop (prefix_len is_blank text) text)
    (behind_blanks size (take (prefix_len is_blank text) text) start r (front_passes is_blank text) h)

pub only_blanks : (text start : List ℕ) → start ≡ drop (prefix_len is_blank text) text → length start ≡ 0
    → list_all is_blank text ≡ true
only_blanks text start is none =
    all_pass is_blank text (omega (
      arith,
      length-drop (prefix_len is_blank text) text,
      ap length is,
      none,
      shorter text,
    ))
  where
    shorter : (xs : List ℕ) → prefix_len is_blank xs ≤ length xs
    shorter [] = omega arith
    shorter (x ∷ xs) =
        elim (is_blank x) as (λ v. cond v (1 + prefix_len is_blank xs) 0 ≤ suc (length xs)) [
          | true ↦ omega (arith, shorter xs)
          | false ↦ omega arith
        ]

-- a byte that is neither a blank nor a quote begins a bare word
pub bare_begins : (text start : List ℕ) (b : ℕ) → start ≡ drop (prefix_len is_blank text) text → 0 < length start
    → b ≡ get_or start 0 0 → is_quote b ≡ false → 0 < prefix_len is_bare start
bare_begins text [] b is some first quote = absurd (omega arith)
bare_begins text (x ∷ xs) b is some first quote =
    let blank : is_blank x ≡ false = rest_fails is_blank text x xs (sym is) in
    let quotes : is_quote x ≡ false = ap is_quote (sym first) ∙ quote in
    let len : 1 + prefix_len is_bare xs ≡ prefix_len is_bare (x ∷ xs) = rw (blank, quotes) refl in
    omega (arith, len)

pub quote_begins : (start : List ℕ) (b : ℕ) → 0 < length start → b ≡ get_or start 0 0 → is_quote b ≡ true
    → IsQuoted b start
quote_begins [] b some first quote = absurd (omega arith)
quote_begins (x ∷ xs) b some first quote = (quote, (xs, ap (λ k. k ∷ xs) (sym first)))

-- ---- words without quotes

stray_quote : (behind : List ℕ) (text : List ℕ) → behind ≡ drop (prefix_len is_bare text) text → ends behind ≡ false
    → breaks None behind ≡ true
stray_quote [] text is h = absurd cc
stray_quote (b ∷ bs) text is h = by (is_blank b) (is_quote b) (rest_fails is_bare text b bs (sym is)) h
  where
    by : (blank quote : Bool) → not (blank || quote) ≡ false → blank ≡ false → quote ≡ true
    by blank true a b = refl
    by true false a b = absurd cc
    by false false a b = absurd cc

one_byte : (n : ℕ) → not (suc n == 0) ≡ true
one_byte n = grind (arith, nat_tests)

some_bare : (text word : List ℕ) → 0 < prefix_len is_bare text → word ≡ take (prefix_len is_bare text) text
    → is_word None word ≡ true
some_bare [] word some is = absurd (omega arith)
some_bare (x ∷ xs) [] some is = absurd (none (prefix_len is_bare (x ∷ xs)) some is)
  where
    none : (n : ℕ) → 0 < n → [] ≡ take n (x ∷ xs) → ⊥
    none zero h e = omega arith
    none (suc n) h e = cc
some_bare (x ∷ xs) (w ∷ ws) some is =
    rw (one_byte (length ws)) (ap (list_all is_bare) is ∙ front_passes is_bare (x ∷ xs))

pub bare_first : (size : ℕ) (text : List ℕ) (word : Word) (behind : List ℕ) (r : FirstWord) → IsAscii text
    → length text ≤ size → 0 < prefix_len is_bare text → word.quote ≡ None
    → word.text.now ≡ take (prefix_len is_bare text) text → behind ≡ drop (prefix_len is_bare text) text
    → word.at ≡ size - length text → IsEnded size word behind r → IsFirst size text r
bare_first size text word behind first.End ascii within some quote front back at h = absurd h
bare_first size text word behind (first.Word same rest) ascii within some quote front back at (is, rests, end) =
    let whole : text ≡ written word.quote word.text.now ++ behind =
    rw (quote, front, back) (sym (take-append-drop (prefix_len is_bare text) text)) in
    let sound : is_word word.quote word.text.now ≡ true =
    subst (λ q. is_word q word.text.now ≡ true) (sym quote) (some_bare text word.text.now some front) in
    let begins : Begins size text word behind = begins_at size text word behind whole sound (omega arith) in (
      subst (λ (w : Word). Begins size text w rest.now) (sym is) (subst (Begins size text word) (sym rests) begins),
      ap ends rests ∙ end,
      subst (λ (xs : List ℕ). IsAscii xs) (sym (rests ∙ back)) (IsAscii-drop text (prefix_len is_bare text) ascii),
      omega (arith, length-drop (prefix_len is_bare text) text, ap length (rests ∙ back), some, taken text some),
    )
  where
    taken : (xs : List ℕ) → 0 < prefix_len is_bare xs → 0 < length xs
    taken [] h = h
    taken (x ∷ xs) h = omega arith
bare_first size text word behind (first.Bad (bad.OpenQuote at)) ascii within some quote front back begins h = absurd h
bare_first size text word behind (first.Bad (bad.StrayQuote at)) ascii within some quote front back begins (more, is) =
    let whole : text ≡ written word.quote word.text.now ++ behind =
    rw (quote, front, back) (sym (take-append-drop (prefix_len is_bare text) text)) in
    let sound : is_word word.quote word.text.now ≡ true =
    subst (λ q. is_word q word.text.now ≡ true) (sym quote) (some_bare text word.text.now some front) in (
      word,
      behind,
      begins_at size text word behind whole sound (omega arith),
      subst (λ q. breaks q behind ≡ true) (sym quote) (stray_quote behind text back more),
      is,
    )
bare_first size text word behind (first.Bad (bad.BadByte at)) ascii within some quote front back begins h = absurd h
bare_first size text word behind (first.Bad bad.TooLong) ascii within some quote front back begins h = absurd h

-- ---- words in quotes

same_byte : (q b : ℕ) → not (b == q) ≡ false → b ≡ q
same_byte q b h = grind (arith, nat_tests)

-- the bytes up to the closing quote, the quote, and what is behind it
closed : (q : ℕ) (xs : List ℕ) → prefix_len (is_inside q) xs < length xs
    → xs ≡ take (prefix_len (is_inside q) xs) xs ++ (q ∷ drop 1 (drop (prefix_len (is_inside q) xs) xs))
closed q [] h = absurd (omega arith)
closed q (b ∷ bs) h =
    let n = prefix_len (is_inside q) bs in
    elim (is_inside q b) as (λ v. is_inside q b ≡ v → cond v (1 + n) 0 < suc (length bs)
    → b ∷ bs ≡ take (cond v (1 + n) 0) (b ∷ bs) ++ (q ∷ drop 1 (drop (cond v (1 + n) 0) (b ∷ bs)))) [
      | true ↦ λ e p. rw (one_more n) (ap (λ xs. b ∷ xs) (closed q bs (omega arith)))
      | false ↦ λ e p. ap (λ k. k ∷ bs) (same_byte q b e)
    ] refl h

stray_behind : (behind : List ℕ) (q : ℕ) → ends behind ≡ false → breaks (Some q) behind ≡ true
stray_behind [] q h = absurd cc
stray_behind (b ∷ bs) q h = ap not h

quoted_whole : (q : ℕ) (text inner word behind : List ℕ) → text ≡ q ∷ inner
    → prefix_len (is_inside q) inner < length inner → word ≡ take (prefix_len (is_inside q) inner) inner
    → behind ≡ drop 1 (drop (prefix_len (is_inside q) inner) inner) → text ≡ written (Some q) word ++ behind
quoted_whole q text inner word behind is within front back =
    is ∙ ap (λ xs. q ∷ xs) (closed q inner within ∙ rw (← front, ← back) (sym (append_assoc word (q ∷ []) behind)))

quoted_sound : (q : ℕ) (inner word : List ℕ) → is_quote q ≡ true → word ≡ take (prefix_len (is_inside q) inner) inner
    → is_word (Some q) word ≡ true
quoted_sound q inner word quote front = rw (quote, front) (front_passes (is_inside q) inner)

pub quoted_first : (size q : ℕ) (text inner : List ℕ) (word : Word) (behind : List ℕ) (r : FirstWord) → IsAscii text
    → length text ≤ size → IsQuoted q text → inner ≡ drop 1 text
    → prefix_len (is_inside q) inner < length inner → word.quote ≡ Some q
    → word.text.now ≡ take (prefix_len (is_inside q) inner) inner
    → behind ≡ drop 1 (drop (prefix_len (is_inside q) inner) inner)
    → word.at ≡ size - length text → IsEnded size word behind r → IsFirst size text r
quoted_first size q text inner word behind r ascii within (quotes, (rest, parts)) is shut quote front back at h = go r h
  where
    opens : text ≡ q ∷ inner
    opens = parts ∙ ap (λ xs. q ∷ xs) (sym (is ∙ ap (drop 1) parts))

    whole : text ≡ written word.quote word.text.now ++ behind
    whole = subst (λ k. text ≡ written k word.text.now ++ behind) (sym quote)
        (quoted_whole q text inner word.text.now behind opens shut front back)

    sound : is_word word.quote word.text.now ≡ true
    sound = subst (λ k. is_word k word.text.now ≡ true) (sym quote) (quoted_sound q inner word.text.now quotes front)

    begins : Begins size text word behind
    begins = begins_at size text word behind whole sound (omega arith)

    go : (r : FirstWord) → IsEnded size word behind r → IsFirst size text r
    go first.End h = absurd h
    go (first.Word same rest) (is_same, rests, end) = (
      subst (λ (w : Word). Begins size text w rest.now) (sym is_same)
          (subst (Begins size text word) (sym rests) begins),
      ap ends rests ∙ end,
      subst (λ (xs : List ℕ). IsAscii xs) (sym (rests ∙ back))
          (IsAscii-drop (drop (prefix_len (is_inside q) inner) inner) 1
          (IsAscii-drop inner (prefix_len (is_inside q) inner)
          (subst (λ (xs : List ℕ). IsAscii xs) (sym is) (IsAscii-drop text 1 ascii)))),
      omega (
        arith,
        length-drop 1 (drop (prefix_len (is_inside q) inner) inner),
        length-drop (prefix_len (is_inside q) inner) inner,
        ap length (rests ∙ back),
        ap length opens,
      ),
    )
    go (first.Bad (bad.OpenQuote at)) h = absurd h
    go (first.Bad (bad.StrayQuote at)) (more, is) =
        (word, behind, begins, subst (λ k. breaks k behind ≡ true) (sym quote) (stray_behind behind q more), is)
    go (first.Bad (bad.BadByte at)) h = absurd h
    go (first.Bad bad.TooLong) h = absurd h

pub open_first : (size q : ℕ) (text inner : List ℕ) (at : ℕ) → length text ≤ size → IsQuoted q text
    → inner ≡ drop 1 text → prefix_len (is_inside q) inner ≡ length inner → at ≡ size - length text
    → IsFirst size text (first.Bad (bad.OpenQuote at))
open_first size q text inner at within (quotes, (rest, parts)) is all from =
    let opens : text ≡ q ∷ inner = parts ∙ ap (λ xs. q ∷ xs) (sym (is ∙ ap (drop 1) parts)) in (
      [],
      inner,
      q,
      refl,
      quotes,
      all_pass (is_inside q) inner all,
      opens,
      subst (λ (xs : List ℕ). at + length xs ≡ size) opens (omega arith),
    )
