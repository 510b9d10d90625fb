-- Where a run of bytes ends a text may be cut.
use Rattle.std.proofs.Common.{◌≡◌, ℕ, suc, ◌+◌, ◌<◌, ◌≤◌, Bool, true, false, List, [], ◌∷◌, length, get_or, refl, sym, subst, ◌∙◌, arith, zero, IsUtf8, inl, inr}
use Rattle.std.specs.List.{prefix_len}
use Rattle.std.proofs.lemmas.List.Sums.{prefix_len_passes, prefix_len_stops, prefix_len-le-length}
use Rattle.std.proofs.lemmas.Bool.{cases_lt}
use Rattle.std.specs.Str.{IsCharBoundary}
use Rattle.std.proofs.lemmas.Str.{IsCharBoundary-start, IsCharBoundary-after_ascii, IsCharBoundary-before_ascii, IsCharBoundary-end}
use Rattle.std.proofs.lemmas.Bool.Decides.{nat_tests}
use Rattle.ceph_text.specs.Grammar.{is_space, is_blank, is_inside, is_network_byte}
use Rattle.common_types.specs.WordBytes.{is_word_byte}

boundary : (text : List ℕ) (n : ℕ) → IsUtf8 text → n ≤ length text → ((k : ℕ) → k < n → get_or text k 0 < 128) → IsCharBoundary text n
boundary text zero utf8 within ascii = IsCharBoundary-start text utf8
boundary text (suc n) utf8 within ascii =
    let P : ℕ → Type 0 = λ i. IsCharBoundary text i in
    let e : n + 1 ≡ suc n = omega arith in
    subst P e (IsCharBoundary-after_ascii text n utf8 (omega arith) (ascii n (omega arith)))

-- behind a run of ASCII
ascii_run : (p : ℕ → Bool) → ((b : ℕ) → p b ≡ true → b < 128) → (text bytes : List ℕ) (n : ℕ) → IsUtf8 text → bytes ≡ text → n ≡ prefix_len p bytes → IsCharBoundary text n
ascii_run p ascii text bytes n utf8 same len =
    let P : List ℕ → Type 0 = λ b. n ≡ prefix_len p b in
    let e : n ≡ prefix_len p text = subst P same len in
    boundary text n utf8 (omega (arith, prefix_len-le-length p text)) (λ k lt. ascii (get_or text k 0) (prefix_len_passes p text k 0 (omega arith)))

space_is_ascii : (b : ℕ) → is_space b ≡ true → b < 128
space_is_ascii b h = grind (arith, nat_tests)

blank_is_ascii : (b : ℕ) → is_blank b ≡ true → b < 128
blank_is_ascii b h = grind (arith, nat_tests)

word_byte_is_ascii : (b : ℕ) → is_word_byte b ≡ true → b < 128
word_byte_is_ascii b h = grind (arith, nat_tests)

network_byte_is_ascii : (b : ℕ) → is_network_byte b ≡ true → b < 128
network_byte_is_ascii b h = grind (arith, nat_tests)

pub behind_spaces : (text bytes : List ℕ) (n : ℕ) → IsUtf8 text → bytes ≡ text → n ≡ prefix_len is_space bytes → IsCharBoundary text n
behind_spaces = ascii_run is_space space_is_ascii

pub behind_blanks : (text bytes : List ℕ) (n : ℕ) → IsUtf8 text → bytes ≡ text → n ≡ prefix_len is_blank bytes → IsCharBoundary text n
behind_blanks = ascii_run is_blank blank_is_ascii

pub behind_word : (text bytes : List ℕ) (n : ℕ) → IsUtf8 text → bytes ≡ text → n ≡ prefix_len is_word_byte bytes → IsCharBoundary text n
behind_word = ascii_run is_word_byte word_byte_is_ascii

pub behind_network : (text bytes : List ℕ) (n : ℕ) → IsUtf8 text → bytes ≡ text → n ≡ prefix_len is_network_byte bytes → IsCharBoundary text n
behind_network = ascii_run is_network_byte network_byte_is_ascii

quote_is_ascii : (quote b : ℕ) → quote < 128 → is_inside quote b ≡ false → b < 128
quote_is_ascii quote b small h = grind (arith, nat_tests)

-- what ends a quoted run is a quote or NUL, or the text ends
pub behind_inside : (quote : ℕ) (text bytes : List ℕ) (n : ℕ) → quote < 128 → bytes ≡ text → n ≡ prefix_len (is_inside quote) bytes → IsCharBoundary text n
behind_inside quote text bytes n small same len =
    let p : ℕ → Bool = is_inside quote in
    let P : List ℕ → Type 0 = λ b. n ≡ prefix_len (is_inside quote) b in
    let e : n ≡ prefix_len (is_inside quote) text = subst P same len in
    let Q : ℕ → Type 0 = λ i. IsCharBoundary text i in
    elim (cases_lt (prefix_len (is_inside quote) text) (length text)) [
      | inl lt ↦ subst Q (sym e) (IsCharBoundary-before_ascii text (prefix_len (is_inside quote) text) lt (quote_is_ascii quote _ small (prefix_len_stops (is_inside quote) text 0 lt)))
      | inr ge ↦ let at_end : length text ≡ n = omega (arith, prefix_len-le-length (is_inside quote) text) in subst Q at_end (IsCharBoundary-end text)
    ]
