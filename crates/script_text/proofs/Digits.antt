-- Numbers as words, and what parsing says of them.
use Rattle.std.proofs.Common.{◌≡◌, ◌<◌, ◌≤◌, ◌^◌, ◌∙◌, ℕ, List, Bool, true, false, ◌&&◌, nat_lt, nat_le, if◌then◌else◌, None, Some, Result, Ok, Err, length, decimal, refl, sym, ap, arith}
use Rattle.std.specs.Result.{OkIff, result_ok}
use Rattle.std.specs.Str.{all_ascii_digits}
use Rattle.std.specs.Str.Parse.{ParsesUnsigned, digits_value}
use Rattle.std.proofs.lemmas.Bool.Decides.{nat_tests}
use Rattle.std.proofs.lemmas.Fmt.{digits_decimal, digits_value-decimal, decimal_nonempty, length-decimal-le}
use Rattle.std.proofs.lemmas.Str.Parse.{IsNumeralModel, numerals_by_value, tells_all_ascii_digits, parse_digits}
use Rattle.script_text.specs.Numbers.{number_of}

pub own : IsNumeralModel (λ ds. all_ascii_digits ds ≡ true) (digits_value 10)
own = numerals_by_value _ tells_all_ascii_digits

all_four : (a b c d : Bool) → a ≡ true → b ≡ true → c ≡ true → d ≡ true → (a && b && c && d) ≡ true
all_four a b c d p q r s = rw (p, q, r, s) refl

is_below : (a b : ℕ) → a < b → nat_lt a b ≡ true
is_below a b h = grind (arith, nat_tests)

is_at_most : (a b : ℕ) → a ≤ b → nat_le a b ≡ true
is_at_most a b h = grind (arith, nat_tests)

from_below : (a b : ℕ) → nat_lt a b ≡ true → a < b
from_below a b h = grind (arith, nat_tests)

from_at_most : (a b : ℕ) → nat_le a b ≡ true → a ≤ b
from_at_most a b h = grind (arith, nat_tests)

is_a_number : (word : List ℕ) → 0 < length word → length word ≤ 10 → all_ascii_digits word ≡ true → digits_value 10 word < 2 ^ 32 → number_of word ≡ Some (digits_value 10 word)
is_a_number word some few digits small =
    ap (λ b. if b then Some (digits_value 10 word) else None) (all_four _ _ _ _ (is_below 0 (length word) some) (is_at_most (length word) 10 few) digits (is_at_most (digits_value 10 word) 4294967295 (omega arith)))

first_or_last : (a b c d : Bool) → (a ≡ true → d ≡ true → ⊥) → (a && b && c && d) ≡ false
first_or_last false b c d h = refl
first_or_last true false c d h = refl
first_or_last true true false d h = refl
first_or_last true true true false h = refl
first_or_last true true true true h = absurd (h refl refl)

is_no_number : (word : List ℕ) → ((0 < length word) × (digits_value 10 word < 2 ^ 32) → ⊥) → number_of word ≡ None
is_no_number word h =
    ap (λ b. if b then Some (digits_value 10 word) else None) (first_or_last (nat_lt 0 (length word)) (nat_le (length word) 10) (all_ascii_digits word) (nat_le (digits_value 10 word) 4294967295)
    (λ p q. h (from_below 0 (length word) p, (let small : digits_value 10 word ≤ 4294967295 = from_at_most (digits_value 10 word) 4294967295 q in omega arith))))

by_result : {E : Type 0} (word : List ℕ) (r : Result ℕ E) → length word ≤ 10 → all_ascii_digits word ≡ true → OkIff r ((0 < length word) × (digits_value 10 word < 2 ^ 32)) (digits_value 10 word) → result_ok r ≡ number_of word
by_result word (Ok x) few digits h = ap Some h.1 ∙ sym (is_a_number word h.0.0 few digits h.0.1)
by_result word (Err e) few digits h = sym (is_no_number word h)

pub number_from_parse : {E : Type 0} (word : List ℕ) (r : Result ℕ E) → length word ≤ 10 → all_ascii_digits word ≡ true → ParsesUnsigned 32 10 word r → result_ok r ≡ number_of word
number_from_parse word r few digits h = by_result word r few digits (parse_digits own 32 word r h digits)

-- a printed number is read back
pub number-decimal : (n : ℕ) → n < 2 ^ 32 → number_of (decimal n) ≡ Some n
number-decimal n h =
    let small : n < 2 ^ 64 = omega arith in
    let value : digits_value 10 (decimal n) ≡ n = digits_value-decimal own n small in
    is_a_number (decimal n) (decimal_nonempty n small) (length-decimal-le 10 n (omega arith) (omega arith) small) (digits_decimal own n small) (omega arith) ∙ ap Some value
