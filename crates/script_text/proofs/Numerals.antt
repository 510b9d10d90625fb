-- Counts by their decimal digits, the lowest first.
use Prim.Native.Nat.{zero, suc}
use Rattle.std.proofs.Common.{◌≡◌, ◌∙◌, ℕ, ◌+◌, ◌-◌, ◌*◌, ◌/◌, ◌%◌, ◌^◌, ◌<◌, ◌≤◌, ◌==◌, ◌&&◌, List, [], ◌∷◌, ◌++◌, Bool, true, false, nat_lt, if◌then◌else◌, length, take, drop, set, get_or, drop-cons, append_assoc, refl, sym, ap, subst, arith, decimal}
use Rattle.std.specs.List.{list_all}
use Rattle.std.proofs.lemmas.Bool.Decides.{nat_tests}
use Rattle.std.proofs.lemmas.Fmt.{AppendsLastDigit, decimal_from_appends_wide, length-decimal-le_wide}
use Rattle.script_text.specs.Text.{numeral_within, numeral}
use Rattle.script_text.specs.Inside.{count_of, AreDigits, IsCount, is_nine, with_room, one_more, digits_text}

-- ---- the numeral

below : (a b : ℕ) → a < b → nat_lt a b ≡ true
below a b h = grind (arith, nat_tests)

above : (a b : ℕ) → b ≤ a → nat_lt a b ≡ false
above a b h = grind (arith, nat_tests)

one_digit : (most n : ℕ) → n < 10 → numeral_within (suc most) n ≡ (48 + n) ∷ []
one_digit most n h = ap (λ b. if b then (48 + n) ∷ [] else numeral_within most (n / 10) ++ (48 + n % 10) ∷ []) (below n 10 h)

more_digits : (most n : ℕ) → 10 ≤ n → numeral_within (suc most) n ≡ numeral_within most (n / 10) ++ (48 + n % 10) ∷ []
more_digits most n h = ap (λ b. if b then (48 + n) ∷ [] else numeral_within most (n / 10) ++ (48 + n % 10) ∷ []) (above n 10 h)

-- how many digits there may be does not matter where it is more than the number
enough : (j k n : ℕ) → n < j → n < k → numeral_within j n ≡ numeral_within k n
enough zero k n p q = absurd (omega arith)
enough (suc j) zero n p q = absurd (omega arith)
enough (suc j) (suc k) n p q = go (nat_lt n 10) refl (λ h. enough j k (n / 10) (omega arith) (omega arith))
  where
    go : (b : Bool) → nat_lt n 10 ≡ b → (10 ≤ n → numeral_within j (n / 10) ≡ numeral_within k (n / 10)) → numeral_within (suc j) n ≡ numeral_within (suc k) n
    go true e rest = let low : n < 10 = grind (arith, nat_tests) in one_digit j n low ∙ sym (one_digit k n low)
    go false e rest =
        let high : 10 ≤ n = grind (arith, nat_tests) in
        more_digits j n high ∙ ap (λ t. t ++ (48 + n % 10) ∷ []) (rest high) ∙ sym (more_digits k n high)

-- a digit behind a number that is not 0
numeral_next : (d v : ℕ) → d < 10 → 0 < v → numeral (d + 10 * v) ≡ numeral v ++ (48 + d) ∷ []
numeral_next d v small some =
    let n : ℕ = d + 10 * v in
    let front : n / 10 ≡ v = omega arith in
    let last : n % 10 ≡ d = omega arith in
    more_digits n n (omega arith) ∙ ap (λ k. numeral_within n k ++ (48 + n % 10) ∷ []) front ∙ ap (λ t. t ++ (48 + n % 10) ∷ []) (enough n (suc v) v (omega arith) (omega arith))
    ∙ ap (λ k. numeral v ++ (48 + k) ∷ []) last

-- ---- the printed digits

printed : (d : ℕ) (ds : List ℕ) → IsCount (d ∷ ds) → digits_text (d ∷ ds) ≡ numeral (count_of (d ∷ ds))
printed d [] h =
    let same : d ≡ d + 10 * 0 = omega arith in
    sym (one_digit d d h.0) ∙ ap numeral same
printed d (e ∷ es) h = ap (λ t. t ++ (48 + d) ∷ []) (printed e es h.2) ∙ sym (numeral_next d (count_of (e ∷ es)) h.0 h.2.1)

pub printed_count : (ds : List ℕ) (n : ℕ) → IsCount ds → 0 < length ds → count_of ds ≡ n → digits_text ds ≡ numeral n
printed_count [] n h some is = absurd (omega arith)
printed_count (d ∷ ds) n h some is = printed d ds h ∙ ap numeral is

pub are_digits : (ds : List ℕ) → IsCount ds → AreDigits ds
are_digits [] h = tt
are_digits (d ∷ ds) h = (h.0, are_digits ds h.2)

pub digit_at : (ds : List ℕ) (place d : ℕ) → AreDigits ds → place < length ds → get_or ds place d < 10
digit_at [] place d h low = absurd (omega arith)
digit_at (x ∷ xs) zero d h low = h.0
digit_at (x ∷ xs) (suc place) d h low = digit_at xs place d h.1 (omega arith)

-- one digit further to the front
digits_before : (ds : List ℕ) (place d : ℕ) → place < length ds → digits_text (drop place ds) ≡ digits_text (drop (place + 1) ds) ++ (48 + get_or ds place d) ∷ []
digits_before ds place d low =
    let next : suc place ≡ place + 1 = omega arith in
    ap digits_text (drop-cons ds place d low) ∙ ap (λ k. digits_text (drop k ds) ++ (48 + get_or ds place d) ∷ []) next

-- the digits behind the first `left` were printed, and one more is
pub printed_next : (old now next : List ℕ) (ds : List ℕ) (left d : ℕ) → 0 < left → left ≤ length ds → now ≡ old ++ digits_text (drop left ds) → next ≡ now ++ (48 + get_or ds (left - 1) d) ∷ []
    → next ≡ old ++ digits_text (drop (left - 1) ds)
printed_next old now next ds left d some low is more =
    let back : left - 1 + 1 ≡ left = omega arith in
    more ∙ ap (λ t. t ++ (48 + get_or ds (left - 1) d) ∷ []) is ∙ append_assoc old (digits_text (drop left ds)) ((48 + get_or ds (left - 1) d) ∷ [])
    ∙ ap (λ t. old ++ t) (sym (digits_before ds (left - 1) d (omega arith) ∙ ap (λ k. digits_text (drop k ds) ++ (48 + get_or ds (left - 1) d) ∷ []) back))

-- ---- one more

adds_one : (ds : List ℕ) → IsCount ds → list_all is_nine ds ≡ false → (count_of (one_more ds) ≡ count_of ds + 1) × IsCount (one_more ds)
adds_one [] h none = absurd (cc)
adds_one (d ∷ ds) h none = go (nat_lt d 9) refl (λ rest. adds_one ds h.2 rest)
  where
    Adds : List ℕ → Type 0
    Adds l = (count_of l ≡ count_of (d ∷ ds) + 1) × IsCount l

    go : (b : Bool) → nat_lt d 9 ≡ b → (list_all is_nine ds ≡ false → (count_of (one_more ds) ≡ count_of ds + 1) × IsCount (one_more ds)) → Adds (if b then (d + 1) ∷ ds else 0 ∷ one_more ds)
    go true e others = let low : d < 9 = grind (arith, nat_tests) in (omega arith, (omega arith, omega arith, h.2))
    go false e others =
        let nine : d ≡ 9 = (let high : 9 ≤ d = grind (arith, nat_tests) in omega (arith, h.0)) in
        let rest : list_all is_nine ds ≡ false = subst (λ k. list_all is_nine (k ∷ ds) ≡ false) nine none in
        let more = others rest in
        (omega (arith, more.0), (omega arith, omega (arith, more.0), more.1))

-- where all are nines, behind a new digit
adds_a_digit : (ds : List ℕ) → list_all is_nine ds ≡ true → (count_of (one_more (ds ++ 0 ∷ [])) ≡ count_of ds + 1) × IsCount (one_more (ds ++ 0 ∷ []))
adds_a_digit [] all = (refl, (omega arith, omega arith, tt))
adds_a_digit (d ∷ ds) all = go (d == 9) refl all (λ rest. adds_a_digit ds rest)
  where
    go : (b : Bool) → (d == 9) ≡ b → list_all is_nine (d ∷ ds) ≡ true → (list_all is_nine ds ≡ true → (count_of (one_more (ds ++ 0 ∷ [])) ≡ count_of ds + 1) × IsCount (one_more (ds ++ 0 ∷ []))) → (count_of (one_more (d ∷ ds ++ 0 ∷ [])) ≡ count_of (d ∷ ds) + 1) × IsCount (one_more (d ∷ ds ++ 0 ∷ []))
    go false e all others = absurd (let no : false ≡ true = sym (ap (λ b. b && list_all is_nine ds) e) ∙ all in cc)
    go true e all others =
        let nine : d ≡ 9 = grind (arith, nat_tests) in
        let rest : list_all is_nine ds ≡ true = sym (ap (λ b. b && list_all is_nine ds) e) ∙ all in
        let more = others rest in
        subst (λ k. (count_of (one_more (k ∷ ds ++ 0 ∷ [])) ≡ count_of (k ∷ ds) + 1) × IsCount (one_more (k ∷ ds ++ 0 ∷ []))) (sym nine) (omega (arith, more.0), (omega arith, omega (arith, more.0), more.1))

pub adds : (ds : List ℕ) → IsCount ds → (count_of (one_more (with_room ds)) ≡ count_of ds + 1) × IsCount (one_more (with_room ds))
adds ds h = go (list_all is_nine ds) refl
  where
    go : (b : Bool) → list_all is_nine ds ≡ b → (count_of (one_more (if b then ds ++ 0 ∷ [] else ds)) ≡ count_of ds + 1) × IsCount (one_more (if b then ds ++ 0 ∷ [] else ds))
    go true e = adds_a_digit ds e
    go false e = adds_one ds h e

-- ---- the carry, from one digit to the next

pub carried : (before ds : List ℕ) (place d : ℕ) → one_more before ≡ take place ds ++ one_more (drop place ds) → place < length ds → nat_lt (get_or ds place d) 9 ≡ false
    → one_more before ≡ take (place + 1) (set ds place 0) ++ one_more (drop (place + 1) (set ds place 0))
carried before ds place d is low nine =
    let next : suc place ≡ place + 1 = omega arith in
    is ∙ go ds place low nine ∙ ap (λ k. take k (set ds place 0) ++ one_more (drop k (set ds place 0))) next
  where
    go : (ds : List ℕ) (place : ℕ) → place < length ds → nat_lt (get_or ds place d) 9 ≡ false
        → take place ds ++ one_more (drop place ds) ≡ take (suc place) (set ds place 0) ++ one_more (drop (suc place) (set ds place 0))
    go [] place low nine = absurd (omega arith)
    go (x ∷ xs) zero low nine = ap (λ b. if b then (x + 1) ∷ xs else 0 ∷ one_more xs) nine
    go (x ∷ xs) (suc place) low nine = ap (λ l. x ∷ l) (go xs place (omega arith) nine)

pub carry_ends : (before ds : List ℕ) (place d : ℕ) → one_more before ≡ take place ds ++ one_more (drop place ds) → place < length ds → nat_lt (get_or ds place d) 9 ≡ true
    → set ds place (get_or ds place d + 1) ≡ one_more before
carry_ends before ds place d is low small = go ds place low small ∙ sym is
  where
    go : (ds : List ℕ) (place : ℕ) → place < length ds → nat_lt (get_or ds place d) 9 ≡ true → set ds place (get_or ds place d + 1) ≡ take place ds ++ one_more (drop place ds)
    go [] place low small = absurd (omega arith)
    go (x ∷ xs) zero low small = sym (ap (λ b. if b then (x + 1) ∷ xs else 0 ∷ one_more xs) small)
    go (x ∷ xs) (suc place) low small = ap (λ l. x ∷ l) (go xs place (omega arith) small)

-- ---- below 10^64

appends : AppendsLastDigit numeral_within
appends = record { one = one_digit; more = more_digits }

power_above : (n : ℕ) → n < 10 ^ suc n
power_above zero = omega arith
power_above (suc n) = omega (arith, power_above n)

pub numerals_are_decimal : (n : ℕ) → n < 10 ^ 64 → numeral n ≡ decimal n
numerals_are_decimal n small = decimal_from_appends_wide numeral_within appends (suc n) n small (length-decimal-le_wide (suc n) n (omega arith) (power_above n) small)
