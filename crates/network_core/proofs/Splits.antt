-- A text that ends in a slash and digits is split by its last slash.
use Rattle.std.proofs.Common.{◌≡◌, ℕ, suc, ◌+◌, ◌-◌, ◌<◌, ◌≤◌, ◌⊎◌, inl, inr, refl, sym, ap, subst, ◌∙◌, List, [], ◌∷◌, ◌++◌, length, get_or, take, drop, arith, append_assoc, length-append}
use Rattle.std.specs.Str.Parse.{AllDigits, IsNumeral}
use Rattle.std.specs.Int.{IsInRange}
use Rattle.std.proofs.lemmas.Bool.{cases_order}
use Rattle.std.proofs.lemmas.Str.Parse.{digit_at}
use Rattle.std.proofs.lemmas.List.{get_or-append-add, take-append-le, take_all, drop-append-le, drop_all}
use Rattle.network_core.specs.declared.address.Address.{Address}
use Rattle.network_core.specs.Address.{IsAddressText}
use Rattle.network_core.specs.Network.{IsNetworkText}

byte_at : (before digits : List ℕ) (k i : ℕ) → i ≡ length before + k → get_or (before ++ 47 ∷ digits) i 0 ≡ get_or (47 ∷ digits) k 0
byte_at before digits k i e = rw e (get_or-append-add before (47 ∷ digits) k 0)

length_of : (text before digits : List ℕ) → text ≡ before ++ 47 ∷ digits → length text ≡ length before + (length digits + 1)
length_of text before digits e = omega (arith, ap length e, length-append before (47 ∷ digits))

slash_at : (text before digits : List ℕ) → text ≡ before ++ 47 ∷ digits → get_or text (length before) 0 ≡ 47
slash_at text before digits e = rw e (byte_at before digits 0 (length before) (omega arith))

digit_behind : (text before digits : List ℕ) (i : ℕ) → text ≡ before ++ 47 ∷ digits → length before < i → get_or text i 0 ≡ get_or digits (i - (length before + 1)) 0
digit_behind text before digits i e l = rw e (byte_at before digits (suc (i - (length before + 1))) i (omega arith))

-- no slash behind a place
abbrev NoneBehind : List ℕ → ℕ → Type 0
NoneBehind text i = (k : ℕ) → i < k → k < length text → get_or text k 0 ≡ 47 → ⊥

place : (text before digits : List ℕ) (i : ℕ) → text ≡ before ++ 47 ∷ digits → AllDigits 10 digits → i < length text → get_or text i 0 ≡ 47 → NoneBehind text i → i ≡ length before
place text before digits i e all within is none =
    let len : length text ≡ length before + (length digits + 1) = length_of text before digits e in
    elim (cases_order i (length before)) [
      | inl same ↦ same
      | inr other ↦ elim other [
        | inl less ↦ absurd (none (length before) less (omega arith) (slash_at text before digits e))
        | inr more ↦
            let digit : get_or text i 0 ≡ get_or digits (i - (length before + 1)) 0 = digit_behind text before digits i e more in
            let range : IsInRange 48 57 (get_or digits (i - (length before + 1)) 0) = digit_at digits (i - (length before + 1)) all (omega arith) in
            absurd (omega (arith, range.0))
      ]
    ]

before_is : (text before digits : List ℕ) (i : ℕ) → text ≡ before ++ 47 ∷ digits → i ≡ length before → take i text ≡ before
before_is text before digits i e p = rw (e, p) (take-append-le (length before) before (47 ∷ digits) (omega arith) ∙ take_all (length before) before (omega arith))

digits_are : (text before digits : List ℕ) (i : ℕ) → text ≡ before ++ 47 ∷ digits → i ≡ length before → drop (i + 1) text ≡ digits
digits_are text before digits i e p =
    let joined : text ≡ (before ++ 47 ∷ []) ++ digits = e ∙ sym (append_assoc before (47 ∷ []) digits) in
    let len : length (before ++ 47 ∷ []) ≡ length before + 1 = length-append before (47 ∷ []) in
    let cut : drop (length before + 1) ((before ++ 47 ∷ []) ++ digits) ≡ drop (length before + 1) (before ++ 47 ∷ []) ++ digits = drop-append-le (length before + 1) (before ++ 47 ∷ []) digits (omega arith) in
    let nothing : drop (length before + 1) (before ++ 47 ∷ []) ≡ [] = drop_all (length before + 1) (before ++ 47 ∷ []) (omega arith) in
    rw (joined, p) (cut ∙ ap (λ xs. xs ++ digits) nothing)

-- what a network's text is where its last slash is known
pub record Split (text before digits : List ℕ) (i : ℕ) : Type 0 where
  pub before_is : take i text ≡ before
  pub digits_are : drop (i + 1) text ≡ digits

split : (text : List ℕ) (base : Address) (n i : ℕ) → i < length text → get_or text i 0 ≡ 47 → NoneBehind text i → (h : IsNetworkText text base n) → Split text h.before h.digits i
split text base n i within is none h =
    let at : i ≡ length h.before = place text h.before h.digits i h.spelled h.is_numeral.1 within is none in
    record { before_is = before_is text h.before h.digits i h.spelled at; digits_are = digits_are text h.before h.digits i h.spelled at }

pub without_slash : (text : List ℕ) → ((k : ℕ) → k < length text → get_or text k 0 ≡ 47 → ⊥) → (base : Address) (n : ℕ) → IsNetworkText text base n → ⊥
without_slash text none base n h =
    let len : length text ≡ length h.before + (length h.digits + 1) = length_of text h.before h.digits h.spelled in
    none (length h.before) (omega arith) (slash_at text h.before h.digits h.spelled)

pub without_length : (text digits : List ℕ) (i : ℕ) → ¬ (IsNumeral 10 digits) → digits ≡ drop (i + 1) text → i < length text → get_or text i 0 ≡ 47 → NoneBehind text i → (base : Address) (n : ℕ) → IsNetworkText text base n → ⊥
without_length text digits i other e within is none base n h =
    let parts : Split text h.before h.digits i = split text base n i within is none h in
    other (subst (IsNumeral 10) (sym (e ∙ parts.digits_are)) h.is_numeral)

pub without_address : (text before : List ℕ) (i : ℕ) → ((a : Address) → ¬ (IsAddressText before a)) → before ≡ take i text → i < length text → get_or text i 0 ≡ 47 → NoneBehind text i → (base : Address) (n : ℕ) → IsNetworkText text base n → ⊥
without_address text before i other e within is none base n h =
    let parts : Split text h.before h.digits i = split text base n i within is none h in
    other base (subst (λ t. IsAddressText t base) (sym (e ∙ parts.before_is)) h.is_address)
