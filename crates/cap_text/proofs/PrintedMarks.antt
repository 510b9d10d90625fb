-- A text written token by token is read as these tokens.
use Rattle.std.proofs.Common.{◌≡◌, ◌≢◌, ℕ, Bool, true, false, cond, not, List, [], ◌∷◌, ◌++◌, refl, sym, ap, ◌∙◌, arith, inl, inr, append_assoc}
use Rattle.std.specs.Prelude.{◌==◌, ◌&&◌, ◌||◌, ◌⊎◌}
use Rattle.std.specs.List.{list_all, list_any}
use Rattle.std.proofs.lemmas.Bool.Decides.{nat_tests}
use Rattle.common_types.specs.WordBytes.{is_word_byte}
use Rattle.cap_grants.specs.Bytes.{is_quote, is_quotable, StopsBefore, is_empty}
use Rattle.cap_text.specs.declared.token.Token.{Token}
use Rattle.cap_text.specs.declared.token.Token.TheVariants.{Comma, Semicolon, Equals, Star, Word, Quoted}
use Rattle.cap_text.specs.Reads.{Stands, SaysBehind, is_word, Reads}
use Rattle.cap_grants.specs.Spellable.{can_be_quoted}
use Rattle.cap_text.specs.Printed.{quote_for, quoted}
use Rattle.cap_text.proofs.SpelledValues.{and_both, or_cases, both_and, all_each, is_written}

-- a token, and whether a space stands before it
abbrev pub Mark : Type 0
Mark = Bool × Token

abbrev pub bytes_of : Token → List ℕ
bytes_of Comma = 44 ∷ []
bytes_of Semicolon = 59 ∷ []
bytes_of Equals = 61 ∷ []
bytes_of (Star behind) = 42 ∷ []
bytes_of (Word w) = w
bytes_of (Quoted q) = quoted q

abbrev pub text_of : List Mark → List ℕ
text_of [] = []
text_of ((true, t) ∷ ms) = 32 ∷ (bytes_of t ++ text_of ms)
text_of ((false, t) ∷ ms) = bytes_of t ++ text_of ms

abbrev pub tokens_of : List Mark → List Token
tokens_of [] = []
tokens_of ((space, t) ∷ ms) = t ∷ tokens_of ms

-- directly behind a word stands no word, and a star says whether it stands directly behind one
abbrev pub IsApart : Bool → Bool → Token → Type 0
IsApart behind space (Star says) = says ≡ (behind && not space)
IsApart behind space (Word w) = (behind && not space) ≡ false
IsApart behind space t = Unit {0}

-- behind: a word ends where they begin
abbrev pub Fits : Bool → List Mark → Type 0
Fits behind [] = Unit {0}
Fits behind ((space, t) ∷ ms) = (is_written t ≡ true) × IsApart behind space t × Fits (is_word t) ms

-- the marks may stand behind anything
abbrev pub Free : List Mark → Type 0
Free ms = (behind : Bool) → Fits behind ms

-- ---- quotes

not_quotable : (b : ℕ) → (b == 34) ≡ true → is_quotable 34 b ≡ false
not_quotable b h = grind (arith, nat_tests)

still_quotable : (b : ℕ) → (b == 34) ≡ false → is_quotable 39 b ≡ true → is_quotable 34 b ≡ true
still_quotable b h k = grind (arith, nat_tests)

nowhere : (q : List ℕ) → list_any (λ b. b == 34) q ≡ true → list_all (is_quotable 34) q ≡ true → ⊥
nowhere [] e k = let f : false ≡ true = e in cc
nowhere (b ∷ bs) e k =
    let both = and_both (is_quotable 34 b) (list_all (is_quotable 34) bs) k in
    cases (or_cases (b == 34) (list_any (λ c. c == 34) bs) e) both.0 (λ h. nowhere bs h both.1) where
      cases : ((b == 34) ≡ true) ⊎ (list_any (λ c. c == 34) bs ≡ true) → is_quotable 34 b ≡ true → (list_any (λ c. c == 34) bs ≡ true → ⊥) → ⊥
      cases (inl h) one more = let f : false ≡ true = sym (not_quotable b h) ∙ one in cc
      cases (inr h) one more = more h

all_quotable : (q : List ℕ) → list_any (λ b. b == 34) q ≡ false → list_all (is_quotable 39) q ≡ true → list_all (is_quotable 34) q ≡ true
all_quotable [] h k = refl
all_quotable (b ∷ bs) h k =
    let both = and_both (is_quotable 39 b) (list_all (is_quotable 39) bs) k in
    let apart = neither (b == 34) (list_any (λ c. c == 34) bs) h in
    both_and (is_quotable 34 b) (list_all (is_quotable 34) bs) (still_quotable b apart.0 both.0) (all_quotable bs apart.1 both.1) where
      neither : (x y : Bool) → (x || y) ≡ false → (x ≡ false) × (y ≡ false)
      neither true y e = absurd (let f : true ≡ false = e in cc)
      neither false y e = (refl, e)

fits_quotes : (q : List ℕ) → can_be_quoted q ≡ true → list_all (is_quotable (quote_for q)) q ≡ true
fits_quotes q h =
    elim (list_any (λ b. b == 34) q) as (λ v. list_any (λ b. b == 34) q ≡ v → list_all (is_quotable (cond v 39 34)) q ≡ true) [
      | true ↦ λ e. double e (or_cases (list_all (is_quotable 34) q) (list_all (is_quotable 39) q) h)
      | false ↦ λ e. single e (or_cases (list_all (is_quotable 34) q) (list_all (is_quotable 39) q) h)
    ] refl where
      double : list_any (λ b. b == 34) q ≡ true → (list_all (is_quotable 34) q ≡ true) ⊎ (list_all (is_quotable 39) q ≡ true) → list_all (is_quotable 39) q ≡ true
      double e (inl k) = absurd (nowhere q e k)
      double e (inr k) = k

      single : list_any (λ b. b == 34) q ≡ false → (list_all (is_quotable 34) q ≡ true) ⊎ (list_all (is_quotable 39) q ≡ true) → list_all (is_quotable 34) q ≡ true
      single e (inl k) = k
      single e (inr k) = all_quotable q e k

quote_is_mark : (q : List ℕ) → is_quote (quote_for q) ≡ true
quote_is_mark q = elim (list_any (λ b. b == 34) q) as (λ v. is_quote (cond v 39 34) ≡ true) [ true ↦ refl | false ↦ refl ]

quote_is_no_word : (q : List ℕ) → is_word_byte (quote_for q) ≡ false
quote_is_no_word q = elim (list_any (λ b. b == 34) q) as (λ v. is_word_byte (cond v 39 34) ≡ false) [ true ↦ refl | false ↦ refl ]

-- ---- reading the marks

word_stops : (ms : List Mark) → Fits true ms → StopsBefore is_word_byte (text_of ms)
word_stops [] h = tt
word_stops ((true, t) ∷ ms) h = refl
word_stops ((false, Comma) ∷ ms) h = refl
word_stops ((false, Semicolon) ∷ ms) h = refl
word_stops ((false, Equals) ∷ ms) h = refl
word_stops ((false, Star b) ∷ ms) h = refl
word_stops ((false, Word w) ∷ ms) h = absurd (let f : true ≡ false = h.1 in cc)
word_stops ((false, Quoted q) ∷ ms) h = quote_is_no_word q

some_byte : (w : List ℕ) → not (is_empty w) ≡ true → w ≢ []
some_byte [] h = λ e. let f : false ≡ true = h in cc
some_byte (b ∷ bs) h = λ e. cc

token_stands : (t : Token) (ms : List Mark) → is_written t ≡ true → Fits (is_word t) ms → Stands t (bytes_of t ++ text_of ms) (text_of ms)
token_stands Comma ms w h = refl
token_stands Semicolon ms w h = refl
token_stands Equals ms w h = refl
token_stands (Star b) ms w h = refl
token_stands (Word v) ms w h =
    let both = and_both (not (is_empty v)) (list_all is_word_byte v) w in
    (refl, some_byte v both.0, all_each is_word_byte v both.1, word_stops ms h)
token_stands (Quoted q) ms w h =
    let quote = quote_for q in
    (quote, quote_is_mark q, ap (λ x. quote ∷ x) (append_assoc q (quote ∷ []) (text_of ms)), all_each (is_quotable quote) q (fits_quotes q w))

says_behind : (behind space : Bool) (t : Token) → IsApart behind space t → SaysBehind (behind && not space) t
says_behind behind space Comma h = tt
says_behind behind space Semicolon h = tt
says_behind behind space Equals h = tt
says_behind behind space (Star says) h = h
says_behind behind space (Word w) h = tt
says_behind behind space (Quoted q) h = tt

pub marks_read : (behind : Bool) (ms : List Mark) → Fits behind ms → Reads behind (text_of ms) (tokens_of ms) []
marks_read behind [] h = refl
marks_read behind ((true, t) ∷ ms) h =
    (text_of ms, (32 ∷ [], bytes_of t ++ text_of ms, (refl, tt), refl, token_stands t ms h.0 h.2, says_behind behind true t h.1), marks_read (is_word t) ms h.2)
marks_read behind ((false, t) ∷ ms) h =
    (text_of ms, ([], bytes_of t ++ text_of ms, tt, refl, token_stands t ms h.0 h.2, says_behind behind false t h.1), marks_read (is_word t) ms h.2)

-- ---- marks that may stand anywhere

-- the token says of no word directly before it
abbrev pub IsCalm : Token → Type 0
IsCalm (Star says) = says ≡ false
IsCalm t = Unit {0}

spaced_apart : (behind : Bool) (t : Token) → IsCalm t → IsApart behind true t
spaced_apart behind Comma c = tt
spaced_apart behind Semicolon c = tt
spaced_apart behind Equals c = tt
spaced_apart true (Star says) c = c
spaced_apart false (Star says) c = c
spaced_apart true (Word w) c = refl
spaced_apart false (Word w) c = refl
spaced_apart behind (Quoted q) c = tt

-- behind a space
pub spaced_free : (t : Token) (ms : List Mark) → is_written t ≡ true → IsCalm t → Fits (is_word t) ms → Free ((true, t) ∷ ms)
spaced_free t ms w calm h = λ behind. (w, spaced_apart behind t calm, h)

calm_apart : (t : Token) → IsCalm t → IsApart false false t
calm_apart Comma c = tt
calm_apart Semicolon c = tt
calm_apart Equals c = tt
calm_apart (Star says) c = c
calm_apart (Word w) c = refl
calm_apart (Quoted q) c = tt

-- not behind a word
pub first_fits : (t : Token) (ms : List Mark) → is_written t ≡ true → IsCalm t → Fits (is_word t) ms → Fits false ((false, t) ∷ ms)
first_fits t ms w calm h = (w, calm_apart t calm, h)
