-- Bytes, values and namespaces that tokens can spell.
use Rattle.std.proofs.Common.{◌≡◌, ◌≢◌, ℕ, Bool, true, false, cond, not, List, [], ◌∷◌, ◌++◌, refl, ap, subst, arith, Option, Some, None, inl, inr}
use Rattle.std.specs.Prelude.{◌==◌, ◌&&◌, ◌||◌, ◌⊎◌}
use Rattle.std.specs.List.{list_all}
use Rattle.std.proofs.lemmas.Bool.{eqb-true}
use Rattle.std.proofs.lemmas.Bool.Decides.{nat_tests}
use Rattle.common_types.specs.WordBytes.{is_word_byte}
use Rattle.cap_grants.specs.Bytes.{is_quote, is_quotable, Each, is_empty}
use Rattle.cap_text.specs.declared.token.Token.{Token}
use Rattle.cap_text.specs.declared.token.Token.TheVariants.{Comma, Semicolon, Equals, Star, Word, Quoted}
use Rattle.cap_text.specs.Reads.{Stands, is_word, Reads}
use Rattle.cap_text.specs.Grammar.{before_star}
use Rattle.cap_grants.specs.Spellable.{can_be_quoted, is_value, ends_in_star}

pub and_both : (a b : Bool) → (a && b) ≡ true → (a ≡ true) × (b ≡ true)
and_both true b h = (refl, h)
and_both false b h = absurd cc

pub both_and : (a b : Bool) → a ≡ true → b ≡ true → (a && b) ≡ true
both_and true b h k = k
both_and false b h k = h

pub or_cases : (a b : Bool) → (a || b) ≡ true → (a ≡ true) ⊎ (b ≡ true)
or_cases true b h = inl refl
or_cases false b h = inr h

pub or_first : (a b : Bool) → a ≡ true → (a || b) ≡ true
or_first true b h = refl
or_first false b h = absurd cc

pub or_second : (a b : Bool) → b ≡ true → (a || b) ≡ true
or_second true b h = refl
or_second false b h = h

pub not_false : (a : Bool) → not a ≡ true → a ≡ false
not_false true h = absurd cc
not_false false h = refl

-- the token is one that can stand in a text
abbrev pub is_written : Token → Bool
is_written (Word w) = not (is_empty w) && list_all is_word_byte w
is_written (Quoted q) = can_be_quoted q
is_written t = true

abbrev pub AllWritten : List Token → Type 0
AllWritten [] = Unit {0}
AllWritten (t ∷ ts) = (is_written t ≡ true) × AllWritten ts

pub each_all : (p : ℕ → Bool) (bs : List ℕ) → Each p bs → list_all p bs ≡ true
each_all p [] h = refl
each_all p (b ∷ bs) h = both_and (p b) (list_all p bs) h.0 (each_all p bs h.1)

pub all_each : (p : ℕ → Bool) (bs : List ℕ) → list_all p bs ≡ true → Each p bs
all_each p [] h = tt
all_each p (b ∷ bs) h = let both = and_both (p b) (list_all p bs) h in (both.0, all_each p bs both.1)

pub all_weaker : (p q : ℕ → Bool) → ((b : ℕ) → p b ≡ true → q b ≡ true) → (bs : List ℕ) → list_all p bs ≡ true → list_all q bs ≡ true
all_weaker p q weaker [] h = refl
all_weaker p q weaker (b ∷ bs) h =
    let both = and_both (p b) (list_all p bs) h in
    both_and (q b) (list_all q bs) (weaker b both.0) (all_weaker p q weaker bs both.1)

pub all_front : (p : ℕ → Bool) (front back : List ℕ) → list_all p (front ++ back) ≡ true → list_all p front ≡ true
all_front p [] back h = refl
all_front p (b ∷ bs) back h =
    let both = and_both (p b) (list_all p (bs ++ back)) h in
    both_and (p b) (list_all p bs) both.0 (all_front p bs back both.1)

pub all_joined : (p : ℕ → Bool) (front back : List ℕ) → list_all p front ≡ true → list_all p back ≡ true → list_all p (front ++ back) ≡ true
all_joined p [] back h k = k
all_joined p (b ∷ bs) back h k =
    let both = and_both (p b) (list_all p bs) h in
    both_and (p b) (list_all p (bs ++ back)) both.0 (all_joined p bs back both.1 k)

word_byte_is_quotable : (b : ℕ) → is_word_byte b ≡ true → is_quotable 34 b ≡ true
word_byte_is_quotable b h = grind (arith, nat_tests)

pub word_can_be_quoted : (w : List ℕ) → list_all is_word_byte w ≡ true → can_be_quoted w ≡ true
word_can_be_quoted w h = or_first (list_all (is_quotable 34) w) (list_all (is_quotable 39) w) (all_weaker is_word_byte (is_quotable 34) word_byte_is_quotable w h)

within_quotes : (quote : ℕ) (q : List ℕ) → is_quote quote ≡ true → Each (is_quotable quote) q → can_be_quoted q ≡ true
within_quotes quote q mark each = cases (or_cases (quote == 39) (quote == 34) mark) where
  cases : ((quote == 39) ≡ true) ⊎ ((quote == 34) ≡ true) → can_be_quoted q ≡ true
  cases (inl e) =
      let P : ℕ → Type 0 = λ m. Each (is_quotable m) q in
      or_second (list_all (is_quotable 34) q) (list_all (is_quotable 39) q) (each_all (is_quotable 39) q (subst P (eqb-true quote 39 e) each))
  cases (inr e) =
      let P : ℕ → Type 0 = λ m. Each (is_quotable m) q in
      or_first (list_all (is_quotable 34) q) (list_all (is_quotable 39) q) (each_all (is_quotable 34) q (subst P (eqb-true quote 34 e) each))

some_bytes : (w : List ℕ) → w ≢ [] → not (is_empty w) ≡ true
some_bytes [] some = absurd (some refl)
some_bytes (b ∷ bs) some = refl

-- what stands in a text can be written
pub stands_written : (t : Token) (s after : List ℕ) → Stands t s after → is_written t ≡ true
stands_written Comma s after h = refl
stands_written Semicolon s after h = refl
stands_written Equals s after h = refl
stands_written (Star b) s after h = refl
stands_written (Word w) s after h = both_and (not (is_empty w)) (list_all is_word_byte w) (some_bytes w h.1) (each_all is_word_byte w h.2)
stands_written (Quoted q) s after h = within_quotes h.0 q h.1 h.3

pub reads_written : (behind : Bool) (text : List ℕ) (ts : List Token) (rest : List ℕ) → Reads behind text ts rest → AllWritten ts
reads_written behind text [] rest h = tt
reads_written behind text (t ∷ ts) rest h = (stands_written t h.1.1 h.0 h.1.4, reads_written (is_word t) h.0 ts rest h.2)

-- ---- values

pub word_is_value : (w : List ℕ) → is_written (Word w) ≡ true → is_value w ≡ true
word_is_value w h =
    let both = and_both (not (is_empty w)) (list_all is_word_byte w) h in
    both_and (not (is_empty w)) (can_be_quoted w) both.0 (word_can_be_quoted w both.1)

pub quoted_is_value : (q : List ℕ) → q ≢ [] → is_written (Quoted q) ≡ true → is_value q ≡ true
quoted_is_value q some h = both_and (not (is_empty q)) (can_be_quoted q) (some_bytes q some) h

-- ---- stars at the end

-- the one that ends in a star, or what stands before it
pub star_cases : (q : List ℕ) → ((before_star q ≡ None) × (ends_in_star q ≡ false)) ⊎ ((front : List ℕ) × (before_star q ≡ Some front) × (q ≡ front ++ 42 ∷ []))
star_cases [] = inl (refl, refl)
star_cases (b ∷ []) =
    elim (b == 42) as (λ v. (b == 42) ≡ v → ((cond {A = Option (List ℕ)} v (Some []) None ≡ None) × (v ≡ false)) ⊎ ((front : List ℕ) × (cond {A = Option (List ℕ)} v (Some []) None ≡ Some front) × (b ∷ [] ≡ front ++ 42 ∷ []))) [
      | true ↦ λ e. inr ([], refl, ap (λ x. x ∷ []) (eqb-true b 42 e))
      | false ↦ λ e. inl (refl, refl)
    ] refl
star_cases (b ∷ c ∷ bs) = cases (star_cases (c ∷ bs)) where
  cases : ((before_star (c ∷ bs) ≡ None) × (ends_in_star (c ∷ bs) ≡ false)) ⊎ ((front : List ℕ) × (before_star (c ∷ bs) ≡ Some front) × (c ∷ bs ≡ front ++ 42 ∷ []))
      → ((before_star (b ∷ c ∷ bs) ≡ None) × (ends_in_star (b ∷ c ∷ bs) ≡ false)) ⊎ ((front : List ℕ) × (before_star (b ∷ c ∷ bs) ≡ Some front) × (b ∷ c ∷ bs ≡ front ++ 42 ∷ []))
  cases (inl h) = inl (rw h.0 refl, h.1)
  cases (inr h) = inr (b ∷ h.0, rw h.1 refl, ap (λ x. b ∷ x) h.2)

pub star_behind : (front : List ℕ) → before_star (front ++ 42 ∷ []) ≡ Some front
star_behind [] = refl
star_behind (b ∷ []) = refl
star_behind (b ∷ c ∷ bs) = rw (star_behind (c ∷ bs)) refl

pub no_star_none : (q : List ℕ) → ends_in_star q ≡ false → before_star q ≡ None
no_star_none [] h = refl
no_star_none (b ∷ []) h = rw h refl
no_star_none (b ∷ c ∷ bs) h = rw (no_star_none (c ∷ bs) h) refl

word_byte_is_no_star : (b : ℕ) → is_word_byte b ≡ true → (b == 42) ≡ false
word_byte_is_no_star b h = grind (arith, nat_tests)

pub word_ends_in_no_star : (w : List ℕ) → list_all is_word_byte w ≡ true → ends_in_star w ≡ false
word_ends_in_no_star [] h = refl
word_ends_in_no_star (b ∷ []) h = word_byte_is_no_star b (and_both (is_word_byte b) true h).0
word_ends_in_no_star (b ∷ c ∷ bs) h = word_ends_in_no_star (c ∷ bs) (and_both (is_word_byte b) (list_all is_word_byte (c ∷ bs)) h).1

pub front_can_be_quoted : (front back : List ℕ) → can_be_quoted (front ++ back) ≡ true → can_be_quoted front ≡ true
front_can_be_quoted front back h = cases (or_cases (list_all (is_quotable 34) (front ++ back)) (list_all (is_quotable 39) (front ++ back)) h) where
  cases : (list_all (is_quotable 34) (front ++ back) ≡ true) ⊎ (list_all (is_quotable 39) (front ++ back) ≡ true) → can_be_quoted front ≡ true
  cases (inl e) = or_first (list_all (is_quotable 34) front) (list_all (is_quotable 39) front) (all_front (is_quotable 34) front back e)
  cases (inr e) = or_second (list_all (is_quotable 34) front) (list_all (is_quotable 39) front) (all_front (is_quotable 39) front back e)
