-- A text that ends in a star.
use Rattle.std.proofs.Common.{◌≡◌, ◌≢◌, ℕ, zero, suc, ◌-◌, Bool, true, false, List, [], ◌∷◌, length, take, get_or, Some, None, refl, sym, ap, ◌∙◌, arith, eqb}
use Rattle.std.specs.Prelude.{option_map}
use Rattle.std.proofs.lemmas.List.{nil_from_length}
use Rattle.std.proofs.lemmas.Bool.Decides.{nat_tests}
use Rattle.cap_text.specs.Grammar.{before_star, namespace_of}
use Rattle.cap_grants.specs.declared.grant.NsMatch.TheVariants.{Exact, Prefix}

eq_true : (b : ℕ) → b ≡ 42 → eqb b 42 ≡ true
eq_true b e = ap (λ x. eqb x 42) e

ne_false : (b : ℕ) → (b ≡ 42 → ⊥) → eqb b 42 ≡ false
ne_false b ne = grind (arith, nat_tests)

pub star_end : (text : List ℕ) (n : ℕ) → length text ≡ suc n → get_or text n 0 ≡ 42 → before_star text ≡ Some (take n text)
star_end [] n len star = absurd (omega (arith, len))
star_end (b ∷ []) zero len star = rw (eq_true b star) refl
star_end (b ∷ []) (suc n) len star = absurd (omega (arith, len))
star_end (b ∷ c ∷ bs) zero len star = absurd (omega (arith, len))
star_end (b ∷ c ∷ bs) (suc n) len star = ap (option_map (λ front. b ∷ front)) (star_end (c ∷ bs) n (omega (arith, len)) star)

pub no_star_end : (text : List ℕ) (n : ℕ) → length text ≡ suc n → (get_or text n 0 ≡ 42 → ⊥) → before_star text ≡ None
no_star_end [] n len star = absurd (omega (arith, len))
no_star_end (b ∷ []) zero len star = rw (ne_false b star) refl
no_star_end (b ∷ []) (suc n) len star = absurd (omega (arith, len))
no_star_end (b ∷ c ∷ bs) zero len star = absurd (omega (arith, len))
no_star_end (b ∷ c ∷ bs) (suc n) len star = ap (option_map (λ front. b ∷ front)) (no_star_end (c ∷ bs) n (omega (arith, len)) star)

pub no_text : (text : List ℕ) → length text ≡ 0 → before_star text ≡ None
no_text [] len = refl
no_text (b ∷ bs) len = absurd (omega (arith, len))

pub is_exact : (text name : List ℕ) → before_star text ≡ None → text ≡ name → namespace_of text ≡ Exact name
is_exact text name none e = rw none (ap Exact e)

pub is_prefix : (text name : List ℕ) (n : ℕ) → length text ≡ suc n → get_or text n 0 ≡ 42 → take n text ≡ name → namespace_of text ≡ Prefix name
is_prefix text name n len star e = rw (star_end text n len star) (ap Prefix e)

pub empty_of : (xs : List ℕ) (b : Bool) → b ≡ eqb (length xs) 0 → b ≡ true → length xs ≡ 0
empty_of xs b e t = grind (arith, nat_tests)

pub some_of : (xs : List ℕ) (b : Bool) → b ≡ eqb (length xs) 0 → b ≡ false → length xs ≡ suc (length xs - 1)
some_of xs b e f = let ne : length xs ≢ 0 = (λ z. let h : false ≡ true = sym f ∙ e ∙ ap (λ n. eqb n 0) z in cc) in omega arith

pub nil_of : (xs : List ℕ) (b : Bool) → b ≡ eqb (length xs) 0 → b ≡ true → xs ≡ []
nil_of xs b e t = nil_from_length xs (empty_of xs b e t)

pub not_nil_of : (xs : List ℕ) (b : Bool) → b ≡ eqb (length xs) 0 → b ≡ false → xs ≢ []
not_nil_of xs b e f z = let h : false ≡ true = sym f ∙ e ∙ ap (λ (x : List ℕ). eqb (length x) 0) z in cc
