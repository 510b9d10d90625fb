-- Pieces of a document.
use Rattle.std.proofs.Common.{◌≡◌, ◌≢◌, ℕ, ◌+◌, List, [], ◌∷◌, Bool, true, false, cond, ◌==◌, Option, None, Some, Bor, MatchOption, refl, ap, arith, drop, length, lit<}
use Rattle.std.specs.Str.Pattern.{FindsCharPrefix}
use Rattle.std.proofs.lemmas.Str.Pattern.{strip_prefix_char}
use Rattle.verdict_text.specs.Documents.{without_comma}
use Rattle.verdict_text.specs.RulesMember.{without_brace}

-- what does not begin with a comma stays
no_comma : (pieces : List ℕ) → ((rest : List ℕ) → pieces ≢ 44 ∷ rest) → pieces ≡ without_comma pieces
no_comma [] none = refl
no_comma (byte ∷ bytes) none = go (byte == 44) refl
  where
    go : (t : Bool) → (byte == 44) ≡ t → byte ∷ bytes ≡ cond t bytes (byte ∷ bytes)
    go true e = let is : byte ≡ 44 = grind arith in absurd (none bytes (ap (λ b. b ∷ bytes) is))
    go false e = refl

-- nothing is left out
pub nothing_stripped : (r : Option (Bor (List ℕ))) (pieces : List ℕ)
    → MatchOption r (FindsCharPrefix 44 pieces None) (λ x. (n : ℕ) × FindsCharPrefix 44 pieces (Some n) × (x.now ≡ drop n pieces) × (length x.now + n ≡ length pieces))
    → r ≡ None → pieces ≡ without_comma pieces
nothing_stripped None pieces cases is = no_comma pieces (strip_prefix_char 44 pieces None cases (lit< tt))
nothing_stripped (Some x) pieces cases is = absurd (cc)

-- what does not begin with a brace stays
no_brace : (line : List ℕ) → ((rest : List ℕ) → line ≢ 123 ∷ rest) → line ≡ without_brace line
no_brace [] none = refl
no_brace (byte ∷ bytes) none = go (byte == 123) refl
  where
    go : (t : Bool) → (byte == 123) ≡ t → byte ∷ bytes ≡ cond t bytes (byte ∷ bytes)
    go true e = let is : byte ≡ 123 = grind arith in absurd (none bytes (ap (λ b. b ∷ bytes) is))
    go false e = refl

pub no_brace_stripped : (r : Option (Bor (List ℕ))) (line : List ℕ)
    → MatchOption r (FindsCharPrefix 123 line None) (λ x. (n : ℕ) × FindsCharPrefix 123 line (Some n) × (x.now ≡ drop n line) × (length x.now + n ≡ length line))
    → r ≡ None → line ≡ without_brace line
no_brace_stripped None line cases is = no_brace line (strip_prefix_char 123 line None cases (lit< tt))
no_brace_stripped (Some x) line cases is = absurd (cc)
