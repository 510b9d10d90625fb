-- No text as it stands in a page has a byte that begins or ends a tag or an attribute.
use Rattle.std.proofs.Common.{◌≡◌, ◌+◌, ◌/◌, ◌%◌, ℕ, List, [], ◌∷◌, ◌++◌, Bool, true, false, cond, ◌==◌, ◌&&◌, refl, nat_le, nat_lt, codes, arith}
use Rattle.std.specs.List.{list_all}
use Rattle.common_types.specs.Escapes.{hex_digit, escape}
use Rattle.verdict_text.specs.Caret.{shown_byte}
use Rattle.audit_page.specs.Escape.{escaped, escaped_text, is_inert}

both : (a b c : Bool) → (a && b) ≡ true → (b ≡ true → c ≡ true) → (a && c) ≡ true
both true b c h k = k h
both false b c h k = h

joined : (xs ys : List ℕ) → list_all is_inert xs ≡ true → list_all is_inert ys ≡ true → list_all is_inert (xs ++ ys) ≡ true
joined [] ys one other = other
joined (x ∷ xs) ys one other = both (is_inert x) (list_all is_inert xs) (list_all is_inert (xs ++ ys)) one (λ h. joined xs ys h other)

digit : (n : ℕ) → is_inert (hex_digit n) ≡ true
digit n = go (nat_lt n 10) refl
  where
    go : (t : Bool) → nat_lt n 10 ≡ t → is_inert (cond t (48 + n) (87 + n)) ≡ true
    go true e = grind arith
    go false e = grind arith

and_both : (a b : Bool) → a ≡ true → b ≡ true → (a && b) ≡ true
and_both true b p q = q
and_both false b p q = p

number : (b : ℕ) → list_all is_inert (escape b) ≡ true
number b = and_both (is_inert (hex_digit (b / 16))) _ (digit (b / 16)) (and_both (is_inert (hex_digit (b % 16))) true (digit (b % 16)) refl)

-- a byte that is shown as it is, and is not one of these four
shown : (b : ℕ) → (b == 60) ≡ false → (b == 62) ≡ false → (b == 34) ≡ false → (b == 39) ≡ false → list_all is_inert (shown_byte b) ≡ true
shown b p q r s = pick (nat_le 32 b && nat_le b 126)
  where
    pick : (t : Bool) → list_all is_inert (cond t (b ∷ []) (escape b)) ≡ true
    pick true = cc
    pick false = number b

one_inert : (b : ℕ) → list_all is_inert (escaped b) ≡ true
one_inert b = go (b == 38) (b == 60) (b == 62) (b == 34) (b == 39) refl refl refl refl
  where
    go : (amp less more quote mark : Bool) → (b == 60) ≡ less → (b == 62) ≡ more → (b == 34) ≡ quote → (b == 39) ≡ mark
        → list_all is_inert (cond amp (codes "&amp;") (cond less (codes "&lt;") (cond more (codes "&gt;") (cond quote (codes "&quot;") (cond mark (codes "&#39;") (shown_byte b)))))) ≡ true
    go true less more quote mark p q r s = refl
    go false true more quote mark p q r s = refl
    go false false true quote mark p q r s = refl
    go false false false true mark p q r s = refl
    go false false false false true p q r s = refl
    go false false false false false p q r s = shown b p q r s

pub all_inert : (text : List ℕ) → list_all is_inert (escaped_text text) ≡ true
all_inert [] = refl
all_inert (b ∷ bs) = joined (escaped b) (escaped_text bs) (one_inert b) (all_inert bs)
