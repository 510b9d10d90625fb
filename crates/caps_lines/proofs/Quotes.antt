-- Texts between single quotes.
use Rattle.std.proofs.Common.{◌≡◌, ◌≢◌, ℕ, suc, ◌<◌, List, [], ◌∷◌, ◌++◌, Bool, true, false, cond, ◌==◌, get_or, length, refl, sym, ap, ◌∙◌, append_assoc, arith, codes, lit<, subst, Option, None, Some, Result, Ok, Err, OnOk, is_ok, Bor, if◌then◌else◌}
use Rattle.std.specs.List.{flat_map}
use Rattle.std.proofs.lemmas.Str.Pattern.{IsSplitOnceResult, split_parts}
use Rattle.std.proofs.lemmas.Bool.{false≢true}
use Rattle.caps_lines.specs.Shell.{marked}

same_byte : (b : ℕ) → b ≢ 39 → marked b ≡ b ∷ []
same_byte b differs = go (b == 39) refl
  where
    go : (t : Bool) → (b == 39) ≡ t → cond t (codes "'\\''") (b ∷ []) ≡ b ∷ []
    go true e = absurd (differs (grind arith))
    go false e = refl

-- a text without single quotes stands as it is
pub unquoted : (text : List ℕ) → ((i : ℕ) → i < length text → get_or text i 0 ≢ 39) → flat_map marked text ≡ text
unquoted [] none = refl
unquoted (b ∷ bs) none =
    ap (λ front. front ++ flat_map marked bs) (same_byte b (none 0 (omega arith)))
    ∙ ap (λ rest. b ∷ rest) (unquoted bs (λ i l. none (suc i) (omega arith)))

pub both_parts : (xs ys : List ℕ) → flat_map marked (xs ++ ys) ≡ flat_map marked xs ++ flat_map marked ys
both_parts [] ys = refl
both_parts (x ∷ xs) ys = ap (λ rest. marked x ++ rest) (both_parts xs ys) ∙ sym (append_assoc (marked x) (flat_map marked xs) (flat_map marked ys))

-- up to the first single quote, and behind it
pub at_quote : (text front behind : List ℕ) → text ≡ front ++ 39 ∷ behind → ((i : ℕ) → i < length front → get_or front i 0 ≢ 39)
    → flat_map marked text ≡ front ++ (codes "'\\''" ++ flat_map marked behind)
at_quote text front behind is none =
    ap (flat_map marked) is ∙ (both_parts front (39 ∷ behind) ∙ ap (λ start. start ++ (codes "'\\''" ++ flat_map marked behind)) (unquoted front none))

pub found_quote : (r : Option (Bor (List ℕ) × Bor (List ℕ))) (text : List ℕ) (x : Bor (List ℕ) × Bor (List ℕ)) → IsSplitOnceResult 39 text r → r ≡ Some x
    → flat_map marked text ≡ x.0.now ++ (codes "'\\''" ++ flat_map marked x.1.now)
found_quote None text x cases is = absurd (cc)
found_quote (Some y) text x cases is =
    let same : y ≡ x = cc in
    let parts = split_parts 39 text (Some y) cases (lit< tt) in
    subst (λ z. flat_map marked text ≡ z.0.now ++ (codes "'\\''" ++ flat_map marked z.1.now)) same (at_quote text y.0.now y.1.now parts.0 parts.1)

pub no_quote_left : (r : Option (Bor (List ℕ) × Bor (List ℕ))) (text : List ℕ) → IsSplitOnceResult 39 text r → r ≡ None → flat_map marked text ≡ text
no_quote_left None text cases is = unquoted text (split_parts 39 text None cases (lit< tt))
no_quote_left (Some y) text cases is = absurd (cc)

-- one more part and a quote are written
pub quote_written : (before middle after start front mark rest whole : List ℕ) → middle ≡ before ++ front → after ≡ middle ++ mark → whole ≡ front ++ (mark ++ rest)
    → before ++ whole ≡ start → after ++ rest ≡ start
quote_written before middle after start front mark rest whole one two is so_far =
    ap (λ t. t ++ rest) (two ∙ ap (λ t. t ++ mark) one)
    ∙ (append_assoc (before ++ front) mark rest ∙ (append_assoc before front (mark ++ rest) ∙ (ap (λ t. before ++ t) (sym is) ∙ so_far)))

-- the last part is written
pub rest_written : {T E : Type 0} (r : Result T E) (new old add total : List ℕ) → new ≡ (if is_ok r then old ++ add else old) → old ++ add ≡ total → OnOk r (new ≡ total)
rest_written (Ok x) new old add total h e = h ∙ e
rest_written (Err y) new old add total h e = tt
