-- Bytes without the end of a line, and those up to the last one.
use Rattle.std.proofs.Common.{◌≡◌, ℕ, zero, suc, ◌+◌, ◌<◌, ◌≤◌, List, [], ◌∷◌, ◌++◌, length, get_or, take, drop, Bool, true, false, ◌||◌, eqb, refl, sym, ap, ◌∙◌, inl, inr, arith, append_assoc, take-append-drop, length-drop, ◌-◌}
use Rattle.std.specs.List.{list_any}
use Rattle.std.proofs.lemmas.List.{take_all, take_more}
use Rattle.std.proofs.lemmas.List.Folds.{list_any-append}
use Rattle.log_core.specs.Lines.{TakesLines}

first_differs : (x : ℕ) (a b : Bool) → eqb x 10 ≡ a → (a ≡ true → ⊥) → b ≡ false → (a || b) ≡ false
first_differs x true b e h k = absurd (h refl)
first_differs x false b e h k = k

pub one_line : (xs : List ℕ) → ((k : ℕ) → k < length xs → eqb (get_or xs k 0) 10 ≡ true → ⊥) → list_any (λ b. eqb b 10) xs ≡ false
one_line [] none = refl
one_line (x ∷ xs) none = first_differs x (eqb x 10) (list_any (λ b. eqb b 10) xs) refl (none 0 (omega arith)) (one_line xs (λ k h. none (suc k) (omega (arith, h))))

pub one_line_from : (xs : List ℕ) (n : ℕ) → ((k : ℕ) → n ≤ k → k < length xs → eqb (get_or xs k 0) 10 ≡ true → ⊥) → list_any (λ b. eqb b 10) (drop n xs) ≡ false
one_line_from xs zero none = one_line xs (λ k h. none k (omega arith) h)
one_line_from [] (suc n) none = refl
one_line_from (x ∷ xs) (suc n) none = one_line_from xs n (λ k low h. none (suc k) (omega (arith, low)) (omega (arith, h)))

-- a chunk without the end of a line waits too
pub takes_none : (waiting chunk lines left : List ℕ) → lines ≡ [] → left ≡ waiting ++ chunk → list_any (λ b. eqb b 10) chunk ≡ false → TakesLines waiting chunk lines left
takes_none waiting chunk lines left empty is none = record {
  kept = sym is ∙ ap (λ l. l ++ left) (sym empty);
  whole = inl empty;
  begun = λ begun. ap (list_any (λ b. eqb b 10)) is ∙ (list_any-append (λ b. eqb b 10) waiting chunk ∙ ((λ i. begun i || none i)));
}

-- a chunk with the end of a line makes the lines up to its last one
pub takes_some : (waiting chunk lines left : List ℕ) (end : ℕ) → end < length chunk → get_or chunk end 0 ≡ 10 → lines ≡ waiting ++ take (end + 1) chunk → left ≡ drop (end + 1) chunk
    → list_any (λ b. eqb b 10) (drop (end + 1) chunk) ≡ false → TakesLines waiting chunk lines left
takes_some waiting chunk lines left end within ends is rest none = record {
  kept = ap (λ c. waiting ++ c) (sym (take-append-drop (end + 1) chunk)) ∙ (sym (append_assoc waiting (take (end + 1) chunk) (drop (end + 1) chunk)) ∙ (λ i. sym is i ++ sym rest i));
  whole = inr (waiting ++ take end chunk, is ∙ (ap (λ c. waiting ++ c) (take_more chunk end 0 within ∙ ap (λ b. take end chunk ++ b ∷ []) ends) ∙ sym (append_assoc waiting (take end chunk) (10 ∷ []))));
  begun = λ begun. ap (list_any (λ b. eqb b 10)) rest ∙ none;
}

-- the slice behind a place
pub whole_drop : (n : ℕ) (xs : List ℕ) → take (length xs - n) (drop n xs) ≡ drop n xs
whole_drop n xs = take_all (length xs - n) (drop n xs) (simp length-drop (omega arith))
