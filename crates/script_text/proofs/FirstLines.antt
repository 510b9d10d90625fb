-- The first line, and the lines behind it.
use Rattle.std.proofs.Common.{◌≡◌, ◌<◌, ◌-◌, ℕ, zero, suc, List, [], ◌∷◌, Bool, true, false, if◌then◌else◌, ◌==◌, refl, ap, length, take, get_or, map, arith}
use Rattle.std.proofs.lemmas.Bool.Decides.{nat_tests}
use Rattle.script_text.specs.Lines.{lines_of, onto_first, trimmed, script_lines}
use Rattle.script_text.specs.Inside.{first_line, after_line}

pub lines_at : (b : ℕ) (bs : List ℕ) → lines_of (b ∷ bs) ≡ first_line (b ∷ bs) ∷ lines_of (after_line (b ∷ bs))
lines_at b [] =
    let P : Bool → Type 0 = λ v. (if v then [] ∷ lines_of [] else onto_first b (lines_of [])) ≡ (if v then [] else b ∷ first_line []) ∷ lines_of (if v then [] else after_line []) in
    elim (b == 10) as P [ true ↦ refl | false ↦ refl ]
lines_at b (c ∷ cs) =
    let rest : lines_of (c ∷ cs) ≡ first_line (c ∷ cs) ∷ lines_of (after_line (c ∷ cs)) = lines_at c cs in
    let P : Bool → Type 0 = λ v. (if v then [] ∷ lines_of (c ∷ cs) else onto_first b (lines_of (c ∷ cs))) ≡ (if v then [] else b ∷ first_line (c ∷ cs)) ∷ lines_of (if v then c ∷ cs else after_line (c ∷ cs)) in
    elim (b == 10) as P [ true ↦ refl | false ↦ ap (onto_first b) rest ]

pub lines_cut : (s : List ℕ) → 0 < length s → script_lines s ≡ trimmed (first_line s) ∷ script_lines (after_line s)
lines_cut [] h = absurd (omega arith)
lines_cut (b ∷ bs) h = ap (map trimmed) (lines_at b bs)

-- a line with a byte 13 at its end, and any other
pub trimmed_end : (line : List ℕ) (n : ℕ) → length line ≡ suc n → get_or line n 0 ≡ 13 → take n line ≡ trimmed line
trimmed_end [] n h e = absurd (omega arith)
trimmed_end (b ∷ []) zero h e = rw e refl
trimmed_end (b ∷ []) (suc n) h e = absurd (omega arith)
trimmed_end (b ∷ c ∷ bs) zero h e = absurd (omega arith)
trimmed_end (b ∷ c ∷ bs) (suc n) h e = ap (λ xs. b ∷ xs) (trimmed_end (c ∷ bs) n (omega arith) e)

not_13 : (b : ℕ) → (b ≡ 13 → ⊥) → (b == 13) ≡ false
not_13 b h = grind (arith, nat_tests)

pub trimmed_none : (line : List ℕ) (n : ℕ) → length line ≡ suc n → (get_or line n 0 ≡ 13 → ⊥) → line ≡ trimmed line
trimmed_none [] n h e = absurd (omega arith)
trimmed_none (b ∷ []) zero h e = rw (not_13 b e) refl
trimmed_none (b ∷ []) (suc n) h e = absurd (omega arith)
trimmed_none (b ∷ c ∷ bs) zero h e = absurd (omega arith)
trimmed_none (b ∷ c ∷ bs) (suc n) h e = ap (λ xs. b ∷ xs) (trimmed_none (c ∷ bs) n (omega arith) e)

pub not_empty : (n : ℕ) (b : Bool) → b ≡ (n == 0) → b ≡ false → 0 < n
not_empty n b e f = grind (arith, nat_tests)

pub last_place : (n : ℕ) (b : Bool) → b ≡ (n == 0) → b ≡ false → n ≡ suc (n - 1)
last_place n b e f = let some : 0 < n = grind (arith, nat_tests) in omega arith
