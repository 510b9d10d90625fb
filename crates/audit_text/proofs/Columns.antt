-- Words in columns, and the columns in parts.
use Rattle.std.proofs.Common.{◌≡◌, ◌≤◌, ◌<◌, ◌+◌, ◌-◌, ◌⊎◌, ℕ, List, [], ◌∷◌, ◌++◌, Option, None, Some, length, get_or, take, drop, refl, sym, ap, ◌∙◌, subst, inl, inr, append_assoc, arith}
use Rattle.std.specs.List.{slice_range, sum_by}
use Rattle.std.proofs.lemmas.Grind.{take_at_read}
use Rattle.std.proofs.lemmas.List.{get_or-drop, length-drop}
use Rattle.std.proofs.lemmas.List.Sums.{sum_by-append}
use Rattle.audit_text.specs.Matrix.{AreParts, IsPart, IsRoomBehind, aligned, aligned_words, block, blocks, total}
use Rattle.audit_text.specs.declared.lines.Line.{Line}

pub words_step : (widths others : List ℕ) (width : ℕ) (words rest : List (List ℕ)) (word : List ℕ) → widths ≡ width ∷ others → words ≡ word ∷ rest
    → aligned_words widths words ≡ aligned width word ++ aligned_words others rest
words_step widths others width words rest word e f = rw (e, f) refl

pub no_width : (widths : List ℕ) (words : List (List ℕ)) → widths ≡ [] → aligned_words widths words ≡ []
no_width widths words e = rw e refl

pub no_word : (widths others : List ℕ) (width : ℕ) (words : List (List ℕ)) → widths ≡ width ∷ others → words ≡ [] → aligned_words widths words ≡ []
no_word widths others width words e f = rw (e, f) refl

pub blocks_step : (width : ℕ) (widths : List ℕ) (lines : List Line) (from to : ℕ) (ends others : List ℕ) → ends ≡ to ∷ others
    → blocks width widths lines from ends ≡ block width widths lines from to ++ blocks width widths lines to others
blocks_step width widths lines from to ends others e = rw e refl

pub no_blocks : (width : ℕ) (widths : List ℕ) (lines : List Line) (from : ℕ) (ends : List ℕ) → ends ≡ [] → blocks width widths lines from ends ≡ []
no_blocks width widths lines from ends e = rw e refl

pub parts_step : (widths : List ℕ) (room from to last : ℕ) (ends others : List ℕ) → ends ≡ to ∷ others → AreParts widths room from ends last
    → IsPart widths room from to × AreParts widths room to others last
parts_step widths room from to last ends others e parts = rw e at parts

pub one_more : (widths : List ℕ) (room from middle to : ℕ) (ends : List ℕ) → AreParts widths room from ends middle → IsPart widths room middle to
    → AreParts widths room from (ends ++ to ∷ []) to
one_more widths room from middle to [] e part = (rw e part, refl)
one_more widths room from middle to (end ∷ ends) (first, rest) part = (first, one_more widths room end middle to ends rest part)

pub total_more : (widths : List ℕ) (from to : ℕ) → from ≤ to → to < length widths
    → total (slice_range widths from (to + 1)) ≡ total (slice_range widths from to) + (get_or widths to 0 + 2)
total_more widths from to low high =
    let xs : List ℕ = drop from widths in
    let within : to - from < length xs = omega (arith, length-drop from widths) in
    let next : (to + 1) - from ≡ (to - from) + 1 = omega arith in
    let place : from + (to - from) ≡ to = omega arith in
    let element : get_or xs (to - from) 0 ≡ get_or widths to 0 = get_or-drop from widths (to - from) 0 ∙ ap (λ n. get_or widths n 0) place in
    let longer : take ((to + 1) - from) xs ≡ take (to - from) xs ++ get_or widths to 0 ∷ [] =
    ap (λ n. take n xs) next ∙ ((take_at_read xs (to - from) 0 within).1 ∙ ap (λ x. take (to - from) xs ++ x ∷ []) element) in
    ap total longer ∙ (sum_by-append (λ width. width + 2) (take (to - from) xs) (get_or widths to 0 ∷ []) ∙ ap (λ n. total (take (to - from) xs) + n) (one (get_or widths to 0)))
  where
    one : (n : ℕ) → total (n ∷ []) ≡ n + 2
    one n = omega arith

-- the columns so far fit, or the first one alone does not
abbrev pub FitsSoFar : List ℕ → ℕ → ℕ → ℕ → ℕ → Type 0
FitsSoFar widths room from to left = (total (slice_range widths from to) + left ≤ room) ⊎ ((to ≡ from + 1) × (left ≡ 0))

-- one more column that fits
pub step_fits : (widths : List ℕ) (room from to left behind : ℕ) (r : Option ℕ) → IsRoomBehind left (get_or widths to 0) r → r ≡ Some behind → from < to → to < length widths
    → FitsSoFar widths room from to left → FitsSoFar widths room from (to + 1) behind
step_fits widths room from to left behind None is e low high so_far = absurd (cc)
step_fits widths room from to left behind (Some b) is e low high so_far = go so_far
  where
    same : {m n : ℕ} → Some m ≡ Some n → m ≡ n
    same f = cc

    go : FitsSoFar widths room from to left → FitsSoFar widths room from (to + 1) behind
    go (inl fits) = let more = total_more widths from to (omega arith) high in let e' : b ≡ behind = same e in inl (omega (arith, more))
    go (inr (first, none)) = absurd (omega arith)

pub parts_more : (widths : List ℕ) (room middle to : ℕ) (ends new : List ℕ) → AreParts widths room 0 ends middle → IsPart widths room middle to → new ≡ ends ++ to ∷ []
    → AreParts widths room 0 new to
parts_more widths room middle to ends new parts part e = subst (λ all. AreParts widths room 0 all to) (sym e) (one_more widths room 0 middle to ends parts part)
