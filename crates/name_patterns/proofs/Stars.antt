-- Patterns with stars.
use Rattle.std.proofs.Common.{◌≡◌, ◌≢◌, ◌∙◌, ◌++◌, ◌∷◌, ◌+◌, ◌||◌, ◌&&◌, [], ℕ, zero, suc, List, Bool, true, false, cond, not, ◌==◌, append_assoc, drop, length, refl, sym, ap, arith}
use Rattle.std.specs.List.{list_all}
use Rattle.std.proofs.Math.Nat.{add_comm}
use Rattle.std.proofs.Math.Seq.{drop-append_seam}
use Rattle.std.proofs.lemmas.List.{drop-drop}
use Rattle.std.proofs.lemmas.Bool.{false≢true}
use Rattle.std.proofs.lemmas.Bool.Decides.{nat_tests}
use Rattle.name_patterns.specs.Patterns.{fits}

-- is no star
abbrev pub is_bare : ℕ → Bool
is_bare b = not (b == 42)

-- whether a pattern fits an end of what is behind the first byte
abbrev pub later : List ℕ → List ℕ → Bool
later ps [] = false
later ps (b ∷ bs) = fits (42 ∷ ps) bs

and_first : (a b : Bool) → (a && b) ≡ true → a ≡ true
and_first true b h = refl
and_first false b h = absurd cc

and_second : (a b : Bool) → (a && b) ≡ true → b ≡ true
and_second true b h = h
and_second false b h = absurd cc

or_false : (a : Bool) → (a || false) ≡ a
or_false true = refl
or_false false = refl

or_right : (a b : Bool) → b ≡ true → (a || b) ≡ true
or_right true b h = refl
or_right false b h = h

-- a star stands for nothing, or for one byte more
pub star_here : (ps text : List ℕ) → (fits ps text || later ps text) ≡ fits (42 ∷ ps) text
star_here ps [] = or_false (fits ps [])
star_here ps (b ∷ bs) = refl

-- a star in front of an end is a star in front of the whole
whole : (ps : List ℕ) (k : ℕ) (text : List ℕ) → fits (42 ∷ ps) (drop k text) ≡ true → fits (42 ∷ ps) text ≡ true
whole ps zero text h = h
whole ps (suc k) [] h = h
whole ps (suc k) (b ∷ bs) h = or_right (fits ps (b ∷ bs)) (fits (42 ∷ ps) bs) (whole ps k bs h)

-- where a pattern behind a star fits
some_end : (ps text : List ℕ) → fits (42 ∷ ps) text ≡ true → (k : ℕ) × (fits ps (drop k text) ≡ true)
some_end ps [] h = (0, h)
some_end ps (b ∷ bs) h = go (fits ps (b ∷ bs)) refl h (some_end ps bs)
  where
    go : (t : Bool) → fits ps (b ∷ bs) ≡ t → (t || fits (42 ∷ ps) bs) ≡ true → (fits (42 ∷ ps) bs ≡ true → (k : ℕ) × (fits ps (drop k bs) ≡ true)) → (k : ℕ) × (fits ps (drop k (b ∷ bs)) ≡ true)
    go true e g more = (0, e)
    go false e g more = (suc (more g).0, (more g).1)

bare_false : (b : ℕ) → is_bare b ≡ true → (b == 42) ≡ false
bare_false b h = grind (arith, nat_tests)

-- behind a front without stars, what is left of the pattern fits what is left of the name
behind_front : (front ps text : List ℕ) → list_all is_bare front ≡ true → fits (front ++ ps) text ≡ true → fits ps (drop (length front) text) ≡ true
behind_front [] ps text bare h = h
behind_front (c ∷ cs) ps [] bare h = absurd (false≢true (go (c == 42) (bare_false c (and_first (is_bare c) (list_all is_bare cs) bare)) h))
  where
    go : (t : Bool) → t ≡ false → (t && fits (cs ++ ps) []) ≡ true → false ≡ true
    go true e g = sym e
    go false e g = g
behind_front (c ∷ cs) ps (b ∷ bs) bare h =
    behind_front cs ps bs (and_second (is_bare c) (list_all is_bare cs) bare)
    (and_second (c == b) (fits (cs ++ ps) bs) (go (c == 42) (bare_false c (and_first (is_bare c) (list_all is_bare cs) bare)) h))
  where
    go : (t : Bool) → t ≡ false → (cond t (fits (cs ++ ps) (b ∷ bs) || fits (c ∷ (cs ++ ps)) bs) (c == b && fits (cs ++ ps) bs)) ≡ true → (c == b && fits (cs ++ ps) bs) ≡ true
    go true e g = absurd cc
    go false e g = g

or_covered : (a b : Bool) → (b ≡ true → a ≡ true) → (a || b) ≡ a
or_covered true b h = refl
or_covered false true h = sym (h refl)
or_covered false false h = refl

-- where a pattern with a front without stars fits later, the star behind the front fits here
later_covers : (front behind text all : List ℕ) → front ++ text ≡ all → list_all is_bare front ≡ true → later (front ++ 42 ∷ behind) all ≡ true → fits (42 ∷ behind) text ≡ true
later_covers front behind text [] e bare h = absurd (false≢true h)
later_covers front behind text (b ∷ bs) e bare h =
    let found = some_end (front ++ 42 ∷ behind) bs h in
    let fit : fits (42 ∷ behind) (drop (length front) (drop (suc found.0) (b ∷ bs))) ≡ true = behind_front front (42 ∷ behind) (drop found.0 bs) bare found.1 in
    whole behind (suc found.0) text
    (ap (λ z. fits (42 ∷ behind) (drop (suc found.0) z)) (sym (drop-append_seam front text))
    ∙ (ap (λ z. fits (42 ∷ behind) (drop (suc found.0) (drop (length front) z))) e
    ∙ (ap (fits (42 ∷ behind)) (swapped (suc found.0) (length front) (b ∷ bs)) ∙ fit)))
  where
    swapped : (i j : ℕ) (l : List ℕ) → drop i (drop j l) ≡ drop j (drop i l)
    swapped i j l = drop-drop i j l ∙ (ap (λ n. drop n l) (add_comm j i) ∙ sym (drop-drop j i l))

pub star_step : (front behind rest bp text tried : List ℕ) (all : Bool) → rest ≡ 42 ∷ behind → bp ≡ front ++ rest → tried ≡ front ++ text → list_all is_bare front ≡ true
    → (fits rest text || later bp tried) ≡ all → (fits behind text || later behind text) ≡ all
star_step front behind rest bp text tried all is whole_pattern whole_text bare h =
    star_here behind text
    ∙ (sym (or_covered (fits (42 ∷ behind) text) (later (front ++ 42 ∷ behind) tried) (later_covers front behind text tried (sym whole_text) bare))
    ∙ (ap (λ z. fits (42 ∷ behind) text || later z tried) (sym (whole_pattern ∙ ap (λ z. front ++ z) is))
    ∙ (ap (λ z. fits z text || later bp tried) (sym is) ∙ h)))

fits_byte : (w v : ℕ) (behind others : List ℕ) → w ≡ v → (w == 42) ≡ false → fits (w ∷ behind) (v ∷ others) ≡ fits behind others
fits_byte w v behind others same bare = go (w == 42) bare (w == v) (equal w v same)
  where
    equal : (w v : ℕ) → w ≡ v → (w == v) ≡ true
    equal w v h = grind (arith, nat_tests)

    go : (star : Bool) → star ≡ false → (fit : Bool) → fit ≡ true → cond star (fits behind (v ∷ others) || fits (w ∷ behind) others) (fit && fits behind others) ≡ fits behind others
    go true e fit f = absurd cc
    go false e true f = refl
    go false e false f = absurd cc

pub no_star : (w : ℕ) → w ≢ 42 → (w == 42) ≡ false
no_star w h = grind (arith, nat_tests)

pub byte_step : (w v : ℕ) (behind others rest text : List ℕ) (more all : Bool) → rest ≡ w ∷ behind → text ≡ v ∷ others → w ≡ v → (w == 42) ≡ false
    → (fits rest text || more) ≡ all → (fits behind others || more) ≡ all
byte_step w v behind others rest text more all is is_text same bare h =
    ap (λ z. z || more) (sym (fits_byte w v behind others same bare))
    ∙ (ap (λ z. fits z (v ∷ others) || more) (sym is) ∙ (ap (λ z. fits rest z || more) (sym is_text) ∙ h))

pub more_front : (front behind rest all : List ℕ) (w : ℕ) → rest ≡ w ∷ behind → all ≡ front ++ rest → all ≡ (front ++ w ∷ []) ++ behind
more_front front behind rest all w is h = h ∙ (ap (λ z. front ++ z) is ∙ sym (append_assoc front (w ∷ []) behind))

pub bare_front : (front : List ℕ) (w : ℕ) → (w == 42) ≡ false → list_all is_bare front ≡ true → list_all is_bare (front ++ w ∷ []) ≡ true
bare_front [] w bare h = go (w == 42) bare
  where
    go : (t : Bool) → t ≡ false → (not t && true) ≡ true
    go true e = absurd cc
    go false e = refl
bare_front (c ∷ cs) w bare h = both (is_bare c) (list_all is_bare (cs ++ w ∷ [])) (and_first (is_bare c) (list_all is_bare cs) h) (bare_front cs w bare (and_second (is_bare c) (list_all is_bare cs) h))
  where
    both : (a b : Bool) → a ≡ true → b ≡ true → (a && b) ≡ true
    both true b p q = q
    both false b p q = absurd cc
