-- A line is cut in one way.
use Rattle.std.proofs.Common.{◌≡◌, ◌⊎◌, inl, inr, ℕ, nat_lt, Bool, true, false, not, ◌||◌, ◌==◌, if◌then◌else◌, List, [], ◌∷◌, ◌++◌, Option, None, Some, Result, Ok, Err, length, map, refl, sym, ap, subst, ◌∙◌, arith, append_assoc}
use Rattle.std.specs.List.{prefix_len, list_all}
use Rattle.std.proofs.lemmas.Bool.Decides.{nat_tests}
use Rattle.rules_words.proofs.Fronts.{both_true}
use Rattle.rules_words.specs.Laws.{LinesAreCutOnce, all_seen, seen}
use Rattle.rules_words.specs.Words.{Begins, IsBadWord, IsCut, IsSound, Leads, breaks, ends, is_bare, is_blank, is_inside, is_plain, is_quote, is_word, written}
use Rattle.rules_words.specs.declared.words.BadWord.{BadWord}
use Rattle.rules_words.specs.declared.words.BadWord.TheVariants.{OpenQuote, StrayQuote, BadByte, TooLong}
use Rattle.rules_words.specs.declared.words.Word.{Word}

-- ---- lists of bytes

not_both : (a b : Bool) → a ≡ true → not b ≡ true → a ≡ b → ⊥
not_both true true a n e = cc
not_both true false a n e = cc
not_both false b a n e = cc

head : (x y : ℕ) (xs ys : List ℕ) → x ∷ xs ≡ y ∷ ys → x ≡ y
head x y xs ys h = cc

tail : (x y : ℕ) (xs ys : List ℕ) → x ∷ xs ≡ y ∷ ys → xs ≡ ys
tail x y xs ys h = cc

-- no byte, or one that fails
stops : (ℕ → Bool) → List ℕ → Bool
stops p [] = true
stops p (b ∷ bs) = not (p b)

no_split : (p : ℕ → Bool) (u : ℕ) (us ys rs : List ℕ) → list_all p (u ∷ us) ≡ true → stops p ys ≡ true → ys ≡ u ∷ rs → ⊥
unfolding stops
no_split p u us [] rs a b e = cc
no_split p u us (y ∷ ys) rs a b e =
    not_both (p u) (p y) ((both_true (p u) (list_all p us) a).0) b (ap p (sym (head y u ys rs e)))

-- bytes that pass, and others that do not begin with one
one_split : (p : ℕ → Bool) (xs ys us vs : List ℕ) → list_all p xs ≡ true → stops p ys ≡ true → list_all p us ≡ true
    → stops p vs ≡ true → xs ++ ys ≡ us ++ vs
    → (xs ≡ us) × (ys ≡ vs)
one_split p [] ys [] vs a b c d e = (refl, e)
one_split p [] ys (u ∷ us) vs a b c d e = absurd (no_split p u us ys (us ++ vs) c b e)
one_split p (x ∷ xs) ys [] vs a b c d e = absurd (no_split p x xs vs (xs ++ ys) a d (sym e))
one_split p (x ∷ xs) ys (u ∷ us) vs a b c d e =
    let more = one_split p xs ys us vs (both_true (p x) (list_all p xs) a).1 b (both_true (p u) (list_all p us) c).1 d
    (tail x u (xs ++ ys) (us ++ vs) e) in
    let first : x ≡ u = head x u (xs ++ ys) (us ++ vs) e in
    (rw (first, more.0) refl, more.1)

passes_at : (p : ℕ → Bool) (front : List ℕ) (b : ℕ) (bs : List ℕ) → list_all p (front ++ b ∷ bs) ≡ true → p b ≡ true
passes_at p [] b bs a = (both_true (p b) (list_all p bs) a).0
passes_at p (x ∷ xs) b bs a = passes_at p xs b bs (both_true (p x) (list_all p (xs ++ b ∷ bs)) a).1

-- ---- bytes of words

quote_not_blank : (b : ℕ) → is_quote b ≡ true → not (is_blank b) ≡ true
quote_not_blank b h = grind (arith, nat_tests)

bare_not_blank : (b : ℕ) → is_bare b ≡ true → not (is_blank b) ≡ true
bare_not_blank b h = by (is_blank b) (is_quote b) h
  where
    by : (x y : Bool) → not (x || y) ≡ true → not x ≡ true
    by true y h = h
    by false y h = refl

bare_not_quote : (b : ℕ) → is_bare b ≡ true → not (is_quote b) ≡ true
bare_not_quote b h = by (is_blank b) (is_quote b) h
  where
    by : (x y : Bool) → not (x || y) ≡ true → not y ≡ true
    by true y h = absurd cc
    by false y h = h

inside_other : (q b : ℕ) → is_inside q b ≡ true → b ≡ q → ⊥
inside_other q b h e = grind (arith, nat_tests)

stops_at_quote : (q : ℕ) (bs : List ℕ) → stops (is_inside q) (q ∷ bs) ≡ true
unfolding stops
stops_at_quote q bs = grind (arith, nat_tests)

-- ---- one word

bares : (t : List ℕ) → is_word None t ≡ true → list_all is_bare t ≡ true
bares t h = (both_true (not (length t == 0)) (list_all is_bare t) h).1

word_starts : (q : Option ℕ) (t behind : List ℕ) → is_word q t ≡ true → stops is_blank (written q t ++ behind) ≡ true
unfolding stops
word_starts None [] behind h = absurd cc
word_starts None (b ∷ bs) behind h =
    bare_not_blank b ((both_true (is_bare b) (list_all is_bare bs) (bares (b ∷ bs) h)).0)
word_starts (Some q) t behind h = quote_not_blank q ((both_true (is_quote q) (list_all (is_inside q) t) h).0)

quote_starts : (q : ℕ) (bs : List ℕ) → is_quote q ≡ true → stops is_blank (q ∷ bs) ≡ true
unfolding stops
quote_starts q bs h = quote_not_blank q h

-- what is behind a word does not go on with it
halts : Option ℕ → List ℕ → Bool
halts None behind = stops is_bare behind
halts (Some q) behind = true

ends_halts : (q : Option ℕ) (behind : List ℕ) → ends behind ≡ true → halts q behind ≡ true
unfolding halts stops
ends_halts (Some q) behind h = refl
ends_halts None [] h = refl
ends_halts None (b ∷ bs) h = rw h refl

breaks_halts : (q : Option ℕ) (behind : List ℕ) → breaks q behind ≡ true → halts q behind ≡ true
unfolding halts stops
breaks_halts (Some q) behind h = refl
breaks_halts None [] h = refl
breaks_halts None (b ∷ bs) h = by (is_blank b) (is_quote b) h
  where
    by : (x y : Bool) → y ≡ true → not (not (x || y)) ≡ true
    by true y h = refl
    by false y h = rw h refl

ends_or_breaks : (q : Option ℕ) (behind : List ℕ) → ends behind ≡ true → breaks q behind ≡ true → ⊥
ends_or_breaks q [] h g = cc
ends_or_breaks None (b ∷ bs) h g = not_both (is_blank b) (is_blank b) h (quote_not_blank b g) refl
ends_or_breaks (Some q) (b ∷ bs) h g = not_both (is_blank b) (is_blank b) h g refl

-- a word begins with a quote or without one
bare_or_quote : (q : ℕ) (t bs rs : List ℕ) → is_word None t ≡ true → is_quote q ≡ true → t ++ bs ≡ q ∷ rs → ⊥
bare_or_quote q [] bs rs h g e = cc
bare_or_quote q (x ∷ xs) bs rs h g e =
    not_both (is_quote q) (is_quote x) g (bare_not_quote x
    ((both_true (is_bare x) (list_all is_bare xs) (bares (x ∷ xs) h)).0))
    (ap is_quote (sym (head x q (xs ++ bs) rs e)))

closing : (q : ℕ) (t behind : List ℕ) → (t ++ q ∷ []) ++ behind ≡ t ++ (q ∷ behind)
closing q t behind = append_assoc t (q ∷ []) behind

same_word : (q k : Option ℕ) (t u b c : List ℕ) → is_word q t ≡ true → halts q b ≡ true → is_word k u ≡ true
    → halts k c ≡ true → written q t ++ b ≡ written k u ++ c
    → (q ≡ k) × (t ≡ u) × (b ≡ c)
unfolding halts
same_word None None t u b c h f g d e =
    let split = one_split is_bare t b u c (bares t h) f (bares u g) d e in
    (refl, split.0, split.1)
same_word None (Some k) t u b c h f g d e =
    absurd (bare_or_quote k t b ((u ++ k ∷ []) ++ c) h (both_true (is_quote k) (list_all (is_inside k) u) g).0 e)
same_word (Some q) None t u b c h f g d e =
    absurd (bare_or_quote q u c ((t ++ q ∷ []) ++ b) g (both_true (is_quote q) (list_all (is_inside q) t) h).0 (sym e))
same_word (Some q) (Some k) t u b c h f g d e =
    let same : q ≡ k = head q k ((t ++ q ∷ []) ++ b) ((u ++ k ∷ []) ++ c) e in
    let inner : t ++ (q ∷ b) ≡ u ++ (k ∷ c) =
    sym (closing q t b) ∙ (tail q k ((t ++ q ∷ []) ++ b) ((u ++ k ∷ []) ++ c) e ∙ closing k u c) in
    let other : list_all (is_inside q) u ≡ true =
    subst (λ i. list_all (is_inside i) u ≡ true) (sym same)
    (both_true (is_quote k) (list_all (is_inside k) u) g).1 in
    let split =
    one_split (is_inside q) t (q ∷ b) u (k ∷ c) (both_true (is_quote q) (list_all (is_inside q) t) h).1
    (stops_at_quote q b) other (subst (λ i. stops (is_inside q) (i ∷ c) ≡ true) same
    (stops_at_quote q c)) inner in
    (ap Some same, split.0, tail q k b c split.1)

begins_once : (size : ℕ) (text : List ℕ) (w v : Word) (b c : List ℕ) → Begins size text w b → halts w.quote b ≡ true
    → Begins size text v c → halts v.quote c ≡ true
    → (seen w ≡ seen v) × (w.quote ≡ v.quote) × (b ≡ c)
begins_once size text w v b c x f y g =
    let split =
    one_split is_blank x.blanks (written w.quote w.text.now ++ b) y.blanks
    (written v.quote v.text.now ++ c) x.skipped (word_starts w.quote w.text.now b x.sound) y.skipped
    (word_starts v.quote v.text.now c y.sound) (sym x.parts ∙ y.parts) in
    let same = same_word w.quote v.quote w.text.now v.text.now b c x.sound f y.sound g split.1 in
    let at : w.at ≡ v.at = omega (arith, x.at, y.at, ap length split.1) in
    (rw (at, same.0, same.1) refl, same.0, same.2)

-- ---- what is behind the words of a line

-- nothing but blanks, or this fault
abbrev IsLast : ℕ → List ℕ → Option BadWord → Type 0
IsLast size rest None = list_all is_blank rest ≡ true
IsLast size rest (Some bad) = IsBadWord size rest bad

word_left : (q : Option ℕ) (t front behind : List ℕ) → is_word q t ≡ true
    → list_all is_blank (front ++ (written q t ++ behind)) ≡ true → ⊥
word_left None [] front behind h a = cc
word_left None (b ∷ bs) front behind h a =
    not_both (is_blank b) (is_blank b) (passes_at is_blank front b (bs ++ behind) a)
    (bare_not_blank b ((both_true (is_bare b) (list_all is_bare bs) (bares (b ∷ bs) h)).0)) refl
word_left (Some q) t front behind h a =
    not_both (is_blank q) (is_blank q) (passes_at is_blank front q ((t ++ q ∷ []) ++ behind) a)
    (quote_not_blank q ((both_true (is_quote q) (list_all (is_inside q) t) h).0)) refl

word_or_blanks : (size : ℕ) (text : List ℕ) (w : Word) (behind : List ℕ) → Begins size text w behind
    → list_all is_blank text ≡ true → ⊥
word_or_blanks size text w behind x a =
    word_left w.quote w.text.now x.blanks behind x.sound
    (subst (λ (xs : List ℕ). list_all is_blank xs ≡ true) x.parts a)

open_or_blanks : (size : ℕ) (text : List ℕ) (at : ℕ) → IsBadWord size text (OpenQuote at)
    → list_all is_blank text ≡ true → ⊥
open_or_blanks size text at (blanks, inside, q, skipped, quotes, inner, parts, is) a =
    not_both (is_blank q) (is_blank q) (passes_at is_blank blanks q inside
    (subst (λ (xs : List ℕ). list_all is_blank xs ≡ true) parts a)) (quote_not_blank q quotes) refl

-- a quote that is not closed, or a word
open_or_closed : (q : ℕ) (inside : List ℕ) (k : Option ℕ) (t behind : List ℕ) → is_quote q ≡ true
    → list_all (is_inside q) inside ≡ true → is_word k t ≡ true → q ∷ inside ≡ written k t ++ behind → ⊥
open_or_closed q inside None t behind a i h e = bare_or_quote q t behind inside h a (sym e)
open_or_closed q inside (Some k) t behind a i h e =
    let inner : inside ≡ t ++ (k ∷ behind) = tail q k inside ((t ++ k ∷ []) ++ behind) e ∙ closing k t behind in
    inside_other q k (passes_at (is_inside q) t k behind
    (subst (λ (xs : List ℕ). list_all (is_inside q) xs ≡ true) inner i))
    (sym (head q k inside ((t ++ k ∷ []) ++ behind) e))

open_or_word : (size : ℕ) (text : List ℕ) (at : ℕ) (w : Word) (behind : List ℕ) → IsBadWord size text (OpenQuote at)
    → Begins size text w behind → ⊥
open_or_word size text at w behind (blanks, inside, q, skipped, quotes, inner, parts, is) x =
    let split =
    one_split is_blank blanks (q ∷ inside) x.blanks (written w.quote w.text.now ++ behind) skipped
    (quote_starts q inside quotes) x.skipped (word_starts w.quote w.text.now behind x.sound)
    (sym parts ∙ x.parts) in
    open_or_closed q inside w.quote w.text.now behind quotes inner x.sound split.1

open_once : (size : ℕ) (text : List ℕ) (at to : ℕ) → IsBadWord size text (OpenQuote at)
    → IsBadWord size text (OpenQuote to) → at ≡ to
open_once size text at to (blanks, inside, q, skipped, quotes, inner, parts, is)
    (blanks2, inside2, q2, skipped2, quotes2, inner2, parts2, is2) =
    let split =
    one_split is_blank blanks (q ∷ inside) blanks2 (q2 ∷ inside2) skipped (quote_starts q inside quotes) skipped2
    (quote_starts q2 inside2 quotes2) (sym parts ∙ parts2) in
    omega (arith, is, is2, ap length split.1)

stray_once : (size : ℕ) (text : List ℕ) (at to : ℕ) → IsBadWord size text (StrayQuote at)
    → IsBadWord size text (StrayQuote to) → at ≡ to
stray_once size text at to (w, b, x, f, is) (v, c, y, g, is2) =
    let same = begins_once size text w v b c x (breaks_halts w.quote b f) y (breaks_halts v.quote c g) in
    omega (arith, is, is2, ap length same.2)

last_once : (size : ℕ) (rest : List ℕ) (a b : Option BadWord) → IsLast size rest a → IsLast size rest b → a ≡ b
last_once size rest a (Some (BadByte at)) h g = absurd g
last_once size rest a (Some TooLong) h g = absurd g
last_once size rest (Some (BadByte at)) b h g = absurd h
last_once size rest (Some TooLong) b h g = absurd h
last_once size rest None None h g = refl
last_once size rest None (Some (OpenQuote at)) h g = absurd (open_or_blanks size rest at g h)
last_once size rest None (Some (StrayQuote at)) h (w, b, x, f, is) = absurd (word_or_blanks size rest w b x h)
last_once size rest (Some (OpenQuote at)) None h g = absurd (open_or_blanks size rest at h g)
last_once size rest (Some (StrayQuote at)) None (w, b, x, f, is) g = absurd (word_or_blanks size rest w b x g)
last_once size rest (Some (OpenQuote at)) (Some (OpenQuote to)) h g =
    ap (λ i. Some (OpenQuote i)) (open_once size rest at to h g)
last_once size rest (Some (OpenQuote at)) (Some (StrayQuote to)) h (w, b, x, f, is) =
    absurd (open_or_word size rest at w b h x)
last_once size rest (Some (StrayQuote at)) (Some (OpenQuote to)) (w, b, x, f, is) g =
    absurd (open_or_word size rest to w b g x)
last_once size rest (Some (StrayQuote at)) (Some (StrayQuote to)) h g =
    ap (λ i. Some (StrayQuote i)) (stray_once size rest at to h g)

word_or_last : (size : ℕ) (text : List ℕ) (w : Word) (behind : List ℕ) (a : Option BadWord) → Begins size text w behind
    → ends behind ≡ true → IsLast size text a → ⊥
word_or_last size text w behind None x end h = word_or_blanks size text w behind x h
word_or_last size text w behind (Some (OpenQuote at)) x end h = open_or_word size text at w behind h x
word_or_last size text w behind (Some (StrayQuote at)) x end (v, c, y, g, is) =
    let same = begins_once size text w v behind c x (ends_halts w.quote behind end) y (breaks_halts v.quote c g) in
    ends_or_breaks v.quote behind end (subst (λ (xs : List ℕ). breaks v.quote xs ≡ true) (sym same.2) g)
word_or_last size text w behind (Some (BadByte at)) x end h = h
word_or_last size text w behind (Some TooLong) x end h = h

-- ---- all words

lead_once : (size : ℕ) (text : List ℕ) (ws vs : List Word) (r s : List ℕ) (a b : Option BadWord) → Leads size text ws r
    → IsLast size r a → Leads size text vs s → IsLast size s b
    → (map seen ws ≡ map seen vs) × (a ≡ b)
lead_once size text [] [] r s a b x h y g = (
  refl,
  last_once size text a b (subst (λ (xs : List ℕ). IsLast size xs a) (sym x) h)
      (subst (λ (xs : List ℕ). IsLast size xs b) (sym y) g),
)
lead_once size text [] (v ∷ vs) r s a b x h (c, begins, end, more) g =
    absurd (word_or_last size text v c a begins end (subst (λ (xs : List ℕ). IsLast size xs a) (sym x) h))
lead_once size text (w ∷ ws) [] r s a b (c, begins, end, more) h y g =
    absurd (word_or_last size text w c b begins end (subst (λ (xs : List ℕ). IsLast size xs b) (sym y) g))
lead_once size text (w ∷ ws) (v ∷ vs) r s a b (c, begins, end, more) h (d, begins2, end2, more2) g =
    let one = begins_once size text w v c d begins (ends_halts w.quote c end) begins2 (ends_halts v.quote d end2) in
    let others = lead_once size d ws vs r s a b (subst (λ (xs : List ℕ). Leads size xs ws r) one.2 more) h more2 g in
    (rw (one.0, others.0) refl, others.1)

-- ---- a line

outcome : List (ℕ × Option ℕ × List ℕ) → Option BadWord → Result (List (ℕ × Option ℕ × List ℕ)) BadWord
outcome words None = Ok words
outcome words (Some bad) = Err bad

unsound : List ℕ → BadWord
unsound line = if nat_lt 8192 (length line) then TooLong else BadByte (prefix_len is_plain line)

-- the words of a sound line and what is behind them, or an unsound line
Read : List ℕ → Result (List Word) BadWord → Type 0
Read line one =
    (IsSound line × ((words : List Word) × (rest : List ℕ) × (last : Option BadWord)
    × Leads (length line) line words rest × IsLast (length line) rest last
    × (all_seen one ≡ outcome (map seen words) last)))
    ⊎ ((IsSound line → ⊥) × (all_seen one ≡ Err (unsound line)))

all_len : (p : ℕ → Bool) (xs : List ℕ) → list_all p xs ≡ true → prefix_len p xs ≡ length xs
all_len p [] h = refl
all_len p (x ∷ xs) h =
    let parts = both_true (p x) (list_all p xs) h in
    rw parts.0 (omega (arith, all_len p xs parts.1))

read : (line : List ℕ) (one : Result (List Word) BadWord) → IsCut line one → Read line one
unfolding outcome unsound Read
read line (Ok words) (sound, (rest, leads, blank)) = inl (sound, (words, rest, None, leads, blank, refl))
read line (Err (OpenQuote at)) (sound, (words, rest, leads, bad)) =
    inl (sound, (words, rest, Some (OpenQuote at), leads, bad, refl))
read line (Err (StrayQuote at)) (sound, (words, rest, leads, bad)) =
    inl (sound, (words, rest, Some (StrayQuote at), leads, bad, refl))
read line (Err TooLong) long =
    let yes : nat_lt 8192 (length line) ≡ true = grind (arith, nat_tests) in
    inr (λ sound. omega (arith, sound.0, long), rw yes refl)
read line (Err (BadByte at)) (short, is, within) =
    let no : nat_lt 8192 (length line) ≡ false = grind (arith, nat_tests) in
    inr (λ sound. omega (arith, all_len is_plain line sound.1, is, within), rw (no, is) refl)

pub lines_are_cut_once : LinesAreCutOnce
unfolding Read
lines_are_cut_once line one other h g = both (read line one h) (read line other g)
  where
    both : Read line one → Read line other → all_seen one ≡ all_seen other
    both (inl (sound, (ws, r, a, leads, last, is))) (inl (sound2, (vs, s, b, leads2, last2, is2))) =
        let same = lead_once (length line) line ws vs r s a b leads last leads2 last2 in
        is ∙ (rw (same.0, same.1) refl ∙ sym is2)
    both (inl (sound, more)) (inr (bad, is)) = absurd (bad sound)
    both (inr (bad, is)) (inl (sound, more)) = absurd (bad sound)
    both (inr (bad, is)) (inr (bad2, is2)) = is ∙ sym is2
