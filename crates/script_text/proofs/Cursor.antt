-- What a text begins with, and its words.
use Rattle.std.proofs.Common.{◌≡◌, ℕ, suc, ◌+◌, ◌<◌, ◌≤◌, Bool, true, false, not, ◌||◌, ◌&&◌, ◌==◌, nat_le, cond, List, [], ◌∷◌, length, take, drop, get_or, refl, sym, ap, subst, ◌∙◌, arith, Option, None, Some, is_some, length-drop}
use Rattle.std.specs.Option.{option_map, unwrap_or}
use Rattle.std.specs.List.{prefix_len, list_all}
use Rattle.std.specs.Str.{IsAscii}
use Rattle.std.proofs.lemmas.Bool.Decides.{nat_tests}
use Rattle.std.proofs.lemmas.Str.{IsAscii-drop}
use Rattle.std.proofs.lemmas.Str.Ascii.{IsAscii-nil, IsAscii-cons}
use Rattle.std.proofs.lemmas.List.{drop-drop}
use Rattle.script_text.specs.Words.{is_quote, is_printable, onto_word, words_from, words_of, Between, Bare, Quoted, Behind}
use Rattle.script_text.specs.Left.{words_left}
use Rattle.script_text.specs.Inside.{is_space, is_bare, is_inside, ends_word, GoesOn, IsShorter}
use Rattle.script_text.specs.declared.words.FirstWord.{FirstWord}
use Rattle.script_text.specs.declared.words.FirstWord.TheVariants as first

one_more : (n : ℕ) → 1 + n ≡ suc n
one_more n = omega arith

-- spaces in front change nothing
pub skip : (xs : List ℕ) → words_from Between xs ≡ words_from Between (drop (prefix_len is_space xs) xs)
skip [] = refl
skip (b ∷ bs) =
    elim (is_space b) as (λ v. is_space b ≡ v → words_from Between (b ∷ bs) ≡ words_from Between (drop (cond v (1 + prefix_len is_space bs) 0) (b ∷ bs))) [
      | true ↦ λ e. rw (one_more (prefix_len is_space bs), e) (skip bs)
      | false ↦ λ e. refl
    ] refl

-- what is left behind the spaces begins with none
pub stops : (xs : List ℕ) → 0 < length (drop (prefix_len is_space xs) xs) → is_space (get_or (drop (prefix_len is_space xs) xs) 0 0) ≡ false
stops [] h = absurd (omega arith)
stops (b ∷ bs) h =
    elim (is_space b) as (λ v. is_space b ≡ v → 0 < length (drop (cond v (1 + prefix_len is_space bs) 0) (b ∷ bs)) → is_space (get_or (drop (cond v (1 + prefix_len is_space bs) 0) (b ∷ bs)) 0 0) ≡ false) [
      | true ↦ λ e. rw (one_more (prefix_len is_space bs)) (stops bs)
      | false ↦ λ e p. e
    ] refl h

onto : (b : ℕ) (w : List ℕ) (o : Option (List (List ℕ))) → option_map (onto_word b) (option_map (λ ws. w ∷ ws) o) ≡ option_map (λ ws. (b ∷ w) ∷ ws) o
onto b w None = refl
onto b w (Some ws) = refl

-- the rest of a bare word
pub bare_rest : (xs : List ℕ) → words_from Bare xs ≡ option_map (λ ws. take (prefix_len is_bare xs) xs ∷ ws) (words_from Behind (drop (prefix_len is_bare xs) xs))
bare_rest [] = refl
bare_rest (b ∷ bs) =
    let n = prefix_len is_bare bs in
    elim (b == 32) as (λ v. (b == 32) ≡ v → words_from Bare (b ∷ bs) ≡ option_map (λ ws. take (cond (not (v || is_quote b)) (1 + n) 0) (b ∷ bs) ∷ ws) (words_from Behind (drop (cond (not (v || is_quote b)) (1 + n) 0) (b ∷ bs)))) [
      | true ↦ λ e. rw e refl
      | false ↦ λ e.
          elim (is_quote b) as (λ q. is_quote b ≡ q → words_from Bare (b ∷ bs) ≡ option_map (λ ws. take (cond (not q) (1 + n) 0) (b ∷ bs) ∷ ws) (words_from Behind (drop (cond (not q) (1 + n) 0) (b ∷ bs)))) [
            | true ↦ λ q. rw (e, q) refl
            | false ↦ λ q. rw (one_more n, e, q) (ap (option_map (onto_word b)) (bare_rest bs) ∙ onto b (take n bs) (words_from Behind (drop n bs)))
          ] refl
    ] refl

-- the rest of a word behind a quote that is closed
pub closed_rest : (q : ℕ) (xs : List ℕ) → prefix_len (is_inside q) xs < length xs → words_from (Quoted q) xs ≡ option_map (λ ws. take (prefix_len (is_inside q) xs) xs ∷ ws) (words_from Behind (drop (prefix_len (is_inside q) xs + 1) xs))
closed_rest q [] h = absurd (omega arith)
closed_rest q (b ∷ bs) h =
    let n = prefix_len (is_inside q) bs in
    elim (b == q) as (λ v. (b == q) ≡ v → cond (not v) (1 + n) 0 < suc (length bs) → words_from (Quoted q) (b ∷ bs) ≡ option_map (λ ws. take (cond (not v) (1 + n) 0) (b ∷ bs) ∷ ws) (words_from Behind (drop (cond (not v) (1 + n) 0 + 1) (b ∷ bs)))) [
      | true ↦ λ e p. rw e refl
      | false ↦ λ e p.
          let two : 1 + n + 1 ≡ suc (n + 1) = omega arith in
          rw (two, one_more n, e) (ap (option_map (onto_word b)) (closed_rest q bs (omega arith)) ∙ onto b (take n bs) (words_from Behind (drop (n + 1) bs)))
    ] refl h

-- a quote that is not closed
pub open_rest : (q : ℕ) (xs : List ℕ) → prefix_len (is_inside q) xs ≡ length xs → words_from (Quoted q) xs ≡ None
open_rest q [] h = refl
open_rest q (b ∷ bs) h =
    let n = prefix_len (is_inside q) bs in
    elim (b == q) as (λ v. (b == q) ≡ v → cond (not v) (1 + n) 0 ≡ suc (length bs) → words_from (Quoted q) (b ∷ bs) ≡ None) [
      | true ↦ λ e p. absurd (omega arith)
      | false ↦ λ e p. rw e (ap (option_map (onto_word b)) (open_rest q bs (omega arith)))
    ] refl h

-- behind a word
pub behind_ends : (xs : List ℕ) → ends_word xs ≡ true → words_from Behind xs ≡ words_from Between xs
behind_ends [] h = refl
behind_ends (b ∷ bs) h = rw h refl

pub behind_goes_on : (xs : List ℕ) → ends_word xs ≡ false → words_from Behind xs ≡ None
behind_goes_on [] h = absurd cc
behind_goes_on (b ∷ bs) h = rw h refl

-- the text begins with a word
pub no_word : (text start : List ℕ) → start ≡ drop (prefix_len is_space text) text → length start ≡ 0 → Some [] ≡ words_from Between text
no_word text [] is h = sym (skip text ∙ ap (words_from Between) (sym is))
no_word text (b ∷ bs) is h = absurd (omega arith)

pub at_quote : (text start : List ℕ) (q : ℕ) → start ≡ drop (prefix_len is_space text) text → 0 < length start → q ≡ get_or start 0 0 → is_quote q ≡ true → words_from (Quoted q) (drop 1 start) ≡ words_from Between text
at_quote text [] q is h first quote = absurd (omega arith)
at_quote text (b ∷ bs) q is h first quote =
    let front : is_space b ≡ false = subst (λ (xs : List ℕ). 0 < length xs → is_space (get_or xs 0 0) ≡ false) (sym is) (stops text) h in
    let quotes : is_quote b ≡ true = ap is_quote (sym first) ∙ quote in
    let here : words_from Between (b ∷ bs) ≡ words_from (Quoted b) bs = rw (front, quotes) refl in
    ap (λ k. words_from (Quoted k) bs) first ∙ sym (skip text ∙ ap (words_from Between) (sym is) ∙ here)

pub at_bare : (text start : List ℕ) (b : ℕ) → start ≡ drop (prefix_len is_space text) text → 0 < length start → b ≡ get_or start 0 0 → is_quote b ≡ false → words_from Bare start ≡ words_from Between text
at_bare text [] k is h first quote = absurd (omega arith)
at_bare text (b ∷ bs) k is h first quote =
    let front : is_space b ≡ false = subst (λ (xs : List ℕ). 0 < length xs → is_space (get_or xs 0 0) ≡ false) (sym is) (stops text) h in
    let quotes : is_quote b ≡ false = ap is_quote (sym first) ∙ quote in
    let here : words_from Between (b ∷ bs) ≡ words_from Bare (b ∷ bs) = rw (front, quotes) refl in
    sym (skip text ∙ ap (words_from Between) (sym is) ∙ here)

-- a bare word has a byte
pub bare_byte : (text start : List ℕ) (b : ℕ) → start ≡ drop (prefix_len is_space text) text → 0 < length start → b ≡ get_or start 0 0 → is_quote b ≡ false → 0 < prefix_len is_bare start
bare_byte text [] k is h first quote = absurd (omega arith)
bare_byte text (b ∷ bs) k is h first quote =
    let front : is_space b ≡ false = subst (λ (xs : List ℕ). 0 < length xs → is_space (get_or xs 0 0) ≡ false) (sym is) (stops text) h in
    let quotes : is_quote b ≡ false = ap is_quote (sym first) ∙ quote in
    let P : ℕ → Type 0 = λ n. 0 < n in
    let len : 1 + prefix_len is_bare bs ≡ prefix_len is_bare (b ∷ bs) = rw (front, quotes) refl in
    subst P len (omega arith)

-- what goes on behind a word is shorter than the text
pub shorter : (text rest : List ℕ) (r : FirstWord) → GoesOn rest r → IsAscii rest → length rest < length text → IsShorter text r
shorter text rest first.Bad g a h = tt
shorter text rest first.End g a h = tt
shorter text rest (first.Word word behind) g a h =
    let P : List ℕ → Type 0 = λ xs. IsAscii xs × (length xs < length text) in
    subst P (sym g) (a, h)

-- a part of what is left of an ASCII text
pub part_of : (text start : List ℕ) (k n : ℕ) (r : FirstWord) → IsAscii text → start ≡ drop k text → 0 < length start → 0 < n → GoesOn (drop n start) r → IsShorter text r
part_of text start k n r ascii is some steps goes =
    let P : List ℕ → Type 0 = λ xs. IsAscii xs in
    shorter text (drop n start) r goes (IsAscii-drop start n (subst P (sym is) (IsAscii-drop text k ascii))) (omega (arith, length-drop n start, length-drop k text, ap length is))

-- a part of what is behind a quote
pub part_behind : (text start inside : List ℕ) (k n : ℕ) (r : FirstWord) → IsAscii text → start ≡ drop k text → inside ≡ drop 1 start → 0 < length start → GoesOn (drop n inside) r → IsShorter text r
part_behind text start inside k n r ascii is one some goes =
    let Q : List ℕ → Type 0 = λ xs. GoesOn xs r in
    part_of text start k (1 + n) r ascii is some (omega arith) (subst Q (ap (drop n) one ∙ drop-drop n 1 start) goes)

pub not_empty : (n : ℕ) (b : Bool) → b ≡ (n == 0) → b ≡ false → 0 < n
not_empty n b e f = grind (arith, nat_tests)

is_some_mapped : (w : List ℕ) (o : Option (List (List ℕ))) → is_some (option_map (λ ws. w ∷ ws) o) ≡ is_some o
is_some_mapped w None = refl
is_some_mapped w (Some ws) = refl

-- what goes on behind a word can be cut into words where the text can
pub same_behind : (w : List ℕ) (behind rest : List ℕ) → option_map (λ ws. w ∷ ws) (words_from Between behind) ≡ words_from Between rest → is_some (words_from Between behind) ≡ is_some (words_from Between rest)
same_behind w behind rest e = sym (is_some_mapped w (words_from Between behind)) ∙ ap is_some e

-- and its words are the others
left_by : (w : List ℕ) (o p : Option (List (List ℕ))) → option_map (λ ws. w ∷ ws) o ≡ p → is_some p ≡ true → unwrap_or p [] ≡ w ∷ unwrap_or o []
left_by w None None e h = absurd cc
left_by w None (Some ws) e h = absurd cc
left_by w (Some vs) None e h = absurd cc
left_by w (Some vs) (Some ws) e h = cc

pub left_behind : (w : List ℕ) (behind rest : List ℕ) → option_map (λ ws. w ∷ ws) (words_from Between behind) ≡ words_from Between rest → is_some (words_from Between rest) ≡ true → words_left rest ≡ w ∷ words_left behind
left_behind w behind rest e h = left_by w (words_from Between behind) (words_from Between rest) e h

-- bytes from 32 to 126 are ASCII
printable_is_ascii : (b : ℕ) → is_printable b ≡ true → b < 128
printable_is_ascii b h = grind (arith, nat_tests)

and_first : (a b : Bool) → (a && b) ≡ true → a ≡ true
and_first true b h = refl
and_first false b h = absurd cc

and_second : (a b : Bool) → (a && b) ≡ true → b ≡ true
and_second true b h = h
and_second false b h = absurd cc

pub printable_ascii : (xs : List ℕ) → list_all is_printable xs ≡ true → IsAscii xs
printable_ascii [] h = IsAscii-nil
printable_ascii (b ∷ bs) h = IsAscii-cons b bs (printable_is_ascii b (and_first (is_printable b) _ h)) (printable_ascii bs (and_second (is_printable b) _ h))

-- the words of a line that is short enough and printable
pub sound_words : (line : List ℕ) → length line ≤ 8192 → list_all is_printable line ≡ true → words_of line ≡ words_from Between line
sound_words line h p =
    let short : nat_le (length line) 8192 ≡ true = grind (arith, nat_tests) in
    rw (short, p) refl

some_is : (o : Option (List (List ℕ))) → is_some o ≡ true → Some (unwrap_or o []) ≡ o
some_is None h = absurd cc
some_is (Some ws) h = refl

none_is : (o : Option (List (List ℕ))) → is_some o ≡ false → o ≡ None
none_is None h = refl
none_is (Some ws) h = absurd cc

pub gives_words : (line text : List ℕ) → length line ≤ 8192 → list_all is_printable line ≡ true → text ≡ line → is_some (words_from Between text) ≡ true → Some (words_left text) ≡ words_of line
gives_words line text h p same some = some_is (words_from Between text) some ∙ ap (words_from Between) same ∙ sym (sound_words line h p)

pub gives_none : (line text : List ℕ) → length line ≤ 8192 → list_all is_printable line ≡ true → text ≡ line → is_some (words_from Between text) ≡ false → None ≡ words_of line
gives_none line text h p same none = sym (sound_words line h p ∙ ap (words_from Between) (sym same) ∙ none_is (words_from Between text) none)
