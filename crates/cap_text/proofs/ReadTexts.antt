-- How a text is read, and that what it spells is read from it.
use Prim.Native.Nat.{zero, suc}
use Rattle.std.proofs.Common.{◌≡◌, ◌∙◌, ℕ, ◌<◌, ◌≤◌, ◌+◌, ◌-◌, ◌⊎◌, inl, inr, Bool, true, false, ◌&&◌, ◌||◌, ◌==◌, cond, if◌then◌else◌, List, [], ◌∷◌, ◌++◌, Option, Some, None, Result, Ok, Err, refl, sym, ap, subst, arith, append-nil, append_assoc, length, take, drop}
use Rattle.std.specs.Prelude.{nat_lt}
use Rattle.std.specs.List.{prefix_len}
use Rattle.std.specs.Cmp.{unsigned_Decides}
use Rattle.std.proofs.lemmas.Bool.{ltb-true}
use Rattle.cap_grants.specs.Bytes.{is_space, is_quote, is_quotable, Each, StopsBefore, is_empty, SkipsSpaces}
use Rattle.common_types.specs.WordBytes.{is_word_byte}
use Rattle.cap_text.specs.Reads.{Stands, SaysBehind, is_word, ReadsOne, Reads, ends_in_word}
use Rattle.cap_text.specs.Grammar.{Grants, GrantPhrase}
use Rattle.cap_text.specs.Machine.{advance, finish, placed}
use Rattle.cap_text.specs.declared.token.Token.{Token}
use Rattle.cap_text.specs.declared.token.Token.TheVariants.{Comma, Semicolon, Equals, Star, Word, Quoted}
use Rattle.cap_text.specs.Stage.{State}
use Rattle.cap_grants.specs.declared.fault_kind.FaultKind.{FaultKind}
use Rattle.cap_grants.specs.declared.fault_kind.FaultKind.TheVariants.{TooLong, TooManyGrants}
use Rattle.cap_grants.specs.declared.grant.Grant.{Grant}
use Rattle.cap_text.proofs.Spans.{prefix_len-span, take-span, drop-span}
use Rattle.cap_text.proofs.Reading.{leads, one_shorter}
use Rattle.cap_text.proofs.Forth.{◌then◌, run, complete}
use Rattle.cap_text.proofs.Runs.{whole, all_of, origin, Room, advance_room, then_is, run-append, run_on, given_on, too_many}
use Rattle.cap_text.specs.Stage as stages
use Rattle.cap_text.specs.ReadText.{quoted_at, token_at, Read, carried, with_token, read_at, read_from, read_text, ReadsTheGrammar}

-- ---- tokens

-- a byte that passes a test is not one that fails it
apart : (test : ℕ → Bool) (b n : ℕ) → test b ≡ true → test n ≡ false → (b == n) ≡ false
apart test b n passes fails = go (b == n) refl
  where
    go : (t : Bool) → (b == n) ≡ t → t ≡ false
    go true e = let same : b ≡ n = (unsigned_Decides b n).0 e in sym passes ∙ ap test same ∙ fails
    go false e = refl

not_quote : (b : ℕ) → is_word_byte b ≡ true → is_quote b ≡ false
not_quote b h = ap (λ t. t || (b == 34)) (apart is_word_byte b 39 h refl) ∙ apart is_word_byte b 34 h refl

chosen_word : (behind : Bool) (b : ℕ) (bs : List ℕ) → is_word_byte b ≡ true
    → token_at behind (b ∷ bs) ≡ Some (Word (take (prefix_len is_word_byte (b ∷ bs)) (b ∷ bs)), drop (prefix_len is_word_byte (b ∷ bs)) (b ∷ bs))
chosen_word behind b bs h = go (b == 44) (b == 59) (b == 61) (b == 42) (is_quote b) (is_word_byte b) (apart is_word_byte b 44 h refl) (apart is_word_byte b 59 h refl) (apart is_word_byte b 61 h refl) (apart is_word_byte b 42 h refl) (not_quote b h) h
  where
    word : Option (Token × List ℕ)
    word = Some (Word (take (prefix_len is_word_byte (b ∷ bs)) (b ∷ bs)), drop (prefix_len is_word_byte (b ∷ bs)) (b ∷ bs))

    go : (c1 c2 c3 c4 c5 c6 : Bool) → c1 ≡ false → c2 ≡ false → c3 ≡ false → c4 ≡ false → c5 ≡ false → c6 ≡ true
        → (if c1 then Some (Comma, bs) else if c2 then Some (Semicolon, bs) else if c3 then Some (Equals, bs) else if c4 then Some (Star behind, bs) else if c5 then quoted_at b bs else if c6 then word else None) ≡ word
    go false false false false false true e1 e2 e3 e4 e5 e6 = refl
    go true c2 c3 c4 c5 c6 e1 e2 e3 e4 e5 e6 = absurd (cc)
    go false true c3 c4 c5 c6 e1 e2 e3 e4 e5 e6 = absurd (cc)
    go false false true c4 c5 c6 e1 e2 e3 e4 e5 e6 = absurd (cc)
    go false false false true c5 c6 e1 e2 e3 e4 e5 e6 = absurd (cc)
    go false false false false true c6 e1 e2 e3 e4 e5 e6 = absurd (cc)
    go false false false false false false e1 e2 e3 e4 e5 e6 = absurd (cc)

closed : (q : ℕ) → is_quotable q q ≡ false → (q == q) ≡ true → (inside after : List ℕ) → Each (is_quotable q) inside → quoted_at q (inside ++ q ∷ after) ≡ Some (Quoted inside, after)
closed q stop same inside after h =
    let n : prefix_len (is_quotable q) (inside ++ q ∷ after) ≡ length inside = prefix_len-span (is_quotable q) inside (q ∷ after) h stop in
    let front : take (prefix_len (is_quotable q) (inside ++ q ∷ after)) (inside ++ q ∷ after) ≡ inside = take-span (is_quotable q) inside (q ∷ after) h stop in
    let back : drop (prefix_len (is_quotable q) (inside ++ q ∷ after)) (inside ++ q ∷ after) ≡ q ∷ after = drop-span (is_quotable q) inside (q ∷ after) h stop in
    let C : List ℕ → List ℕ → Option (Token × List ℕ) = λ f r. if prefix_len (λ b. b == q) (take 1 r) == 1 then Some (Quoted f, drop 1 r) else None in
    ap (λ f. C f (drop (prefix_len (is_quotable q) (inside ++ q ∷ after)) (inside ++ q ∷ after))) front
    ∙ ap (C inside) back
    ∙ ap (λ t. if cond t (1 + 0) 0 == 1 then Some (Quoted inside, after) else None) same

is_mark : (q : ℕ) → is_quote q ≡ true → (q ≡ 39) ⊎ (q ≡ 34)
is_mark q h = go (q == 39) refl
  where
    go : (b : Bool) → (q == 39) ≡ b → (q ≡ 39) ⊎ (q ≡ 34)
    go true e = inl ((unsigned_Decides q 39).0 e)
    go false e = inr ((unsigned_Decides q 34).0 (sym (ap (λ t. t || (q == 34)) e) ∙ h))

quoted_found : (behind : Bool) (q : ℕ) (inside after : List ℕ) → is_quote q ≡ true → Each (is_quotable q) inside → token_at behind (q ∷ inside ++ q ∷ after) ≡ Some (Quoted inside, after)
quoted_found behind q inside after mark each = go (is_mark q mark)
  where
    by_39 : q ≡ 39 → token_at behind (q ∷ inside ++ q ∷ after) ≡ Some (Quoted inside, after)
    by_39 e = ap (λ n. token_at behind (n ∷ inside ++ n ∷ after)) e ∙ closed 39 refl refl inside after (let P : ℕ → Type 0 = λ n. Each (is_quotable n) inside in subst P e each)

    by_34 : q ≡ 34 → token_at behind (q ∷ inside ++ q ∷ after) ≡ Some (Quoted inside, after)
    by_34 e = ap (λ n. token_at behind (n ∷ inside ++ n ∷ after)) e ∙ closed 34 refl refl inside after (let P : ℕ → Type 0 = λ n. Each (is_quotable n) inside in subst P e each)

    go : (q ≡ 39) ⊎ (q ≡ 34) → token_at behind (q ∷ inside ++ q ∷ after) ≡ Some (Quoted inside, after)
    go (inl e) = by_39 e
    go (inr e) = by_34 e

pub token_found : (behind : Bool) (t : Token) (start after : List ℕ) → Stands t start after → SaysBehind behind t → token_at behind start ≡ Some (t, after)
token_found behind Comma start after h says = ap (token_at behind) h
token_found behind Semicolon start after h says = ap (token_at behind) h
token_found behind Equals start after h says = ap (token_at behind) h
token_found behind (Star b) start after h says = ap (token_at behind) h ∙ ap (λ c. Some (Star c, after)) (sym says)
token_found behind (Word []) start after h says = absurd (h.1 refl)
token_found behind (Word (b ∷ w)) start after h says =
    ap (token_at behind) h.0
    ∙ chosen_word behind b (w ++ after) h.2.0
    ∙ ap (λ f. Some (Word f, drop (prefix_len is_word_byte (b ∷ w ++ after)) (b ∷ w ++ after))) (take-span is_word_byte (b ∷ w) after h.2 h.3)
    ∙ ap (λ r. Some (Word (b ∷ w), r)) (drop-span is_word_byte (b ∷ w) after h.2 h.3)
token_found behind (Quoted q) start after h says = ap (token_at behind) h.2 ∙ quoted_found behind h.0 q after h.1 h.3

-- ---- the list

pub starts : (t : Token) (start after : List ℕ) → Stands t start after → (StopsBefore is_space start) × (is_empty start ≡ false)
starts t start after h =
    let l = leads t start after h in
    let P : List ℕ → Type 0 = λ s. StopsBefore is_space s in
    (subst P (sym l.parts) l.no_space, ap is_empty l.parts)

spaces_empty : (spaces : List ℕ) → is_empty spaces ≡ (length spaces == 0)
spaces_empty [] = refl
spaces_empty (b ∷ bs) = sym (not_zero (length bs))
  where
    not_zero : (n : ℕ) → (suc n == 0) ≡ false
    not_zero n = go (suc n == 0) refl
      where
        go : (b : Bool) → (suc n == 0) ≡ b → b ≡ false
        go true e = let same : suc n ≡ 0 = (unsigned_Decides (suc n) 0).0 e in absurd (omega arith)
        go false e = refl

pub not_full : (n : ℕ) → n < 64 → (n == 64) ≡ false
not_full n h = go (n == 64) refl
  where
    go : (b : Bool) → (n == 64) ≡ b → b ≡ false
    go true e = let same : n ≡ 64 = (unsigned_Decides n 64).0 e in absurd (omega arith)
    go false e = refl

-- what stands behind spaces
pub at_rest : (n total : ℕ) (behind : Bool) (text rest : List ℕ) (s : State) (skips : SkipsSpaces text rest) → read_from (suc n) total s behind text ≡ read_at (total - length rest) s (behind && is_empty skips.0) rest (read_from n total)
at_rest n total behind text rest s skips =
    let count : prefix_len is_space text ≡ length skips.0 = ap (prefix_len is_space) skips.2 ∙ prefix_len-span is_space skips.0 rest skips.1 skips.3 in
    let behind_spaces : drop (prefix_len is_space text) text ≡ rest = ap (λ x. drop (prefix_len is_space x) x) skips.2 ∙ drop-span is_space skips.0 rest skips.1 skips.3 in
    ap (λ r. read_at (total - length r) s (behind && (prefix_len is_space text == 0)) r (read_from n total)) behind_spaces
    ∙ ap (λ k. read_at (total - length rest) s (behind && (k == 0)) rest (read_from n total)) count
    ∙ ap (λ b. read_at (total - length rest) s (behind && b) rest (read_from n total)) (sym (spaces_empty skips.0))

pub at_some : (at : ℕ) (s : State) (behind : Bool) (rest : List ℕ) (next : State → Bool → List ℕ → Read) (full : Bool) → is_empty rest ≡ false → (length s.done == 64) ≡ full
    → read_at at s behind rest next ≡ (if full then Err (placed TooManyGrants at) else with_token at s (token_at behind rest) next)
at_some at s behind rest next full some counts =
    ap (λ b. if b then carried at (finish s) (λ grants. Ok grants) else if length s.done == 64 then Err (placed TooManyGrants at) else with_token at s (token_at behind rest) next) some
    ∙ ap (λ b. if b then Err (placed TooManyGrants at) else with_token at s (token_at behind rest) next) counts

-- one token, where a grant more may come
pub at_token : (n total : ℕ) (behind : Bool) (text : List ℕ) (t : Token) (after : List ℕ) (s : State) → (one : ReadsOne behind text t after) → length s.done < 64
    → read_from (suc n) total s behind text ≡ carried (total - length one.1) (advance s t) (λ v. read_from n total v (is_word t) after)
at_token n total behind text t after s one few =
    let begin = starts t one.1 after one.4 in
    at_rest n total behind text one.1 s (one.0, one.2, one.3, begin.0)
    ∙ at_some (total - length one.1) s (behind && is_empty one.0) one.1 (read_from n total) false begin.1 (not_full (length s.done) few)
    ∙ ap (λ o. with_token (total - length one.1) s o (read_from n total)) (token_found (behind && is_empty one.0) t one.1 after one.4 one.5)

-- the end of a text
pub at_end : (n total : ℕ) (behind : Bool) (text : List ℕ) (s : State) → Each is_space text → read_from (suc n) total s behind text ≡ carried (total - 0) (finish s) (λ grants. Ok grants)
at_end n total behind text s blank = at_rest n total behind text [] s (text, blank, sym (append-nil text), tt)

-- 64 grants and a separator are not all that stands before the last of these tokens
abbrev pub NotPastBefore : List Token → Type 0
NotPastBefore ts = (p : List Token) (t : Token) (q : List Token) (s : State) → ts ≡ p ++ t ∷ q → run origin p ≡ whole s → length s.done ≡ 64 → s.stage ≡ stages.Separator → ⊥

-- the state of a reading behind some tokens
pub record Comes (r : Read) (total : ℕ) (u : State) (behind : Bool) (rest : List ℕ) : Type 0 where
  pub fuel : ℕ
  pub enough : length rest < fuel
  pub room : Room u
  pub goes : r ≡ read_from fuel total u behind rest

pub comes_on : (n total : ℕ) (behind : Bool) (text : List ℕ) (p q : List Token) (rest : List ℕ) (s u : State)
    → length text < n → Reads behind text q rest → Room s → run origin p ≡ whole s → run s q ≡ whole u → NotPastBefore (p ++ q) → Comes (read_from n total s behind text) total u (ends_in_word behind q) rest
comes_on zero total behind text p q rest s u fuel reads room at on before = absurd (omega arith)
comes_on (suc n) total behind text p [] rest s u fuel reads room at on before =
    let same : s ≡ u = (let x : whole s ≡ whole u = on in cc) in
    let R : State → Type 0 = λ v. Room v in
    record {
      fuel = suc n;
      enough = omega (arith, ap length reads);
      room = subst R same room;
      goes = ap (λ v. read_from (suc n) total v behind text) same ∙ ap (λ x. read_from (suc n) total u behind x) reads;
    }
comes_on (suc n) total behind text p (t ∷ q) rest s u fuel reads room at on before =
    let after : List ℕ = reads.0 in
    let one : ReadsOne behind text t after = reads.1 in
    let next = then_is (advance s t) (λ v. run v q) u on in
    let few : length s.done < 64 = elim room [ inl x ↦ x | inr x ↦ absurd (before p t q s refl at x.0 x.1) ] in
    let shorter : length after < length text = one_shorter behind text t after one in
    let B : List Token → Type 0 = λ ts. NotPastBefore ts in
    let later : run origin (p ++ t ∷ []) ≡ whole next.0 = run_on p (t ∷ []) s at ∙ ap (λ r. r then λ v. run v []) next.1 in
    let c = comes_on n total (is_word t) after (p ++ t ∷ []) q rest next.0 u (omega arith) reads.2 (advance_room s t next.0 few next.1) later next.2 (subst B (sym (append_assoc p (t ∷ []) q)) before) in
    record {
      fuel = c.fuel;
      enough = c.enough;
      room = c.room;
      goes = at_token n total behind text t after s one few ∙ ap (λ r. carried (total - length one.1) r (λ v. read_from n total v (is_word t) after)) next.1 ∙ c.goes;
    }

-- the state that a list's tokens lead to
pub led : (p : List Token) (ts : List Token) (gs : List Grant) → Grants GrantPhrase (p ++ ts) gs → (u : State) × (run origin p ≡ whole u)
led p ts gs h = go (run origin p) refl (sym (ap (λ r. r then finish) (run-append p ts origin)) ∙ complete (p ++ ts) gs h)
  where
    go : (r : Result State FaultKind) → run origin p ≡ r → ((r then λ u. run u ts) then finish) ≡ all_of gs → (u : State) × (run origin p ≡ whole u)
    go (Ok u) e k = (u, e)
    go (Err x) e bad = absurd (cc)

short_enough : (n : ℕ) → n ≤ 4096 → nat_lt 4096 n ≡ false
short_enough n h = go (nat_lt 4096 n) refl
  where
    go : (b : Bool) → nat_lt 4096 n ≡ b → b ≡ false
    go true e = let more : 4096 < n = ltb-true 4096 n e in absurd (omega arith)
    go false e = refl

-- a text that is not too long is read token by token
pub reads_from_start : (text : List ℕ) → length text ≤ 4096 → read_text text ≡ read_from (length text + 1) (length text) origin false text
unfolding read_text
reads_from_start text short = ap (λ b. if b then Err (placed TooLong 0) else read_from (length text + 1) (length text) origin false text) (short_enough (length text) short)

-- the end of the list that a text spells
spelled_end : (fuel total : ℕ) (behind : Bool) (spaces : List ℕ) (u : State) (gs : List Grant) → length spaces < fuel → Each is_space spaces → finish u ≡ all_of gs → read_from fuel total u behind spaces ≡ Ok gs
spelled_end zero total behind spaces u gs enough blank done = absurd (omega arith)
spelled_end (suc n) total behind spaces u gs enough blank done = at_end n total behind spaces u blank ∙ ap (λ r. carried (total - 0) r (λ grants. Ok grants)) done

pub reads_the_grammar : ReadsTheGrammar
reads_the_grammar text grants (short, small, (ts, (spaces, blank, reads), list)) =
    let L : List Token → Type 0 = λ x. Grants GrantPhrase x grants in
    let to = led ts [] grants (subst L (sym (append-nil ts)) list) in
    let before : NotPastBefore ts = λ p t q s parts at full position. too_many p (t ∷ q) s grants at full position small (subst L parts list) in
    let c = comes_on (length text + 1) (length text) false text [] ts spaces origin to.0 (omega arith) reads (inl (omega arith)) refl to.1 before in
    reads_from_start text short ∙ c.goes ∙ spelled_end c.fuel (length text) (ends_in_word false ts) spaces to.0 grants c.enough blank (given_on ts [] to.0 grants to.1 (subst L (sym (append-nil ts)) list))
