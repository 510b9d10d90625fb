-- The first fault of a text is what reading it tells.
use Prim.Native.Nat.{zero, suc}
use Rattle.std.proofs.Common.{◌≡◌, ◌∙◌, ℕ, ◌<◌, ◌≤◌, ◌+◌, ◌-◌, inl, inr, Bool, true, false, ◌&&◌, ◌==◌, if◌then◌else◌, List, [], ◌∷◌, ◌++◌, Option, Some, None, Result, Ok, Err, refl, sym, ap, subst, arith, cond, append-nil, length, take, drop}
use Rattle.std.specs.List.{prefix_len}
use Rattle.std.specs.Cmp.{unsigned_Decides}
use Rattle.cap_grants.specs.Bytes.{is_space, is_quote, is_quotable, SkipsSpaces, is_empty}
use Rattle.common_types.specs.WordBytes.{is_word_byte}
use Rattle.cap_text.specs.Reads.{Stands, SaysBehind, is_word, ReadsOne, ends_in_word, IsUnreadable}
use Rattle.cap_text.specs.Grammar.{Grants, GrantPhrase}
use Rattle.cap_text.specs.Machine.{advance, finish, placed}
use Rattle.cap_text.specs.declared.token.Token.{Token}
use Rattle.cap_text.specs.declared.token.Token.TheVariants.{Comma, Semicolon, Equals, Star, Word, Quoted}
use Rattle.cap_text.specs.declared.keyword.Keyword.TheVariants as kw
use Rattle.cap_text.specs.Stage.{State}
use Rattle.cap_text.specs.declared.fault.CapFault.{CapFault}
use Rattle.cap_grants.specs.declared.fault_kind.FaultKind.{FaultKind}
use Rattle.cap_grants.specs.declared.fault_kind.FaultKind.TheVariants.{TooLong, TooManyGrants, UnknownWord, BadAccess, BadMatch, BadWord, NetworkClause, OutOfMemory}
use Rattle.cap_grants.specs.declared.grant.Grant.{Grant}
use Rattle.cap_text.specs.Faults.{Next, AtEnd, NoToken, AToken, StandsNext, keyword_at, IsClauseWord, MayFollow, Blocks, IsBadWord, IsGrantDue, IsAccessDue, IsEqualsDue, IsKind, AreFull, IsThere, IsPastLimit, IsFaultWithin}
use Rattle.cap_text.specs.ReadText.{quoted_at, token_at, Read, carried, with_token, read_from, read_text, TellsTheFirstFault}
use Rattle.cap_text.proofs.Spans.{span_unique, span_front}
use Rattle.std.proofs.lemmas.Bool.{lt-ltb}
use Rattle.std.proofs.lemmas.List.{take-append-drop}
use Rattle.cap_text.proofs.Tokens.{word_stands}
use Rattle.cap_text.proofs.Reading.{skips_all, one_not_spaces}
use Rattle.cap_text.proofs.Forth.{run}
use Rattle.cap_text.proofs.Runs.{whole, origin, sound, may, not_past, full, too_many}
use Rattle.cap_text.proofs.FaultKinds.{kind_of, words_at, words_end, advance_fault, finish_fault}
use Rattle.cap_text.proofs.ReadTexts.{starts, not_full, at_rest, at_some, at_token, at_end, NotPastBefore, comes_on, led, reads_from_start}

-- ---- one kind

number : FaultKind → ℕ
number TooLong = 0
number TooManyGrants = 1
number UnknownWord = 2
number BadAccess = 3
number BadMatch = 4
number BadWord = 5
number NetworkClause = 6
number OutOfMemory = 7

numbered : ℕ → FaultKind
numbered n =
    if n == 0 then TooLong
    else if n == 1 then TooManyGrants
    else if n == 2 then UnknownWord
    else if n == 3 then BadAccess
    else if n == 4 then BadMatch
    else if n == 5 then BadWord
    else if n == 6 then NetworkClause
    else OutOfMemory

numbered_back : (k : FaultKind) → numbered (number k) ≡ k
unfolding number numbered
numbered_back TooLong = refl
numbered_back TooManyGrants = refl
numbered_back UnknownWord = refl
numbered_back BadAccess = refl
numbered_back BadMatch = refl
numbered_back BadWord = refl
numbered_back NetworkClause = refl
numbered_back OutOfMemory = refl

-- two kinds that cannot differ are the same
kinds_same : (j k : FaultKind) → ((j ≡ k → ⊥) → ⊥) → j ≡ k
kinds_same j k h = go (number j == number k) refl
  where
    go : (b : Bool) → (number j == number k) ≡ b → j ≡ k
    go true e = let same : number j ≡ number k = (unsigned_Decides (number j) (number k)).0 e in sym (numbered_back j) ∙ ap numbered same ∙ numbered_back k
    go false e = absurd (h (λ s. let bad : true ≡ false = sym ((unsigned_Decides (number j) (number k)).1 (ap number s)) ∙ e in cc))

-- a position has one kind, since each of its tests holds or fails
kind_once : (p : List Token) (n : Next) (j k : FaultKind) → IsKind p n j → IsKind p n k → j ≡ k
kind_once p n j k J K = kinds_same j k (λ differ.
    let word : IsBadWord p n → ⊥ = λ h. differ (J.0 h ∙ sym (K.0 h)) in
    let grant : IsGrantDue p → ⊥ = λ h. differ ((J.1 word).0 h ∙ sym ((K.1 word).0 h)) in
    let equals : IsEqualsDue p → ⊥ = λ h. differ (((J.1 word).1 grant).0 h ∙ sym (((K.1 word).1 grant).0 h)) in
    let mine = ((J.1 word).1 grant).1 equals in
    let yours = ((K.1 word).1 grant).1 equals in
    let network : keyword_at n ≡ kw.Network → ⊥ = λ h. differ (mine.0 h ∙ sym (yours.0 h)) in
    let clause : IsClauseWord n → ⊥ = λ h. differ ((mine.1 network).0 h ∙ sym ((yours.1 network).0 h)) in
    let access : IsAccessDue p → ⊥ = λ h. differ (((mine.1 network).1 clause).0 h ∙ sym (((yours.1 network).1 clause).0 h)) in
    differ (((mine.1 network).1 clause).1 access ∙ sym (((yours.1 network).1 clause).1 access)))

-- out of memory is not a position kind
never_memory : (p : List Token) (n : Next) → IsKind p n OutOfMemory → ⊥
never_memory p n J =
    let word : IsBadWord p n → ⊥ = λ h. let e : OutOfMemory ≡ BadWord = J.0 h in cc in
    let grant : IsGrantDue p → ⊥ = λ h. let e : OutOfMemory ≡ UnknownWord = (J.1 word).0 h in cc in
    let equals : IsEqualsDue p → ⊥ = λ h. let e : OutOfMemory ≡ BadMatch = ((J.1 word).1 grant).0 h in cc in
    let rest = ((J.1 word).1 grant).1 equals in
    let network : keyword_at n ≡ kw.Network → ⊥ = λ h. let e : OutOfMemory ≡ NetworkClause = rest.0 h in cc in
    let clause : IsClauseWord n → ⊥ = λ h. let e : OutOfMemory ≡ BadMatch = (rest.1 network).0 h in cc in
    let access : IsAccessDue p → ⊥ = λ h. let e : OutOfMemory ≡ BadAccess = ((rest.1 network).1 clause).0 h in cc in
    let e : OutOfMemory ≡ UnknownWord = ((rest.1 network).1 clause).1 access in
    cc

placed_is : (k : FaultKind) (at : ℕ) → (k ≡ OutOfMemory → ⊥) → placed k at ≡ record { kind = k; at = at }
placed_is TooLong at h = refl
placed_is TooManyGrants at h = refl
placed_is UnknownWord at h = refl
placed_is BadAccess at h = refl
placed_is BadMatch at h = refl
placed_is BadWord at h = refl
placed_is NetworkClause at h = refl
placed_is OutOfMemory at h = absurd (h refl)

-- a fault of a position kind
pub placed_kind : (p : List Token) (n : Next) (k : FaultKind) (at : ℕ) → IsKind p n k → placed k at ≡ record { kind = k; at = at }
placed_kind p n k at J =
    let M : FaultKind → Type 0 = λ x. IsKind p n x in
    placed_is k at (λ e. never_memory p n (subst M e J))

-- a kind that the position has, placed at the fault's position, is the fault
told : (p : List Token) (n : Next) (k : FaultKind) (at : ℕ) (fault : CapFault) → IsKind p n k → IsKind p n fault.kind → at ≡ fault.at → placed k at ≡ fault
told p n k at fault J K position =
    let same : k ≡ fault.kind = kind_once p n k fault.kind J K in
    placed_kind p n k at J ∙ (λ i. record { kind = same i; at = position i })

-- ---- where no token stands

-- the token stands at the front of the text
abbrev IsToken : Bool → List ℕ → Token × List ℕ → Type 0
IsToken behind text found = Stands found.0 text found.1 × SaysBehind behind found.0

abbrev found_is : Token × List ℕ → Option (Token × List ℕ)
found_is found = Some found

quoted_sound : (behind : Bool) (quote : ℕ) (bytes : List ℕ) (found : Token × List ℕ) → is_quote quote ≡ true → quoted_at quote bytes ≡ found_is found → IsToken behind (quote ∷ bytes) found
quoted_sound behind quote bytes found mark = go (drop (prefix_len (is_quotable quote) bytes) bytes) refl
  where
    front : List ℕ
    front = take (prefix_len (is_quotable quote) bytes) bytes

    by_test : (c : ℕ) (cs : List ℕ) (b : Bool) → drop (prefix_len (is_quotable quote) bytes) bytes ≡ c ∷ cs → (c == quote) ≡ b → (if cond b (1 + 0) 0 == 1 then found_is (Quoted front, cs) else None) ≡ found_is found → IsToken behind (quote ∷ bytes) found
    by_test c cs true back same e =
        let is : (Quoted front, cs) ≡ found = cc in
        let c_is : c ≡ quote = (unsigned_Decides c quote).0 same in
        let parts : bytes ≡ front ++ quote ∷ cs = sym (take-append-drop (prefix_len (is_quotable quote) bytes) bytes) ∙ ap (λ r. front ++ r) (back ∙ ap (λ x. x ∷ cs) c_is) in
        let T : Token × List ℕ → Type 0 = λ f. IsToken behind (quote ∷ bytes) f in
        subst T is ((quote, mark, ap (λ r. quote ∷ r) parts, span_front (is_quotable quote) bytes), tt)
    by_test c cs false back same e = absurd (cc)

    go : (rest : List ℕ) → drop (prefix_len (is_quotable quote) bytes) bytes ≡ rest → (if prefix_len (λ b. b == quote) (take 1 rest) == 1 then found_is (Quoted front, drop 1 rest) else None) ≡ found_is found → IsToken behind (quote ∷ bytes) found
    go [] back e = absurd (cc)
    go (c ∷ cs) back e = by_test c cs (c == quote) back refl e

pub token_sound : (behind : Bool) (text : List ℕ) (found : Token × List ℕ) → token_at behind text ≡ found_is found → IsToken behind text found
token_sound behind [] found e = absurd (cc)
token_sound behind (b ∷ bs) found e = go (b == 44) (b == 59) (b == 61) (b == 42) (is_quote b) (is_word_byte b) refl refl refl refl refl refl e
  where
    T : Token × List ℕ → Type 0
    T f = IsToken behind (b ∷ bs) f

    front : List ℕ
    front = take (prefix_len is_word_byte (b ∷ bs)) (b ∷ bs)

    back : List ℕ
    back = drop (prefix_len is_word_byte (b ∷ bs)) (b ∷ bs)

    byte : (k : ℕ) → (b == k) ≡ true → b ∷ bs ≡ k ∷ bs
    byte k h = ap (λ x. x ∷ bs) ((unsigned_Decides b k).0 h)

    go : (c1 c2 c3 c4 c5 c6 : Bool) → (b == 44) ≡ c1 → (b == 59) ≡ c2 → (b == 61) ≡ c3 → (b == 42) ≡ c4 → is_quote b ≡ c5 → is_word_byte b ≡ c6
        → (if c1 then found_is (Comma, bs) else if c2 then found_is (Semicolon, bs) else if c3 then found_is (Equals, bs) else if c4 then found_is (Star behind, bs) else if c5 then quoted_at b bs else if c6 then found_is (Word front, back) else None) ≡ found_is found → T found
    go true c2 c3 c4 c5 c6 e1 e2 e3 e4 e5 e6 e = let is : (Comma, bs) ≡ found = cc in subst T is (byte 44 e1, tt)
    go false true c3 c4 c5 c6 e1 e2 e3 e4 e5 e6 e = let is : (Semicolon, bs) ≡ found = cc in subst T is (byte 59 e2, tt)
    go false false true c4 c5 c6 e1 e2 e3 e4 e5 e6 e = let is : (Equals, bs) ≡ found = cc in subst T is (byte 61 e3, tt)
    go false false false true c5 c6 e1 e2 e3 e4 e5 e6 e = let is : (Star behind, bs) ≡ found = cc in subst T is (byte 42 e4, refl)
    go false false false false true c6 e1 e2 e3 e4 e5 e6 e = quoted_sound behind b bs found e5 e
    go false false false false false true e1 e2 e3 e4 e5 e6 e = let is : (Word front, back) ≡ found = cc in subst T is (word_stands (b ∷ bs) (prefix_len is_word_byte (b ∷ bs)) front back e6 refl refl refl, tt)
    go false false false false false false e1 e2 e3 e4 e5 e6 e = absurd (cc)

-- ---- where reading ends

not_empty : (rest : List ℕ) → (rest ≡ [] → ⊥) → is_empty rest ≡ false
not_empty [] h = absurd (h refl)
not_empty (b ∷ bs) h = refl

at_limit : (n total : ℕ) (behind : Bool) (text rest : List ℕ) (s : State) → SkipsSpaces text rest → (rest ≡ [] → ⊥) → length s.done ≡ 64 → read_from (suc n) total s behind text ≡ Err (placed TooManyGrants (total - length rest))
at_limit n total behind text rest s skips some full =
    at_rest n total behind text rest s skips ∙ at_some (total - length rest) s (behind && is_empty skips.0) rest (read_from n total) true (not_empty rest some) ((unsigned_Decides (length s.done) 64).1 full)

at_unread : (n total : ℕ) (behind : Bool) (text rest : List ℕ) (s : State) → SkipsSpaces text rest → IsUnreadable behind text → length s.done < 64 → read_from (suc n) total s behind text ≡ Err (placed BadWord (total - length rest))
at_unread n total behind text rest s skips bad few =
    at_rest n total behind text rest s skips
    ∙ at_some (total - length rest) s (behind && is_empty skips.0) rest (read_from n total) false (not_empty rest (λ e. bad.0 (skips_all text rest skips e))) (not_full (length s.done) few)
    ∙ ap (λ o. with_token (total - length rest) s o (read_from n total)) (go (token_at (behind && is_empty skips.0) rest) refl)
  where
    go : (r : Option (Token × List ℕ)) → token_at (behind && is_empty skips.0) rest ≡ r → r ≡ None
    go None e = refl
    go (Some found) e =
        let is = token_sound (behind && is_empty skips.0) rest found e in
        absurd (bad.1 found.0 found.1 (skips.0, rest, skips.1, skips.2, is.0, is.1))

-- what stands there begins behind the spaces
there_some : (behind : Bool) (mid rest : List ℕ) (n : Next) → SkipsSpaces mid rest → StandsNext behind mid rest n → IsThere n → rest ≡ [] → ⊥
there_some behind mid rest AtEnd skips stands there e = there
there_some behind mid rest NoToken skips stands there e = stands.0 (skips_all mid rest skips e)
there_some behind mid rest (AToken t) skips stands there e = one_not_spaces behind mid t stands.0 stands.1 (skips_all mid rest skips e)

-- the same position in the text
starts_there : (behind : Bool) (mid rest : List ℕ) (t : Token) (after : List ℕ) → SkipsSpaces mid rest → (one : ReadsOne behind mid t after) → one.1 ≡ rest
starts_there behind mid rest t after skips one = (span_unique is_space one.0 one.1 skips.0 rest one.2 (starts t one.1 after one.4).0 skips.1 skips.3 (sym one.3 ∙ skips.2)).1

-- ---- the limit of grants

front_of : (q p r : List Token) (c t : Token) → q ++ c ∷ [] ≡ p ++ t ∷ r → (more : List Token) × (q ≡ p ++ more)
front_of q [] r c t e = (q, refl)
front_of [] (x ∷ []) r c t e = absurd (cc)
front_of [] (x ∷ y ∷ p) r c t e = absurd (cc)
front_of (y ∷ q) (x ∷ p) r c t e =
    let head : y ≡ x = cc in
    let tail : q ++ c ∷ [] ≡ p ++ t ∷ r = cc in
    let f = front_of q p r c t tail in
    (f.0, (λ i. head i ∷ f.1 i))

full_first : (ts : List Token) → AreFull ts → NotPastBefore ts
full_first ts (q, c, gs, parts, sep, list, len) p t r s split at full position =
    let f = front_of q p r c t (sym parts ∙ split) in
    let L : List Token → Type 0 = λ x. Grants GrantPhrase x gs in
    too_many p f.0 s gs at full position (omega (arith, len)) (subst L f.1 list)

within_first : (ts : List Token) (n : Next) → (IsPastLimit ts n → ⊥) → NotPastBefore ts
within_first ts n within p t r s split at full_here position = within (p, t ∷ r, split, full p s at full_here position, tt)

-- ---- the first fault

-- the kinds that the code tells are those of their positions
pub kind_end : (p : List Token) (u : State) (k : FaultKind) → run origin p ≡ whole u → finish u ≡ Err k → IsKind p AtEnd k
kind_end p u k is e =
    let K : FaultKind → Type 0 = λ x. IsKind p AtEnd x in
    subst K (sym (finish_fault u k e)) (kind_of p AtEnd (words_end p) u.done u.stage is)

pub kind_token : (p : List Token) (t : Token) (u : State) (k : FaultKind) → run origin p ≡ whole u → advance u t ≡ Err k → IsKind p (AToken t) k
kind_token p t u k is e =
    let K : FaultKind → Type 0 = λ x. IsKind p (AToken t) x in
    subst K (sym (advance_fault u t k e)) (kind_of p (AToken t) (words_at p t) u.done u.stage is)

told_end : (p : List Token) (u : State) (at : ℕ) (fault : CapFault) → run origin p ≡ whole u → ((gs : List Grant) → Grants GrantPhrase p gs → ⊥) → IsKind p AtEnd fault.kind → at ≡ fault.at
    → carried at (finish u) (λ grants. Ok grants) ≡ Err fault
told_end p u at fault is none kind position = go (finish u) refl
  where
    go : (r : Result (List Grant) FaultKind) → finish u ≡ r → carried at r (λ grants. Ok grants) ≡ Err fault
    go (Ok gs) e = absurd (none gs (sound p u gs is e))
    go (Err k) e = ap Err (told p AtEnd k at fault (kind_end p u k is e) kind position)

told_token : (p : List Token) (t : Token) (u : State) (at : ℕ) (fault : CapFault) (next : State → Read) → run origin p ≡ whole u → (MayFollow p t → ⊥) → IsKind p (AToken t) fault.kind → at ≡ fault.at
    → carried at (advance u t) next ≡ Err fault
told_token p t u at fault next is blocks kind position = go (advance u t) refl
  where
    go : (r : Result State FaultKind) → advance u t ≡ r → carried at r next ≡ Err fault
    go (Ok v) e = absurd (blocks (may p u v t is e))
    go (Err k) e = ap Err (told p (AToken t) k at fault (kind_token p t u k is e) kind position)

module _ (text : List ℕ) (fault : CapFault) (p : List Token) (next : Next) (mid rest : List ℕ) (skips : SkipsSpaces mid rest) (position : fault.at + length rest ≡ length text) (u : State) (is : run origin p ≡ whole u) where
  at_fault : length text - length rest ≡ fault.at
  at_fault = omega (arith, position)

  limit_told : (fuel : ℕ) → length mid < fuel → StandsNext (ends_in_word false p) mid rest next → IsThere next → fault.kind ≡ TooManyGrants → length u.done ≡ 64 → read_from fuel (length text) u (ends_in_word false p) mid ≡ Err fault
  limit_told zero enough stands there kind full_here = absurd (omega arith)
  limit_told (suc n) enough stands there kind full_here =
      at_limit n (length text) (ends_in_word false p) mid rest u skips (there_some (ends_in_word false p) mid rest next skips stands there) full_here
      ∙ ap Err (λ i. record { kind = sym kind i; at = at_fault i })

  blocked_told : (fuel : ℕ) → length mid < fuel → (n : Next) → StandsNext (ends_in_word false p) mid rest n → Blocks p n → IsKind p n fault.kind → (IsThere n → length u.done < 64) → read_from fuel (length text) u (ends_in_word false p) mid ≡ Err fault
  blocked_told zero enough n stands blocks kind few = absurd (omega arith)
  blocked_told (suc n) enough AtEnd stands blocks kind few =
      at_end n (length text) (ends_in_word false p) mid u (skips_all mid rest skips stands)
      ∙ told_end p u (length text - 0) fault is blocks kind (ap (λ r. length text - length r) (sym stands) ∙ at_fault)
  blocked_told (suc n) enough NoToken stands blocks kind few =
      at_unread n (length text) (ends_in_word false p) mid rest u skips stands (few tt)
      ∙ ap Err (λ i. record { kind = sym (kind.0 tt) i; at = at_fault i })
  blocked_told (suc n) enough (AToken t) stands blocks kind few =
      at_token n (length text) (ends_in_word false p) mid t stands.0 u stands.1 (few tt)
      ∙ told_token p t u (length text - length stands.1.1) fault (λ v. read_from n (length text) v (is_word t) stands.0) is blocks kind (ap (λ r. length text - length r) (starts_there (ends_in_word false p) mid rest t stands.0 skips stands.1) ∙ at_fault)

within_told : (text : List ℕ) (fault : CapFault) → length text ≤ 4096 → IsFaultWithin text fault → read_text text ≡ Err fault
within_told text fault short (p, next, rest, (mid, reads, skips, stands), position, (ts, gs, list), inl (full_p, there, kind)) =
    let to = led p ts gs list in
    let c = comes_on (length text + 1) (length text) false text [] p mid origin to.0 (omega arith) reads (inl (omega arith)) refl to.1 (full_first p full_p) in
    let full_here : length to.0.done ≡ 64 = elim c.room [ inl few ↦ absurd (not_past p to.0 next to.1 few (p, [], sym (append-nil p), full_p, there)) | inr h ↦ h.0 ] in
    reads_from_start text short ∙ c.goes ∙ limit_told text fault p next mid rest skips position to.0 to.1 c.fuel c.enough stands there kind full_here
within_told text fault short (p, next, rest, (mid, reads, skips, stands), position, (ts, gs, list), inr (within, blocks, kind)) =
    let to = led p ts gs list in
    let c = comes_on (length text + 1) (length text) false text [] p mid origin to.0 (omega arith) reads (inl (omega arith)) refl to.1 (within_first p next within) in
    let few : IsThere next → length to.0.done < 64 = λ there. elim c.room [ inl few ↦ few | inr h ↦ absurd (within (p, [], sym (append-nil p), full p to.0 to.1 h.0 h.1, there)) ] in
    reads_from_start text short ∙ c.goes ∙ blocked_told text fault p next mid rest skips position to.0 to.1 c.fuel c.enough next stands blocks kind few

pub too_long : (text : List ℕ) → 4096 < length text → read_text text ≡ Err (placed TooLong 0)
unfolding read_text
too_long text long = ap (λ b. if b then Err (placed TooLong 0) else read_from (length text + 1) (length text) origin false text) (lt-ltb 4096 (length text) long)

pub tells_the_first_fault : TellsTheFirstFault
tells_the_first_fault text fault (inl (long, kind, at)) = too_long text long ∙ ap Err (λ i. record { kind = sym kind i; at = sym at i })
tells_the_first_fault text fault (inr (short, within)) = within_told text fault short within
