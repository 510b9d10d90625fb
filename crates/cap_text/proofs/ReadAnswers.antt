-- What reading a text answers is the list that it spells, or its first fault.
use Prim.Native.Nat.{zero, suc}
use Rattle.std.proofs.Common.{◌≡◌, ◌≢◌, ◌∙◌, ℕ, ◌<◌, ◌≤◌, ◌+◌, ◌-◌, inl, inr, Bool, true, false, ◌&&◌, ◌==◌, if◌then◌else◌, List, [], ◌∷◌, ◌++◌, Option, Some, None, Result, Ok, Err, refl, sym, ap, subst, arith, length, drop, length-drop}
use Rattle.std.specs.Prelude.{nat_lt, MatchOption, MatchResult}
use Rattle.std.specs.List.{prefix_len}
use Rattle.std.specs.Cmp.{unsigned_Decides}
use Rattle.std.proofs.lemmas.Bool.{ltb-true, ltb-false}
use Rattle.cap_grants.specs.Bytes.{is_space, SkipsSpaces, is_empty}
use Rattle.cap_text.specs.Reads.{is_word, ReadsOne}
use Rattle.cap_text.specs.Grammar.{Spells}
use Rattle.cap_text.specs.Machine.{advance, finish, placed}
use Rattle.cap_text.specs.declared.token.Token.{Token}
use Rattle.cap_text.specs.Stage.{State}
use Rattle.cap_grants.specs.declared.fault_kind.FaultKind.{FaultKind}
use Rattle.cap_grants.specs.declared.fault_kind.FaultKind.TheVariants.{TooManyGrants}
use Rattle.cap_grants.specs.declared.grant.Grant.{Grant}
use Rattle.cap_text.specs.Faults.{AtEnd, AToken, IsFirstFault, IsFaultWithin}
use Rattle.cap_text.specs.ReadText.{token_at, Read, carried, with_token, read_at, read_from, read_text, ReadsNothingElse}
use Rattle.cap_text.proofs.Spans.{skips, span_unique}
use Rattle.cap_text.proofs.Reading.{skips_all, skips_some, one_shorter}
use Rattle.cap_text.proofs.Runs.{origin}
use Rattle.cap_text.proofs.Loop.{HasRead, begins, goes_on, spelled, first_at, first_unread, first_end, past_found}
use Rattle.cap_text.proofs.ReadTexts.{starts, token_found, at_rest, reads_from_start}
use Rattle.cap_text.proofs.FirstFaults.{token_sound, kind_end, kind_token, placed_kind, too_long}

-- the text spells the list that is read, or the fault is the text's first one
abbrev IsAnswer : List ℕ → Read → Type 0
IsAnswer text r = MatchResult r (Spells text) (IsFirstFault text)

-- what stands behind the spaces is what is found there
abbrev IsLook : Bool → List ℕ → Option (Token × List ℕ) → Type 0
IsLook behind rest r = MatchOption r ((t : Token) (after : List ℕ) → ReadsOne behind rest t after → ⊥) (λ f. ReadsOne behind rest f.0 f.1)

nothing : (found : Token × List ℕ) → None ≡ Some found → ⊥
nothing found e = cc

looks : (behind : Bool) (rest start : List ℕ) (skipped : SkipsSpaces rest start) → IsLook behind rest (token_at (behind && is_empty skipped.0) start)
looks behind rest start skipped = go (token_at (behind && is_empty skipped.0) start) refl
  where
    go : (r : Option (Token × List ℕ)) → token_at (behind && is_empty skipped.0) start ≡ r → IsLook behind rest r
    go None e = λ t after one.
        let same = span_unique is_space one.0 one.1 skipped.0 start one.2 (starts t one.1 after one.4).0 skipped.1 skipped.3 (sym one.3 ∙ skipped.2) in
        let found : token_at (behind && is_empty one.0) one.1 ≡ Some (t, after) = token_found (behind && is_empty one.0) t one.1 after one.4 one.5 in
        let there : token_at (behind && is_empty skipped.0) start ≡ Some (t, after) = sym (λ i. token_at (behind && is_empty (same.0 i)) (same.1 i)) ∙ found in
        nothing (t, after) (sym e ∙ there)
    go (Some f) e =
        let is = token_sound (behind && is_empty skipped.0) start f e in
        (skipped.0, start, skipped.1, skipped.2, is.0, is.1)

module _ (text rest : List ℕ) (behind : Bool) (s : State) (p : List Token) (h : HasRead text rest behind s p) (short : length text ≤ 4096) where
  -- a fault of a position kind is reported as it is
  answer_told : (k : FaultKind) (at : ℕ) → placed k at ≡ record { kind = k; at = at } → IsFaultWithin text (record { kind = k; at = at }) → IsAnswer text (Err (placed k at))
  answer_told k at is within = let A : Read → Type 0 = λ r. IsAnswer text r in subst A (ap Err (sym is)) (inr (short, within))

  answer_end : (start : List ℕ) (at : ℕ) → SkipsSpaces rest start → start ≡ [] → at + length start ≡ length text → IsAnswer text (carried at (finish s) (λ grants. Ok grants))
  answer_end start at skipped none position = go (finish s) refl
    where
      go : (r : Result (List Grant) FaultKind) → finish s ≡ r → IsAnswer text (carried at r (λ grants. Ok grants))
      go (Ok gs) e = spelled text rest behind s p h gs short (skips_all rest start skipped none) e
      go (Err k) e = answer_told k at (placed_kind p AtEnd k at (kind_end p s k h.runs e)) (first_end text rest behind s p h start at k skipped none position e)

  answer_token : (start : List ℕ) (at : ℕ) (t : Token) (after : List ℕ) (next : State → Read) → (length s.done ≡ 64 → ⊥) → SkipsSpaces rest start → at + length start ≡ length text → ReadsOne behind rest t after
      → ((v : State) → advance s t ≡ Ok v → IsAnswer text (next v)) → IsAnswer text (carried at (advance s t) next)
  answer_token start at t after next few skipped position one on = go (advance s t) refl
    where
      go : (r : Result State FaultKind) → advance s t ≡ r → IsAnswer text (carried at r next)
      go (Ok v) e = on v e
      go (Err k) e = answer_told k at (placed_kind p (AToken t) k at (kind_token p t s k h.runs e)) (first_at text rest behind s p h t after start at k few skipped position one e)

  -- what stands behind the spaces
  answer_start : (start : List ℕ) (at : ℕ) (says : Bool) (next : State → Bool → List ℕ → Read) → SkipsSpaces rest start → at + length start ≡ length text → IsLook behind rest (token_at says start)
      → ((t : Token) (after : List ℕ) (v : State) → (length s.done ≡ 64 → ⊥) → ReadsOne behind rest t after → advance s t ≡ Ok v → IsAnswer text (next v (is_word t) after)) → IsAnswer text (read_at at s says start next)
  answer_start [] at says next skipped position look on = answer_end [] at skipped refl position
  answer_start (b ∷ bs) at says next skipped position look on = go (length s.done == 64) (token_at says (b ∷ bs)) refl look
    where
      some : (b ∷ bs) ≢ []
      some e = cc

      few : (length s.done == 64) ≡ false → length s.done ≡ 64 → ⊥
      few e is = let bad : true ≡ false = sym ((unsigned_Decides (length s.done) 64).1 is) ∙ e in cc

      go : (full : Bool) (r : Option (Token × List ℕ)) → (length s.done == 64) ≡ full → IsLook behind rest r → IsAnswer text (if full then Err (placed TooManyGrants at) else with_token at s r next)
      go true r counts found = inr (short, past_found text rest behind s p h r (λ f. f.0) (λ f. f.1) found (b ∷ bs) at ((unsigned_Decides (length s.done) 64).0 counts) skipped some position)
      go false None counts found = inr (short, first_unread text rest behind s p h (b ∷ bs) at (few counts) skipped position (skips_some rest (b ∷ bs) skipped some, found))
      go false (Some f) counts found = answer_token (b ∷ bs) at f.0 f.1 (λ v. next v (is_word f.0) f.1) (few counts) skipped position found (λ v e. on f.0 f.1 v (few counts) found e)

answers : (n : ℕ) (text rest : List ℕ) (behind : Bool) (s : State) (p : List Token) → HasRead text rest behind s p → length text ≤ 4096 → length rest ≤ length text → length rest < n → IsAnswer text (read_from n (length text) s behind rest)
answers zero text rest behind s p h short within enough = absurd (omega arith)
answers (suc n) text rest behind s p h short within enough =
    let start : List ℕ = drop (prefix_len is_space rest) rest in
    let skipped : SkipsSpaces rest start = skips rest (prefix_len is_space rest) start refl refl in
    let position : (length text - length start) + length start ≡ length text = omega (arith, length-drop (prefix_len is_space rest) rest) in
    let A : Read → Type 0 = λ r. IsAnswer text r in
    subst A (sym (at_rest n (length text) behind rest start s skipped))
    (answer_start text rest behind s p h short start (length text - length start) (behind && is_empty skipped.0) (read_from n (length text)) skipped position (looks behind rest start skipped)
    (λ t after v few one e.
    let shorter : length after < length rest = one_shorter behind rest t after one in
    answers n text after (is_word t) v (p ++ t ∷ []) (goes_on text rest behind s p h t after v few one e) short (omega arith) (omega arith)))

pub reads_nothing_else : ReadsNothingElse
reads_nothing_else text = go (nat_lt 4096 (length text)) refl
  where
    A : Read → Type 0
    A r = IsAnswer text r

    go : (b : Bool) → nat_lt 4096 (length text) ≡ b → A (read_text text)
    go true e = let long : 4096 < length text = ltb-true 4096 (length text) e in subst A (sym (too_long text long)) (inl (long, refl, refl))
    go false e =
        let short : length text ≤ 4096 = ltb-false 4096 (length text) e in
        subst A (sym (reads_from_start text short)) (answers (length text + 1) text text false origin [] (begins text) short (omega arith) (omega arith))
