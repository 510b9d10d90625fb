-- What the loop over the tokens keeps, and what follows from it.
use Rattle.std.proofs.Common.{◌≡◌, ◌≢◌, ◌≤◌, ◌<◌, ℕ, ◌+◌, Bool, false, List, [], ◌∷◌, ◌++◌, length, Option, Some, None, Result, Ok, Err, refl, sym, ap, subst, ◌∙◌, inl, inr, arith}
use Rattle.std.specs.Prelude.{MatchOption}
use Rattle.cap_grants.specs.Bytes.{is_space, Each, SkipsSpaces}
use Rattle.cap_text.specs.declared.token.Token.{Token}
use Rattle.cap_grants.specs.declared.grant.Grant.{Grant}
use Rattle.cap_grants.specs.declared.fault_kind.FaultKind.{FaultKind}
use Rattle.cap_grants.specs.declared.fault_kind.FaultKind.TheVariants.{TooLong, TooManyGrants, UnknownWord, BadAccess, BadMatch, BadWord, NetworkClause, OutOfMemory}
use Rattle.cap_text.specs.Stage.{State}
use Rattle.cap_text.specs.Stage as stages
use Rattle.cap_text.specs.Reads.{is_word, ReadsOne, Reads, ends_in_word, IsText, IsUnreadable}
use Rattle.cap_text.specs.Grammar.{GrantPhrase, Grants, Spells}
use Rattle.cap_text.specs.Faults.{Next, AtEnd, NoToken, AToken, StandsNext, IsThere, IsKind, IsFaultWithin, IsFirstFault, OrMemory}
use Rattle.cap_grants.specs.Gives.{Gives}
use Rattle.cap_text.specs.Machine.{advance, finish, placed}
use Rattle.cap_text.proofs.Reading.{reads_more, ends_in_word-push, reads_prefix, unreadable_none, text_unique, skips_some}
use Rattle.cap_text.proofs.Forth.{run, ◌then◌}
use Rattle.cap_text.proofs.Runs.{whole, origin, sound, viable, may_not, no_end, run_on, Room, advance_room, finish_few, full, not_past, not_past_end, too_many}
use Rattle.cap_text.proofs.FaultKinds.{kind_of, words_at, words_end, advance_fault, finish_fault}

-- the tokens read so far, and the state that they lead to
pub record HasRead (text rest : List ℕ) (behind : Bool) (state : State) (p : List Token) : Type 0 where
  pub reads : Reads false text p rest
  pub ends : behind ≡ ends_in_word false p
  pub runs : run origin p ≡ whole state
  pub room : Room state

-- nothing was read
pub begins : (text : List ℕ) → HasRead text text false origin []
begins text = record { reads = refl; ends = refl; runs = refl; room = inl (omega arith) }

module _ (text rest : List ℕ) (behind : Bool) (state : State) (p : List Token) (h : HasRead text rest behind state p) where
  -- the tokens of a text that is read go on from here
  tokens_on : (ts : List Token) → IsText text ts → (q : List Token) × (ts ≡ p ++ q)
  tokens_on ts is_text = let r = reads_prefix false text p rest ts is_text.0 h.reads is_text.2 is_text.1 in (r.0, r.1)

  pub few : (length state.done ≡ 64 → ⊥) → length state.done < 64
  few ne = elim h.room [ inl x ↦ x | inr x ↦ absurd (ne x.0) ]

  pub goes_on : (t : Token) (after : List ℕ) (next : State) → (length state.done ≡ 64 → ⊥) → ReadsOne behind rest t after → advance state t ≡ Ok next → HasRead text after (is_word t) next (p ++ t ∷ [])
  goes_on t after next ne one s =
      let P : Bool → Type 0 = λ b. ReadsOne b rest t after in
      record {
        reads = reads_more false text p rest t after h.reads (subst P h.ends one);
        ends = sym (ends_in_word-push false p t);
        runs = run_on p (t ∷ []) state h.runs ∙ ap (λ r. r then λ x. run x []) s;
        room = advance_room state t next (few ne) s;
      }

  -- ---- a token that continues no list

  pub no_list_at : (t : Token) (after : List ℕ) (k : FaultKind) → ReadsOne behind rest t after → advance state t ≡ Err k → (gs : List Grant) → Spells text gs → ⊥
  no_list_at t after k one s gs (short, many, (ts, is_text, list)) =
      let P : Bool → Type 0 = λ b. ReadsOne b rest t after in
      let r = reads_prefix false text (p ++ t ∷ []) after ts is_text.0 (reads_more false text p rest t after h.reads (subst P h.ends one)) is_text.2 is_text.1 in
      let Q : List Token → Type 0 = λ x. Grants GrantPhrase x gs in
      may_not p state t k h.runs s (r.0, gs, subst Q r.1 list)

  pub first_at : (t : Token) (after start : List ℕ) (at : ℕ) (k : FaultKind) → (length state.done ≡ 64 → ⊥) → SkipsSpaces rest start → at + length start ≡ length text → ReadsOne behind rest t after → advance state t ≡ Err k → IsFaultWithin text (record { kind = k; at = at })
  first_at t after start at k ne skips position one s =
      let P : Bool → Type 0 = λ b. ReadsOne b rest t after in
      let K : FaultKind → Type 0 = λ x. IsKind p (AToken t) x in (
        p,
        AToken t,
        start,
        (rest, h.reads, skips, (after, subst P h.ends one)),
        position,
        viable p state h.runs,
        inr (
          not_past p state (AToken t) h.runs (few ne),
          may_not p state t k h.runs s,
          subst K (sym (advance_fault state t k s)) (kind_of p (AToken t) (words_at p t) state.done state.stage h.runs),
        ),
      )

  -- ---- what begins no token

  pub no_list_unread : IsUnreadable behind rest → (gs : List Grant) → Spells text gs → ⊥
  no_list_unread bad gs (short, many, (ts, is_text, list)) = let P : Bool → Type 0 = λ b. IsUnreadable b rest in unreadable_none text p rest ts h.reads (subst P h.ends bad) is_text

  pub first_unread : (start : List ℕ) (at : ℕ) → (length state.done ≡ 64 → ⊥) → SkipsSpaces rest start → at + length start ≡ length text → IsUnreadable behind rest → IsFaultWithin text (record { kind = BadWord; at = at })
  first_unread start at ne skips position bad =
      let P : Bool → Type 0 = λ b. IsUnreadable b rest in (
        p,
        NoToken,
        start,
        (rest, h.reads, skips, subst P h.ends bad),
        position,
        viable p state h.runs,
        inr (
          not_past p state NoToken h.runs (few ne),
          tt,
          (λ b. refl, λ none. absurd (none tt)),
        ),
      )

  -- ---- the limit of grants

  at_separator : length state.done ≡ 64 → state.stage ≡ stages.Separator
  at_separator len = elim h.room [ inl x ↦ absurd (omega (arith, len, x)) | inr x ↦ x.1 ]

  pub no_list_past : length state.done ≡ 64 → (gs : List Grant) → Spells text gs → ⊥
  no_list_past len gs (short, many, (ts, is_text, list)) =
      let on = tokens_on ts is_text in
      let Q : List Token → Type 0 = λ x. Grants GrantPhrase x gs in
      too_many p on.0 state gs h.runs len (at_separator len) many (subst Q on.1 list)

  past : (start : List ℕ) (at : ℕ) (n : Next) → length state.done ≡ 64 → SkipsSpaces rest start → at + length start ≡ length text → IsThere n → StandsNext (ends_in_word false p) rest start n → IsFaultWithin text (record { kind = TooManyGrants; at = at })
  past start at n len skips position there stands = (p, n, start, (rest, h.reads, skips, stands), position, viable p state h.runs, inl (full p state h.runs len (at_separator len), there, refl))

  pub past_token : (t : Token) (after start : List ℕ) (at : ℕ) → length state.done ≡ 64 → SkipsSpaces rest start → at + length start ≡ length text → ReadsOne behind rest t after → IsFaultWithin text (record { kind = TooManyGrants; at = at })
  past_token t after start at len skips position one = let P : Bool → Type 0 = λ b. ReadsOne b rest t after in past start at (AToken t) len skips position tt (after, subst P h.ends one)

  pub past_unread : (start : List ℕ) (at : ℕ) → length state.done ≡ 64 → SkipsSpaces rest start → at + length start ≡ length text → IsUnreadable behind rest → IsFaultWithin text (record { kind = TooManyGrants; at = at })
  past_unread start at len skips position bad = let P : Bool → Type 0 = λ b. IsUnreadable b rest in past start at NoToken len skips position tt (subst P h.ends bad)

  pub past_found : {X : Type 0} → (r : Option X) (token : X → Token) (after : X → List ℕ) → MatchOption r ((t : Token) (a : List ℕ) → ReadsOne behind rest t a → ⊥) (λ x. ReadsOne behind rest (token x) (after x))
      → (start : List ℕ) (at : ℕ) → length state.done ≡ 64 → SkipsSpaces rest start → start ≢ [] → at + length start ≡ length text → IsFaultWithin text (record { kind = TooManyGrants; at = at })
  past_found None token after found start at len skips some position = past_unread start at len skips position (skips_some rest start skips some, found)
  past_found (Some x) token after found start at len skips some position = past_token (token x) (after x) start at len skips position found

  -- ---- the end of the text

  pub no_list_end : (k : FaultKind) → Each is_space rest → finish state ≡ Err k → (gs : List Grant) → Spells text gs → ⊥
  no_list_end k spaces f gs (short, many, (ts, is_text, list)) =
      let same : ts ≡ p = text_unique text p rest ts h.reads spaces is_text in
      let Q : List Token → Type 0 = λ x. Grants GrantPhrase x gs in
      no_end p state k h.runs f gs (subst Q same list)

  pub first_end : (start : List ℕ) (at : ℕ) (k : FaultKind) → SkipsSpaces rest start → start ≡ [] → at + length start ≡ length text → finish state ≡ Err k → IsFaultWithin text (record { kind = k; at = at })
  first_end start at k skips empty position f =
      let K : FaultKind → Type 0 = λ x. IsKind p AtEnd x in (
        p,
        AtEnd,
        start,
        (rest, h.reads, skips, empty),
        position,
        viable p state h.runs,
        inr (
          not_past_end p state h.runs h.room,
          no_end p state k h.runs f,
          subst K (sym (finish_fault state k f)) (kind_of p AtEnd (words_end p) state.done state.stage h.runs),
        ),
      )

  pub few_at_end : (gs : List Grant) → finish state ≡ Ok gs → length gs ≤ 64
  few_at_end gs f = finish_few state gs h.room f

  pub spelled : (gs : List Grant) → length text ≤ 4096 → Each is_space rest → finish state ≡ Ok gs → Spells text gs
  spelled gs short spaces f = (short, few_at_end gs f, (p, (rest, spaces, h.reads), sound p state gs h.runs f))

-- ---- what is reported

abbrev pub memory_or : {A : Type 0} → Result A FaultKind → FaultKind → Type 0
memory_or r k = Gives (Err k) r

pub told_none : {A : Type 0} (r : Result A FaultKind) (k : FaultKind) (at : ℕ) (P : Type 0) → memory_or r k → (r ≡ Err k → P) → OrMemory (placed k at) P
told_none r OutOfMemory at P h f = refl
told_none r TooLong at P h f = f h
told_none r TooManyGrants at P h f = f h
told_none r UnknownWord at P h f = f h
told_none r BadAccess at P h f = f h
told_none r BadMatch at P h f = f h
told_none r BadWord at P h f = f h
told_none r NetworkClause at P h f = f h

pub told_first : {A : Type 0} (r : Result A FaultKind) (k : FaultKind) (at : ℕ) (text : List ℕ) → length text ≤ 4096 → memory_or r k → (r ≡ Err k → IsFaultWithin text (record { kind = k; at = at })) → OrMemory (placed k at) (IsFirstFault text (placed k at))
told_first r OutOfMemory at text short h f = refl
told_first r TooLong at text short h f = inr (short, f h)
told_first r TooManyGrants at text short h f = inr (short, f h)
told_first r UnknownWord at text short h f = inr (short, f h)
told_first r BadAccess at text short h f = inr (short, f h)
told_first r BadMatch at text short h f = inr (short, f h)
told_first r BadWord at text short h f = inr (short, f h)
told_first r NetworkClause at text short h f = inr (short, f h)

pub too_long : (text : List ℕ) → 4096 < length text → (gs : List Grant) → Spells text gs → ⊥
too_long text long gs spelled = omega (arith, long, spelled.0)
