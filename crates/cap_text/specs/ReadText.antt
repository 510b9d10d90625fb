-- Statement: contracts of public calls use it.
-- The result of reading a capability text, as a function. The grammar is a relation, of at most one list to a text.
use Prim.Native.Nat.{zero, suc}
use Rattle.std.specs.Prelude.{◌≡◌, ℕ, ◌+◌, ◌-◌, Bool, false, ◌&&◌, ◌==◌, nat_lt, List, [], ◌∷◌, Option, Some, None, Result, Ok, Err, if◌then◌else◌, length, take, drop, MatchResult}
use Rattle.std.specs.List.{prefix_len}
use Rattle.cap_grants.specs.Bytes.{is_space, is_quote, is_quotable, is_empty}
use Rattle.common_types.specs.WordBytes.{is_word_byte}
use Rattle.cap_text.specs.Reads.{is_word}
use Rattle.cap_text.specs.Machine.{advance, finish, placed}
use Rattle.cap_text.specs.declared.token.Token.{Token}
use Rattle.cap_text.specs.declared.token.Token.TheVariants.{Comma, Semicolon, Equals, Star, Word, Quoted}
use Rattle.cap_text.specs.Stage as stages
use Rattle.cap_text.specs.Stage.{State}
use Rattle.cap_text.specs.declared.fault.CapFault.{CapFault}
use Rattle.cap_grants.specs.declared.fault_kind.FaultKind.{FaultKind}
use Rattle.cap_grants.specs.declared.fault_kind.FaultKind.TheVariants.{TooLong, TooManyGrants, BadWord, OutOfMemory}
use Rattle.cap_grants.specs.declared.grant.Grant.{Grant}
use Rattle.cap_text.specs.Grammar.{Spells}
use Rattle.cap_text.specs.Faults.{IsFirstFault}

-- ---- tokens

-- a quoted text behind its opening quote, and what follows its closing quote
abbrev pub quoted_at : ℕ → List ℕ → Option (Token × List ℕ)
quoted_at quote bytes =
    let n = prefix_len (is_quotable quote) bytes in
    let rest = drop n bytes in
    if prefix_len (λ b. b == quote) (take 1 rest) == 1 then Some (Quoted (take n bytes), drop 1 rest) else None

-- the token at the front of a text that begins with no space, and what follows it; behind: a word ends directly before
abbrev pub token_at : Bool → List ℕ → Option (Token × List ℕ)
token_at behind [] = None
token_at behind (b ∷ bs) =
    if b == 44 then Some (Comma, bs)
    else if b == 59 then Some (Semicolon, bs)
    else if b == 61 then Some (Equals, bs)
    else if b == 42 then Some (Star behind, bs)
    else if is_quote b then quoted_at b bs
    else if is_word_byte b then Some (Word (take (prefix_len is_word_byte (b ∷ bs)) (b ∷ bs)), drop (prefix_len is_word_byte (b ∷ bs)) (b ∷ bs))
    else None

-- ---- lists of grants

abbrev pub Read : Type 0
Read = Result (List Grant) CapFault

-- the result by a machine's answer: what is read next, or its fault at this position
abbrev pub carried : {A : Type 0} → ℕ → Result A FaultKind → (A → Read) → Read
carried at (Ok x) next = next x
carried at (Err kind) next = Err (placed kind at)

abbrev pub with_token : ℕ → State → Option (Token × List ℕ) → (State → Bool → List ℕ → Read) → Read
with_token at s None next = Err (placed BadWord at)
with_token at s (Some found) next = carried at (advance s found.0) (λ t. next t (is_word found.0) found.1)

-- what stands at a stage behind spaces: the end, one grant too many, or a token
abbrev pub read_at : ℕ → State → Bool → List ℕ → (State → Bool → List ℕ → Read) → Read
read_at at s behind rest next =
    if is_empty rest then carried at (finish s) (λ grants. Ok grants)
    else if length s.done == 64 then Err (placed TooManyGrants at)
    else with_token at s (token_at behind rest) next

-- reads what is left of a text of `whole` bytes; a text has at most as many tokens as bytes
abbrev pub read_from : ℕ → ℕ → State → Bool → List ℕ → Read
read_from zero whole s behind text = Err (placed OutOfMemory 0)
read_from (suc n) whole s behind text =
    let spaces = prefix_len is_space text in
    read_at (whole - length (drop spaces text)) s (behind && (spaces == 0)) (drop spaces text) (read_from n whole)

-- the list that a text spells, or its first fault
unfoldable pub read_text : List ℕ → Read
read_text text =
    if nat_lt 4096 (length text) then Err (placed TooLong 0)
    else read_from (length text + 1) (length text) (record { done = []; stage = stages.Start }) false text

-- ---- the laws

-- what the grammar reads, this function reads too
abbrev pub ReadsTheGrammar : Type 0
ReadsTheGrammar = (text : List ℕ) (grants : List Grant) → Spells text grants → read_text text ≡ Ok grants

-- This function reports a text's first fault. So a text has at most one, and none if it spells a list.
abbrev pub TellsTheFirstFault : Type 0
TellsTheFirstFault = (text : List ℕ) (fault : CapFault) → IsFirstFault text fault → read_text text ≡ Err fault

-- and nothing else is read or reported: each text spells a list or has a first fault
abbrev pub ReadsNothingElse : Type 0
ReadsNothingElse = (text : List ℕ) → MatchResult (read_text text) (Spells text) (IsFirstFault text)
