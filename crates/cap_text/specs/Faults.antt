-- Statement: contracts of public calls use it.
-- The first fault of a text, by what may follow what stands before it. The rules and their order are this project's profile.
use Rattle.std.specs.Prelude.{◌≡◌, ◌≤◌, ◌<◌, ◌+◌, ℕ, ◌⊎◌, Bool, true, false, List, [], ◌∷◌, ◌++◌, length, codes}
use Rattle.cap_text.specs.declared.token.Token.{Token}
use Rattle.cap_text.specs.declared.token.Token.TheVariants.{Comma, Semicolon, Equals, Word, Quoted}
use Rattle.cap_grants.specs.declared.grant.Grant.{Grant}
use Rattle.cap_text.specs.declared.fault.CapFault.{CapFault}
use Rattle.cap_grants.specs.declared.fault_kind.FaultKind.{FaultKind}
use Rattle.cap_grants.specs.declared.fault_kind.FaultKind.TheVariants.{TooLong, TooManyGrants, UnknownWord, BadAccess, BadMatch, BadWord, NetworkClause, OutOfMemory}
use Rattle.cap_text.specs.declared.keyword.Keyword.{Keyword}
use Rattle.cap_text.specs.declared.keyword.Keyword.TheVariants as kw
use Rattle.cap_grants.specs.Bytes.{SkipsSpaces}
use Rattle.cap_text.specs.Reads.{ReadsOne, Reads, ends_in_word, IsUnreadable}
use Rattle.cap_text.specs.Words.{keyword_of}
use Rattle.cap_text.specs.Grammar.{begins_clause, GrantPhrase, Grants}

-- ---- stages

-- what stands where a fault is sought: the text's end, what begins no token, or a token
pub data Next : Type 0 where
  AtEnd : Next
  NoToken : Next
  AToken : Token → Next

-- next stands at rest, which spaces may part from mid
abbrev pub StandsNext : Bool → List ℕ → List ℕ → Next → Type 0
StandsNext behind mid rest AtEnd = rest ≡ []
StandsNext behind mid rest NoToken = IsUnreadable behind mid
StandsNext behind mid rest (AToken t) = (after : List ℕ) × ReadsOne behind mid t after

-- behind the tokens p and spaces stands next, and rest begins there
abbrev pub Finds : List ℕ → List Token → Next → List ℕ → Type 0
Finds text p next rest = (mid : List ℕ) × Reads false text p mid × SkipsSpaces mid rest × StandsNext (ends_in_word false p) mid rest next

abbrev pub keyword_at : Next → Keyword
keyword_at (AToken (Word w)) = keyword_of w
keyword_at n = kw.Other

abbrev pub IsClauseWord : Next → Type 0
IsClauseWord n = begins_clause (keyword_at n) ≡ true

-- ---- what may follow, the limits aside

-- some further tokens make these a list
abbrev pub IsViable : List Token → Type 0
IsViable p = (ts : List Token) × (gs : List Grant) × Grants GrantPhrase (p ++ ts) gs

abbrev pub MayFollow : List Token → Token → Type 0
MayFollow p t = IsViable (p ++ t ∷ [])

abbrev pub AnyWordMayFollow : List Token → Type 0
AnyWordMayFollow p = (w : List ℕ) → MayFollow p (Word w)

-- no list goes on like this
abbrev pub Blocks : List Token → Next → Type 0
Blocks p AtEnd = (gs : List Grant) → Grants GrantPhrase p gs → ⊥
Blocks p NoToken = Unit {0}
Blocks p (AToken t) = MayFollow p t → ⊥

-- ---- which fault it is

-- what begins no token; an empty quoted text where a quoted text may stand; or what stands where a value must
abbrev pub IsBadWord : List Token → Next → Type 0
IsBadWord p NoToken = Unit {0}
IsBadWord p AtEnd = AnyWordMayFollow p
IsBadWord p (AToken (Quoted [])) = MayFollow p (Quoted (codes "a"))
IsBadWord p (AToken t) = AnyWordMayFollow p

-- a grant must begin. A method's stage takes both words.
abbrev pub IsGrantDue : List Token → Type 0
IsGrantDue p = MayFollow p (Word (codes "allow")) × (MayFollow p (Word (codes "all")) → ⊥)

-- an access must stand
abbrev pub IsAccessDue : List Token → Type 0
IsAccessDue p = MayFollow p (Word (codes "all")) × (MayFollow p (Word (codes "allow")) → ⊥)

-- the = of a tag must stand
abbrev pub IsEqualsDue : List Token → Type 0
IsEqualsDue p = MayFollow p Equals × ((w : List ℕ) → MayFollow p (Word w) → ⊥)

-- this kind where the rule applies, and where it does not, what the rest says
abbrev pub Where : Type 0 → FaultKind → (FaultKind → Type 0) → FaultKind → Type 0
Where Rule told rest kind = (Rule → kind ≡ told) × ((Rule → ⊥) → rest kind)

-- the kind of the first rule that applies
abbrev pub IsKind : List Token → Next → FaultKind → Type 0
IsKind p n =
    Where (IsBadWord p n) BadWord (
    Where (IsGrantDue p) UnknownWord (
    Where (IsEqualsDue p) BadMatch (
    Where (keyword_at n ≡ kw.Network) NetworkClause (
    Where (IsClauseWord n) BadMatch (
    Where (IsAccessDue p) BadAccess (
    λ kind. kind ≡ UnknownWord))))))

-- ---- the limit of grants

abbrev pub IsSeparator : Token → Type 0
IsSeparator Comma = Unit {0}
IsSeparator Semicolon = Unit {0}
IsSeparator t = ⊥

-- the tokens are 64 grants and a separator
abbrev pub AreFull : List Token → Type 0
AreFull p = (q : List Token) × (t : Token) × (gs : List Grant) × (p ≡ q ++ t ∷ []) × IsSeparator t × Grants GrantPhrase q gs × (length gs ≡ 64)

-- any byte stands there
abbrev pub IsThere : Next → Type 0
IsThere AtEnd = ⊥
IsThere n = Unit {0}

-- any byte stands behind the tokens q, which begin p
abbrev pub GoesOn : List Token → Next → Type 0
GoesOn [] n = IsThere n
GoesOn (t ∷ ts) n = Unit {0}

-- 64 grants, a separator and something more stand up to here
abbrev pub IsPastLimit : List Token → Next → Type 0
IsPastLimit p n = (q r : List Token) × (p ≡ q ++ r) × AreFull q × GoesOn r n

-- ---- the first fault

-- What stands before the stage may begin a list, and there the limit of grants is passed, or what stands there goes on with no list.
abbrev pub IsFaultWithin : List ℕ → CapFault → Type 0
IsFaultWithin text fault =
    (p : List Token) × (next : Next) × (rest : List ℕ) × Finds text p next rest × (fault.at + length rest ≡ length text) × IsViable p
    × ((AreFull p × IsThere next × (fault.kind ≡ TooManyGrants)) ⊎ ((IsPastLimit p next → ⊥) × Blocks p next × IsKind p next fault.kind))

abbrev pub IsFirstFault : List ℕ → CapFault → Type 0
IsFirstFault text fault = ((4096 < length text) × (fault.kind ≡ TooLong) × (fault.at ≡ 0)) ⊎ ((length text ≤ 4096) × IsFaultWithin text fault)

abbrev pub MemoryOr : FaultKind → ℕ → Type 0 → Type 0
MemoryOr OutOfMemory at P = at ≡ 0
MemoryOr k at P = P

-- the fact, unless memory ran out; that fault is at position 0
abbrev pub OrMemory : CapFault → Type 0 → Type 0
OrMemory fault P = MemoryOr fault.kind fault.at P
