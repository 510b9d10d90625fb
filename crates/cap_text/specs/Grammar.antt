-- Statement: contracts of public calls use it.
-- The grammar of capability texts, by their tokens.
-- The forms are those of Ceph User Management, "Authorization capabilities"; orders, separators, quotes and limits are this project's profile.
use Rattle.std.specs.Prelude.{◌≡◌, ◌≢◌, ◌≤◌, ℕ, ◌⊎◌, Bool, true, false, ◌||◌, ◌==◌, List, [], ◌∷◌, length, codes, Option, Some, None, option_map, if◌then◌else◌}
use Rattle.std.specs.Str.{bytes_eq}
use Rattle.cap_text.specs.declared.token.Token.{Token}
use Rattle.cap_text.specs.declared.token.Token.TheVariants.{Comma, Semicolon, Equals, Star, Word, Quoted}
use Rattle.cap_grants.specs.declared.grant.Access.{Access}
use Rattle.cap_grants.specs.declared.grant.Access.TheVariants.{All, Flags, Class}
use Rattle.cap_grants.specs.declared.grant.NsMatch.{NsMatch}
use Rattle.cap_grants.specs.declared.grant.NsMatch.TheVariants.{Exact, Prefix}
use Rattle.cap_grants.specs.declared.grant.Part.{Part}
use Rattle.cap_grants.specs.declared.grant.Part.TheVariants.{Any, Is}
use Rattle.cap_grants.specs.declared.grant.Tag.{Tag}
use Rattle.cap_grants.specs.declared.grant.AllowGrant.{AllowGrant}
use Rattle.cap_grants.specs.declared.grant.Grant.{Grant}
use Rattle.cap_grants.specs.declared.grant.Grant.TheVariants.{Allow, Profile}
use Rattle.cap_text.specs.declared.keyword.Keyword.{Keyword}
use Rattle.cap_text.specs.declared.keyword.Keyword.TheVariants as kw
use Rattle.cap_text.specs.Reads.{IsText}
use Rattle.cap_text.specs.Words.{letters, keyword_of}

-- Each relation of this kind says: the tokens begin with such a part, which means x, and rest follows it.
abbrev pub Phrase : Type 0 → Type 1
Phrase A = List Token → A → List Token → Type 0

-- nothing, or one such part
abbrev pub Optional : {A : Type 0} → Phrase A → Phrase (Option A)
Optional P ts None rest = ts ≡ rest
Optional P ts (Some x) rest = P ts x rest

-- the part, behind = or not
abbrev pub Assigned : {A : Type 0} → Phrase A → Phrase A
Assigned P ts x rest = P ts x rest ⊎ ((mid : List Token) × (ts ≡ Equals ∷ mid) × P mid x rest)

-- the part, behind this word
abbrev pub Behind : {A : Type 0} → List ℕ → Phrase A → Phrase A
Behind word P ts x rest = (mid : List Token) × (ts ≡ Word word ∷ mid) × P mid x rest

-- a word, or a quoted text that is not empty
abbrev pub Value : Phrase (List ℕ)
Value ts v rest = (ts ≡ Word v ∷ rest) ⊎ ((v ≢ []) × (ts ≡ Quoted v ∷ rest))

-- what stands before a star at the end
abbrev pub before_star : List ℕ → Option (List ℕ)
before_star [] = None
before_star (b ∷ []) = if b == 42 then Some [] else None
before_star (b ∷ c ∷ bs) = option_map (λ front. b ∷ front) (before_star (c ∷ bs))

abbrev pub matched : List ℕ → Option (List ℕ) → NsMatch
matched text None = Exact text
matched text (Some front) = Prefix front

-- a quoted namespace that ends in a star stands for all that begin so
abbrev pub namespace_of : List ℕ → NsMatch
namespace_of text = matched text (before_star text)

-- no star directly behind a word comes first
abbrev pub BeginsApart : List Token → Type 0
BeginsApart (Star true ∷ ts) = ⊥
BeginsApart ts = Unit {0}

-- A word; a word and a star directly behind it; a star; or a quoted text, which may be empty
abbrev pub Namespace : Phrase NsMatch
Namespace ts ns rest =
    ((w : List ℕ) × (ns ≡ Exact w) × (ts ≡ Word w ∷ rest) × BeginsApart rest)
    ⊎ (((w : List ℕ) × (ns ≡ Prefix w) × (ts ≡ Word w ∷ Star true ∷ rest))
    ⊎ (((behind : Bool) × (ns ≡ Prefix []) × (ts ≡ Star behind ∷ rest))
    ⊎ ((q : List ℕ) × (ns ≡ namespace_of q) × (ts ≡ Quoted q ∷ rest))))

-- the one byte * stands for any
abbrev pub part_of : List ℕ → Part
part_of text = if bytes_eq text (codes "*") then Any else Is text

abbrev pub TagPart : Phrase Part
TagPart ts part rest = ((behind : Bool) × (part ≡ Any) × (ts ≡ Star behind ∷ rest)) ⊎ ((v : List ℕ) × (part ≡ part_of v) × Value ts v rest)

abbrev pub PoolClause : Phrase (List ℕ)
PoolClause = Behind (codes "pool") (Assigned Value)

abbrev pub NamespaceClause : Phrase NsMatch
NamespaceClause = Behind (codes "namespace") (Assigned Namespace)

abbrev pub PrefixClause : Phrase (List ℕ)
PrefixClause = Behind (codes "object_prefix") Value

abbrev pub TagClause : Phrase Tag
TagClause ts tag rest =
    (a b c : List Token) × (ts ≡ Word (codes "tag") ∷ a) × Value a tag.application b × TagPart b tag.key (Equals ∷ c) × TagPart c tag.value rest

-- the words that begin a clause
abbrev pub begins_clause : Keyword → Bool
begins_clause kw.Pool = true
begins_clause kw.Namespace = true
begins_clause kw.ObjectPrefix = true
begins_clause kw.Tag = true
begins_clause kw.Network = true
begins_clause k = false

abbrev pub Method : Phrase (List ℕ)
Method ts m rest = ((begins_clause (keyword_of m) ≡ false) × (ts ≡ Word m ∷ rest)) ⊎ ((m ≢ []) × (ts ≡ Quoted m ∷ rest))

-- the word in front, if the flag is set
abbrev pub where_set : Bool → List ℕ → List Token → List Token
where_set true word ts = Word word ∷ ts
where_set false word ts = ts

abbrev pub flag_words : Bool → Bool → Bool → Bool → Bool → List Token → List Token
flag_words r w x k l rest = where_set (r || (w || x)) (letters r w x) (where_set k (codes "class-read") (where_set l (codes "class-write") rest))

-- x sets both class flags
abbrev pub AccessPhrase : Phrase Access
AccessPhrase ts All rest = ((behind : Bool) × (ts ≡ Star behind ∷ rest)) ⊎ (ts ≡ Word (codes "all") ∷ rest)
AccessPhrase ts (Class class method) rest = (a b : List Token) × (ts ≡ Word (codes "class") ∷ a) × Value a class b × Optional Method b method rest
AccessPhrase ts (Flags f) rest =
    (x k l : Bool) × (ts ≡ flag_words f.read f.write x k l rest) × ((f.read || (f.write || (x || (k || l)))) ≡ true) × (f.class_read ≡ (x || k)) × (f.class_write ≡ (x || l))

-- where a grant holds: a pool, namespaces and a prefix of names, or namespaces and a tag, in this order
abbrev pub MatchPhrase : List Token → AllowGrant → List Token → Type 0
MatchPhrase ts g rest =
    ((g.tag ≡ None) × ((a b : List Token) × Optional PoolClause ts g.pool a × Optional NamespaceClause a g.namespace b × Optional PrefixClause b g.prefix rest))
    ⊎ ((g.pool ≡ None) × (g.prefix ≡ None) × ((t : Tag) × (a : List Token) × (g.tag ≡ Some t) × Optional NamespaceClause ts g.namespace a × TagClause a t rest))

-- allow with an access and a match in either order, or a profile with its pool and its namespaces
abbrev pub GrantPhrase : Phrase Grant
GrantPhrase ts (Allow g) rest =
    (a b : List Token) × (ts ≡ Word (codes "allow") ∷ a) × ((AccessPhrase a g.access b × MatchPhrase b g rest) ⊎ (MatchPhrase a g b × AccessPhrase b g.access rest))
GrantPhrase ts (Profile used) rest =
    (a b c : List Token) × (ts ≡ Word (codes "profile") ∷ a) × Assigned Value a used.name b × Optional PoolClause b used.pool c × Optional NamespaceClause c used.namespace rest

abbrev pub Separated : List Token → List Token → Type 0
Separated ts rest = (ts ≡ Comma ∷ rest) ⊎ (ts ≡ Semicolon ∷ rest)

-- the tokens are these grants to their end, a separator before each
abbrev pub Followed : Phrase Grant → List Token → List Grant → Type 0
Followed P ts [] = ts ≡ []
Followed P ts (g ∷ gs) = (a b : List Token) × Separated ts a × P a g b × Followed P b gs

-- the tokens are these grants, separated
abbrev pub Grants : Phrase Grant → List Token → List Grant → Type 0
Grants P ts [] = ts ≡ []
Grants P ts (g ∷ gs) = (a : List Token) × P ts g a × Followed P a gs

-- some text spells the grants, its length and their number aside
abbrev pub CanBeSpelled : List Grant → Type 0
CanBeSpelled gs = (text : List ℕ) × (ts : List Token) × IsText text ts × Grants GrantPhrase ts gs

-- a text of at most 4,096 bytes spells the list of at most 64 grants
abbrev pub Spells : List ℕ → List Grant → Type 0
Spells text gs = (length text ≤ 4096) × (length gs ≤ 64) × ((ts : List Token) × IsText text ts × Grants GrantPhrase ts gs)

-- no text spells two lists
abbrev pub AtMostOneList : Type 0
AtMostOneList = (text : List ℕ) (a b : List Grant) → Spells text a → Spells text b → a ≡ b
