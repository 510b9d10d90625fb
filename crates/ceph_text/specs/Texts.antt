-- Statement: contracts of public calls use it.
-- The grants of a whole text as Ceph 16.2.15 reads them, and where its reading stops.
use Rattle.std.specs.Prelude.{◌≡◌, ◌≢◌, ◌≤◌, ◌<◌, ◌-◌, ℕ, List, [], ◌∷◌, length, drop, Option, Some, None}
use Rattle.std.specs.List.{prefix_len}
use Rattle.ceph_text.specs.declared.fault.CephFault.{CephFault}
use Rattle.ceph_text.specs.declared.fault.CephFault.TheVariants.{Refused, TooLong, TooManyGrants, TooLarge, OutOfMemory}
use Rattle.ceph_text.specs.declared.grant.CephGrant.{CephGrant}
use Rattle.ceph_text.specs.Readers.{Reader}
use Rattle.ceph_text.specs.Grammar.{is_space, first_grant, next_grant}

-- the text is these grants, the first by this reader, and then the rest
abbrev pub Begins : Reader CephGrant → List ℕ → List CephGrant → List ℕ → Type 0
Begins reader text [] rest = text ≡ rest
Begins reader text (g ∷ gs) rest = (after : List ℕ) × (reader text ≡ Some (g, after)) × Begins next_grant after gs rest

-- what reads the grant behind these
abbrev pub reader_behind : Reader CephGrant → List CephGrant → Reader CephGrant
reader_behind reader [] = reader
reader_behind reader (g ∷ gs) = next_grant

-- grants are read as long as there is one
abbrev pub ReadsTo : List ℕ → List CephGrant → List ℕ → Type 0
ReadsTo text gs rest = Begins first_grant text gs rest × (reader_behind first_grant gs rest ≡ None)

abbrev pub behind_spaces : List ℕ → List ℕ
behind_spaces text = drop (prefix_len is_space text) text

-- the text is some grants, with nothing but spaces behind them
abbrev pub IsCephText : List ℕ → List CephGrant → Type 0
IsCephText text gs = (gs ≢ []) × ((rest : List ℕ) × ReadsTo text gs rest × (behind_spaces rest ≡ []))

-- the byte behind the grants that can be read, and the spaces behind those
abbrev pub StopsAt : List ℕ → ℕ → Type 0
StopsAt text at = (gs : List CephGrant) × (rest : List ℕ) × ReadsTo text gs rest × (at ≡ length text - length (behind_spaces rest))

-- more than 4,096 grants can be read
abbrev pub HasTooMany : List ℕ → Type 0
HasTooMany text = (gs : List CephGrant) × (rest : List ℕ) × Begins first_grant text gs rest × (length gs ≡ 4097)

abbrev pub IsNoCephText : List ℕ → Type 0
IsNoCephText text = (gs : List CephGrant) → IsCephText text gs → ⊥

-- when each fault comes: a text of more than 1 MiB, of more than 4,096 grants, and one that Ceph refuses
abbrev pub IsFault : List ℕ → CephFault → Type 0
IsFault text TooLong = 1048576 < length text
IsFault text TooManyGrants = (length text ≤ 1048576) × HasTooMany text
IsFault text (Refused at) = (length text ≤ 1048576) × StopsAt text at × IsNoCephText text
IsFault text TooLarge = ⊥
IsFault text OutOfMemory = Unit {0}

-- no text is two lists
abbrev pub AtMostOneCephList : Type 0
AtMostOneCephList = (text : List ℕ) (gs hs : List CephGrant) → IsCephText text gs → IsCephText text hs → gs ≡ hs
