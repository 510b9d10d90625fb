-- Statement: contracts of public calls use it.
-- The texts of a user, and what its osd text expands to.
use Rattle.std.specs.Prelude.{◌≡◌, ℕ, List, [], Bool, true, false, ◌&&◌, ◌||◌, not, Option, None, Some, length, nat_lt, is_some}
use Rattle.std.specs.Str.{bytes_eq}
use Rattle.cap_text.specs.declared.fault.CapFault.{CapFault}
use Rattle.cap_grants.specs.declared.fault_kind.FaultKind.TheVariants.{TooLong}
use Rattle.cap_grants.specs.declared.grant.Grant.{Grant}
use Rattle.cap_text.specs.Grammar.{Spells}
use Rattle.cap_text.specs.Faults.{IsFirstFault}
use Rattle.grant_core.specs.Flat.{Table, Flat, flat}
use Rattle.grant_core.specs.Refusal.{expand_refusal}
use Rattle.verdict_core.specs.Ticket.{Ticket}
use Rattle.auth_db.specs.declared.caps.Caps.{Caps}

-- ---- all four texts

-- a text of more than 4,096 bytes
abbrev pub is_long_text : Option (List ℕ) → Bool
is_long_text None = false
is_long_text (Some text) = nat_lt 4096 (length text)

abbrev pub has_long_text : Caps → Bool
has_long_text caps = is_long_text caps.mon || (is_long_text caps.mgr || (is_long_text caps.mds || is_long_text caps.osd))

-- what such a text is refused by, whichever of the four it is
abbrev pub too_long : CapFault
too_long = record { kind = TooLong; at = 0 }

abbrev pub has_no_text : Caps → Bool
has_no_text caps = not (is_some caps.mon) && (not (is_some caps.mgr) && (not (is_some caps.mds) && not (is_some caps.osd)))

-- both are missing, or both are there with the same bytes
abbrev pub is_same_text : Option (List ℕ) → Option (List ℕ) → Bool
is_same_text None None = true
is_same_text None (Some b) = false
is_same_text (Some a) None = false
is_same_text (Some a) (Some b) = bytes_eq a b

abbrev pub are_same_caps : Caps → Caps → Bool
are_same_caps a b = is_same_text a.mon b.mon && (is_same_text a.mgr b.mgr && (is_same_text a.mds b.mds && is_same_text a.osd b.osd))

-- ---- the osd text

-- The text spells a list that is expanded with the table. A text spells at most one list.
abbrev pub IsGoodText : Table → List ℕ → Type 0
IsGoodText table text = (grants : List Grant) × Spells text grants × (expand_refusal table grants ≡ None)

-- the grants that the text expands to with the table, each with its path
abbrev pub ComesTo : Table → List ℕ → Flat → Type 0
ComesTo table text tree = (grants : List Grant) × Spells text grants × (tree ≡ flat table grants)

-- a user may go without an osd text
abbrev pub IsGood : Table → Option (List ℕ) → Type 0
IsGood table None = Unit {0}
IsGood table (Some text) = IsGoodText table text

-- what an osd text gives, until the end that was asked for
abbrev pub IsTicket : Table → Option (List ℕ) → Option ℕ → Ticket → Type 0
IsTicket table None until ticket = ticket ≡ record { grants = []; until = until }
IsTicket table (Some text) until ticket = ComesTo table text ticket.grants × (ticket.until ≡ until)

abbrev pub SpellsNothing : List ℕ → Type 0
SpellsNothing text = (grants : List Grant) → Spells text grants → ⊥

-- the text spells no list, and this is its first fault
abbrev pub IsBadText : List ℕ → CapFault → Type 0
IsBadText text fault = IsFirstFault text fault × SpellsNothing text
