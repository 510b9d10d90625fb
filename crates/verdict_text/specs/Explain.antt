-- Statement: contracts of public calls use it.
-- What `explain` prints of a capability text, and how a fault's position is shown (this project's profile). Every line ends with byte 10.
use Rattle.std.specs.Prelude.{ℕ, ◌≡◌, ◌≢◌, ◌⊎◌, Bool, true, List, ◌++◌, Option, Some, None, is_some, codes, flat_map}
use Rattle.cap_text.specs.FaultText as cap
use Rattle.cap_text.specs.Faults.{IsFirstFault}
use Rattle.cap_text.specs.Grammar.{Spells}
use Rattle.cap_text.specs.Printed.{printed, printed_allow}
use Rattle.cap_grants.specs.declared.grant.AllowGrant.{AllowGrant}
use Rattle.cap_grants.specs.declared.grant.Grant.{Grant}
use Rattle.cap_text.specs.declared.fault.CapFault.{CapFault}
use Rattle.cap_grants.specs.declared.fault_kind.FaultKind.TheVariants as kinds
use Rattle.grant_core.specs.BuiltIn.{built_in}
use Rattle.grant_core.specs.Flat.{Flat, flat}
use Rattle.grant_core.specs.Refusal.{expand_refusal}
use Rattle.grant_core.specs.Text as profiles
use Rattle.grant_core.specs.Text.{printed_path}
use Rattle.grant_core.specs.declared.fault.ExpandFault.{ExpandFault}
use Rattle.verdict_text.specs.Text.{refused_text}
use Rattle.verdict_text.specs.Reading.{SpellsNothing}
use Rattle.verdict_text.specs.Documents.{expansion_document, explained_document, json_line, spelling_document}
use Rattle.verdict_text.specs.declared.format.Format.{Format}
use Rattle.verdict_text.specs.declared.format.Format.TheVariants.{Text, Json}

-- a grant's path, and its printed form
abbrev pub grant_line : List ℕ × AllowGrant → List ℕ
grant_line entry = printed_path entry.0 ++ (codes " " ++ (printed_allow entry.1 ++ codes "\n"))

-- the canonical form on a line, and a line for each grant that the list expands to
abbrev pub explained_text : List Grant → Flat → List ℕ
explained_text grants ticket = printed grants ++ (codes "\n" ++ flat_map grant_line ticket)

-- the same as a text or as a document
abbrev pub explained_by : Format → List Grant → Flat → List ℕ
explained_by Text grants ticket = explained_text grants ticket
explained_by Json grants ticket = json_line (explained_document grants ticket)

-- why a list is not expanded
abbrev pub expansion_by : Format → ExpandFault → List ℕ
expansion_by Text fault = refused_text (profiles.fault_text fault)
expansion_by Json fault = json_line (expansion_document fault)

-- why a text spells no list
abbrev pub spelling_by : Format → CapFault → List ℕ
spelling_by Text fault = refused_text (cap.fault_text fault)
spelling_by Json fault = json_line (spelling_document fault)

-- what is printed of a list: by its expansion with the built-in profiles, or by why that is refused
abbrev pub list_by : Format → Option ExpandFault → List Grant → List ℕ
list_by format (Some fault) grants = expansion_by format fault
list_by format None grants = explained_by format grants (flat built_in grants)

-- the capability text spells these grants, and the printed text explains them; it fails where they cannot be expanded
abbrev pub IsExplained : Format → List ℕ → List ℕ → Bool → Type 0
IsExplained format caps text fails =
    (grants : List Grant) × Spells caps grants × (text ≡ list_by format (expand_refusal built_in grants) grants) × (fails ≡ is_some (expand_refusal built_in grants))

-- the capability text spells no grants, and the printed text names its first fault
abbrev pub IsRefused : Format → List ℕ → List ℕ → Bool → Type 0
IsRefused format caps text fails =
    (fault : CapFault) × (fault.kind ≢ kinds.OutOfMemory) × IsFirstFault caps fault × SpellsNothing caps × (text ≡ spelling_by format fault) × (fails ≡ true)

-- what is printed, and whether the command fails
abbrev pub IsExplainText : Format → List ℕ → List ℕ → Bool → Type 0
IsExplainText format caps text fails = IsExplained format caps text fails ⊎ IsRefused format caps text fails
