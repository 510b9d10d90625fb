-- Statement: contracts of public calls use it.
-- What `explain` prints of a capability text by Ceph's rules (this project's profile). Every line ends with byte 10.
use Rattle.std.specs.Prelude.{ℕ, ◌≡◌, ◌≢◌, ◌⊎◌, Bool, true, false, List, [], ◌++◌, map, Option, Some, None, codes, decimal, flat_map}
use Rattle.serde_json.specs.Data.{Data, array, object, string, number, unsigned, Members, member, no_members}
use Rattle.serde_json.specs.View.{items_of}
use Rattle.ceph_text.specs.Printed.{printed_ceph}
use Rattle.ceph_text.specs.Profiles.{ceph_flat, unknown_from}
use Rattle.ceph_text.specs.Texts.{IsCephText, IsFault}
use Rattle.ceph_text.specs.declared.entry.CephEntry.{CephEntry}
use Rattle.ceph_text.specs.declared.fault.CephFault.{CephFault}
use Rattle.ceph_text.specs.declared.fault.CephFault.TheVariants.{OutOfMemory, TooLarge}
use Rattle.ceph_text.specs.declared.grant.CephGrant.{CephGrant}
use Rattle.grant_core.specs.Text.{printed_path}
use Rattle.verdict_text.specs.Caret.{shown}
use Rattle.verdict_text.specs.Documents.{fault_alone, json_line}
use Rattle.verdict_text.specs.Reading.{fault_byte, fault_text}
use Rattle.verdict_text.specs.Text.{refused_text}
use Rattle.verdict_text.specs.declared.format.Format.{Format}
use Rattle.verdict_text.specs.declared.format.Format.TheVariants.{Text, Json}
use Rattle.verdict_text.specs.declared.reading.TextFault.{TextFault}
use Rattle.verdict_text.specs.declared.reading.TextFault.TheVariants.{Unread}

-- the network of a grant, behind its other clauses
abbrev pub network_clause : Option (List ℕ) → List ℕ
network_clause None = []
network_clause (Some network) = codes " network " ++ network

-- a grant as Ceph reads it
abbrev pub entry_text : CephEntry → List ℕ
entry_text entry = printed_ceph entry.grant ++ network_clause entry.network

-- its path, and itself
abbrev pub entry_line : CephEntry → List ℕ
entry_line entry = printed_path entry.path ++ (codes " " ++ (shown (entry_text entry) ++ codes "\n"))

-- the number of a grant that uses a profile of an unknown name
abbrev pub unknown_line : ℕ → List ℕ
unknown_line place = decimal place ++ codes " unknown profile, grants nothing\n"

-- a line for each grant that the list expands to, and for each of its grants that expands to nothing
abbrev pub ceph_text : List CephGrant → List ℕ
ceph_text list = flat_map entry_line (ceph_flat list) ++ flat_map unknown_line (unknown_from 1 list)

abbrev pub entry_document : CephEntry → Data
entry_document entry =
    object (member (codes "grant") (string (entry_text entry)) (member (codes "path") (string (printed_path entry.path)) no_members))

abbrev pub number_document : ℕ → Data
number_document n = number (unsigned n)

-- the grants that the list expands to, and the numbers of its grants that expand to nothing
abbrev pub ceph_document : List CephGrant → Data
ceph_document list =
    object (member (codes "grants") (array (items_of (map entry_document (ceph_flat list)))) (member (codes "unknown_profiles") (array (items_of (map number_document (unknown_from 1 list)))) no_members))

abbrev pub ceph_by : Format → List CephGrant → List ℕ
ceph_by Text list = ceph_text list
ceph_by Json list = json_line (ceph_document list)

-- of a text that grants nothing: its fault
abbrev pub fault_document : TextFault → Data
fault_document fault = fault_alone (fault_text fault) (fault_byte fault)

abbrev pub fault_by : Format → TextFault → List ℕ
fault_by Text fault = refused_text (fault_text fault)
fault_by Json fault = json_line (fault_document fault)

-- a list that Ceph reads is explained, or has too many grants, which fails
abbrev pub IsListExplained : Format → List CephGrant → List ℕ → Bool → Type 0
IsListExplained format list text fails =
    ((text ≡ ceph_by format list) × (fails ≡ false)) ⊎ ((text ≡ fault_by format (Unread TooLarge)) × (fails ≡ true))

-- Ceph reads these grants, and the printed text explains them
pub record IsCephExplained (format : Format) (caps text : List ℕ) (fails : Bool) : Type 0 where
  pub list : List CephGrant
  pub reads : IsCephText caps list
  pub explains : IsListExplained format list text fails

-- Ceph reads no grants, which fails
pub record IsCephRefused (format : Format) (caps text : List ℕ) (fails : Bool) : Type 0 where
  pub fault : CephFault
  pub is : IsFault caps fault
  pub no_memory_fault : fault ≢ OutOfMemory
  pub names : text ≡ fault_by format (Unread fault)
  pub ends : fails ≡ true

-- what is printed, and whether the command fails
abbrev pub IsCephExplainText : Format → List ℕ → List ℕ → Bool → Type 0
IsCephExplainText format caps text fails = IsCephExplained format caps text fails ⊎ IsCephRefused format caps text fails
