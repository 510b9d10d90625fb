-- Statement: contracts of public calls use it.
-- What a capability text grants by a set of rules, or why it grants nothing.
use Rattle.std.specs.Prelude.{ℕ, ◌≡◌, ◌≢◌, ◌≤◌, ◌⊎◌, List, [], ◌∷◌, ◌++◌, ◌==◌, Option, Some, None, Result, Ok, Err, codes, length}
use Rattle.std.specs.List.{before_first}
use Rattle.cap_text.specs.FaultText as cap
use Rattle.cap_text.specs.Faults.{IsFirstFault}
use Rattle.cap_text.specs.Grammar.{Spells}
use Rattle.cap_text.specs.declared.fault.CapFault.{CapFault}
use Rattle.cap_grants.specs.declared.fault_kind.FaultKind.TheVariants as kinds
use Rattle.cap_grants.specs.declared.grant.Grant.{Grant}
use Rattle.ceph_text.specs.FaultText as ceph
use Rattle.ceph_text.specs.Profiles.{ceph_flat}
use Rattle.ceph_text.specs.Texts as texts
use Rattle.ceph_text.specs.declared.entry.CephEntry.{CephEntry}
use Rattle.ceph_text.specs.declared.fault.CephFault.{CephFault}
use Rattle.ceph_text.specs.declared.fault.CephFault.TheVariants as faults
use Rattle.ceph_text.specs.declared.grant.CephGrant.{CephGrant}
use Rattle.grant_core.specs.BuiltIn.{built_in}
use Rattle.grant_core.specs.Flat.{Flat, flat}
use Rattle.grant_core.specs.Refusal.{expand_refusal}
use Rattle.grant_core.specs.Text as profiles
use Rattle.network_core.specs.Network as networks
use Rattle.network_core.specs.declared.network.Network.{Network}
use Rattle.rights_core.specs.Rights.{NetworkGrant, Rights, with_networks}
use Rattle.verdict_text.specs.declared.reading.CephRights.{CephRights}
use Rattle.verdict_text.specs.declared.reading.Rules.{Rules}
use Rattle.verdict_text.specs.declared.reading.Rules.TheVariants.{Project, Ceph}
use Rattle.verdict_text.specs.declared.reading.TextFault.{TextFault}
use Rattle.verdict_text.specs.declared.reading.TextFault.TheVariants.{Spelling, Expansion, Unread}

-- the rights of a text, or the fault for which it has none
abbrev pub Reading : Type 0
Reading = Result Rights TextFault

-- the built-in profiles expand the list to these grants
abbrev pub Expands : List Grant → Flat → Type 0
Expands grants flat_grants = (expand_refusal built_in grants ≡ None) × (flat_grants ≡ flat built_in grants)

-- the text spells a list that expands to these grants
abbrev pub ExpandsTo : List ℕ → Flat → Type 0
ExpandsTo caps flat_grants = (grants : List Grant) × Spells caps grants × Expands grants flat_grants

abbrev pub SpellsNothing : List ℕ → Type 0
SpellsNothing caps = (grants : List Grant) → Spells caps grants → ⊥

-- the text spells nothing and this is its first fault, or it spells a list that is not expanded
abbrev pub IsFaultOf : List ℕ → TextFault → Type 0
IsFaultOf caps (Spelling fault) = (fault.kind ≢ kinds.OutOfMemory) × IsFirstFault caps fault × SpellsNothing caps
IsFaultOf caps (Expansion fault) = (grants : List Grant) × Spells caps grants × (expand_refusal built_in grants ≡ Some fault)
IsFaultOf caps (Unread fault) = ⊥

-- grants of no network, until this tick
abbrev pub rights_of : Flat → Option ℕ → Rights
rights_of flat_grants until = record { grants = with_networks flat_grants []; until = until }

-- the rights of a list, which end at this tick, or why the list is not expanded
abbrev pub IsListReading : List Grant → Option ℕ → Reading → Type 0
IsListReading grants until (Ok rights) = (flat_grants : Flat) × Expands grants flat_grants × (rights ≡ rights_of flat_grants until)
IsListReading grants until (Err (Spelling fault)) = ⊥
IsListReading grants until (Err (Expansion fault)) = expand_refusal built_in grants ≡ Some fault
IsListReading grants until (Err (Unread fault)) = ⊥

abbrev pub IsProjectReading : List ℕ → Option ℕ → Reading → Type 0
IsProjectReading caps until (Ok rights) = (flat_grants : Flat) × ExpandsTo caps flat_grants × (rights ≡ rights_of flat_grants until)
IsProjectReading caps until (Err fault) = IsFaultOf caps fault

-- ---- by Ceph's rules

-- the network that the text of a clause writes, if there is a clause
abbrev pub IsNetworkOf : Option (List ℕ) → Option Network → Type 0
IsNetworkOf None network = network ≡ None
IsNetworkOf (Some text) None = ⊥
IsNetworkOf (Some text) (Some network) = networks.IsReading text network

-- grants with the networks that their texts write
abbrev pub AreGrantsOf : List CephEntry → List NetworkGrant → Type 0
AreGrantsOf [] grants = grants ≡ []
AreGrantsOf (entry ∷ entries) [] = ⊥
AreGrantsOf (entry ∷ entries) (g ∷ grants) =
    (g.path ≡ entry.path) × IsNetworkOf entry.network g.network × (g.grant ≡ entry.grant) × AreGrantsOf entries grants

-- the rights of a list of grants, which end at this tick; or the list expands to too many
abbrev pub IsCephListReading : List CephGrant → Option ℕ → Reading → Type 0
IsCephListReading list until (Ok rights) = AreGrantsOf (ceph_flat list) rights.grants × (rights.until ≡ until)
IsCephListReading list until (Err fault) = fault ≡ Unread faults.TooLarge

-- Ceph reads no grants, or more than are expanded
abbrev pub IsCephFaultOf : List ℕ → TextFault → Type 0
IsCephFaultOf caps (Spelling fault) = ⊥
IsCephFaultOf caps (Expansion fault) = ⊥
IsCephFaultOf caps (Unread fault) =
    (texts.IsFault caps fault × (fault ≢ faults.OutOfMemory)) ⊎ ((list : List CephGrant) × texts.IsCephText caps list × (fault ≡ faults.TooLarge))

-- the grants that Ceph reads, or why it reads none
abbrev pub IsCephTextReading : List ℕ → Option ℕ → Reading → Type 0
IsCephTextReading caps until (Ok rights) = (list : List CephGrant) × texts.IsCephText caps list × IsCephListReading list until (Ok rights)
IsCephTextReading caps until (Err fault) = IsCephFaultOf caps fault

-- how many grants a text has, and the rights that they expand to; or why Ceph reads no grants
abbrev pub IsCounted : List CephGrant → Result CephRights TextFault → Type 0
IsCounted list (Ok found) = (found.count ≡ length list) × (length list ≤ 4096) × AreGrantsOf (ceph_flat list) found.rights.grants
IsCounted list (Err fault) = fault ≡ Unread faults.TooLarge

abbrev pub IsCephRights : List ℕ → Result CephRights TextFault → Type 0
IsCephRights caps (Ok found) = (list : List CephGrant) × texts.IsCephText caps list × IsCounted list (Ok found)
IsCephRights caps (Err fault) = IsCephFaultOf caps fault

-- where there is no text nothing is granted, which is no fault
abbrev pub IsCephReading : List ℕ → Option ℕ → Reading → Type 0
IsCephReading [] until reading = reading ≡ Ok (rights_of [] until)
IsCephReading (byte ∷ bytes) until reading = IsCephTextReading (byte ∷ bytes) until reading

-- ---- by either

-- the rights of the text, which end at this tick, or the fault of the text
abbrev pub IsReading : Rules → List ℕ → Option ℕ → Reading → Type 0
IsReading Project caps until reading = IsProjectReading caps until reading
IsReading Ceph caps until reading = IsCephReading caps until reading

abbrev pub fault_text : TextFault → List ℕ
fault_text (Spelling fault) = cap.fault_text fault
fault_text (Expansion fault) = profiles.fault_text fault
fault_text (Unread fault) = ceph.fault_text fault

abbrev pub ceph_byte : CephFault → Option ℕ
ceph_byte (faults.Refused at) = Some at
ceph_byte faults.TooLong = None
ceph_byte faults.TooManyGrants = None
ceph_byte faults.TooLarge = None
ceph_byte faults.OutOfMemory = None

-- the byte of a fault, if it has one
abbrev pub fault_byte : TextFault → Option ℕ
fault_byte (Spelling fault) = Some fault.at
fault_byte (Expansion fault) = None
fault_byte (Unread fault) = ceph_byte fault

-- what is before the first blank
abbrev pub first_word : List ℕ → List ℕ
first_word text = before_first (λ byte. byte == 32) text

-- a fault's number, with which its printed form begins
abbrev pub fault_number : TextFault → List ℕ
fault_number fault = first_word (fault_text fault)

-- the line of a side that grants nothing
abbrev pub refused_side : List ℕ → TextFault → List ℕ
refused_side side fault = codes "refused " ++ (side ++ (codes " " ++ (fault_text fault ++ codes "\n")))

-- a text that was read
pub record ReadText : Type 0 where
  pub rules : Rules
  pub text : List ℕ
  pub until : Option ℕ  -- when its rights end
  pub read : Reading
