-- Statement: contracts of public calls use it.
-- Why a text has no ticket, and the numbers that C gets for it. Source: this project's profile.
use Rattle.std.specs.Prelude.{◌≡◌, ℕ, List, [], Option, None, Some, Err, codes, ◌==◌, if◌then◌else◌}
use Rattle.cap_grants.specs.declared.grant.Grant.{Grant}
use Rattle.cap_grants.specs.declared.fault_kind.FaultKind.{FaultKind}
use Rattle.cap_grants.specs.declared.fault_kind.FaultKind.TheVariants as kinds
use Rattle.cap_text.specs.Grammar.{Spells}
use Rattle.cap_text.specs.Faults.{IsFirstFault}
use Rattle.ceph_text.specs.declared.fault.CephFault.{CephFault}
use Rattle.ceph_text.specs.declared.fault.CephFault.TheVariants as ceph
use Rattle.grant_core.specs.BuiltIn.{built_in}
use Rattle.grant_core.specs.Refusal.{expand_refusal}
use Rattle.grant_core.specs.declared.fault.ExpandFault.{ExpandFault}
use Rattle.grant_core.specs.declared.fault.ExpandFault.TheVariants as why
use Rattle.verdict_text.specs.Reading.{IsCephReading}
use Rattle.verdict_text.specs.declared.reading.Rules.{Rules}
use Rattle.verdict_text.specs.declared.reading.Rules.TheVariants.{Project, Ceph}
use Rattle.verdict_text.specs.declared.reading.TextFault.TheVariants.{Unread}
use Rattle.gate_calls.specs.declared.making.Refusal.{Refusal}
use Rattle.gate_calls.specs.declared.making.Refusal.TheVariants as no

-- the number of a rule of capability texts: C1 is 1
abbrev pub spelling_rule : FaultKind → ℕ
spelling_rule kinds.TooLong = 1
spelling_rule kinds.TooManyGrants = 2
spelling_rule kinds.UnknownWord = 3
spelling_rule kinds.BadAccess = 4
spelling_rule kinds.BadMatch = 5
spelling_rule kinds.BadWord = 6
spelling_rule kinds.NetworkClause = 7
spelling_rule kinds.OutOfMemory = 8

-- the number of a rule of profiles, and the grant that breaks it: G1 is 17
abbrev pub expansion_rule : ExpandFault → ℕ × ℕ
expansion_rule (why.UnknownProfile number) = (17, number)
expansion_rule why.DuplicateProfile = (18, 0)
expansion_rule (why.TagInProfile number) = (19, number)
expansion_rule why.TooManyProfiles = (20, 0)
expansion_rule why.TooLarge = (21, 0)
expansion_rule why.OutOfMemory = (22, 0)

-- the number of a rule of Ceph's reading, and the byte where reading stops: E1 is 33
abbrev pub ceph_rule : CephFault → ℕ × ℕ
ceph_rule (ceph.Refused at) = (33, at)
ceph_rule ceph.TooLong = (34, 0)
ceph_rule ceph.TooManyGrants = (35, 0)
ceph_rule ceph.TooLarge = (36, 0)
ceph_rule ceph.OutOfMemory = (37, 0)

-- the list has no expansion for this reason, or an allocation failed
abbrev pub IsExpansionRefusal : List Grant → Refusal → Type 0
IsExpansionRefusal grants (no.Spelling fault) = ⊥
IsExpansionRefusal grants (no.Expansion fault) = expand_refusal built_in grants ≡ Some fault
IsExpansionRefusal grants (no.Ceph fault) = ⊥
IsExpansionRefusal grants no.OutOfMemory = Unit {0}

-- Why a text has no ticket by this project's rules: its first fault, or why the grants that it spells have no expansion, or an
-- allocation failed.
abbrev pub IsProjectRefusal : List ℕ → Refusal → Type 0
IsProjectRefusal text (no.Spelling fault) = IsFirstFault text fault × ((grants : List Grant) → Spells text grants → ⊥)
IsProjectRefusal text (no.Expansion fault) = (grants : List Grant) × Spells text grants × (expand_refusal built_in grants ≡ Some fault)
IsProjectRefusal text (no.Ceph fault) = ⊥
IsProjectRefusal text no.OutOfMemory = Unit {0}

-- Why it has none by Ceph's: why Ceph does not read it, or an allocation failed.
abbrev pub IsCephRefusal : List ℕ → Refusal → Type 0
IsCephRefusal text (no.Spelling fault) = ⊥
IsCephRefusal text (no.Expansion fault) = ⊥
IsCephRefusal text (no.Ceph fault) = (until : Option ℕ) × IsCephReading text until (Err (Unread fault))
IsCephRefusal text no.OutOfMemory = Unit {0}

abbrev pub IsRefusal : List ℕ → Refusal → Rules → Type 0
IsRefusal text refusal Project = IsProjectRefusal text refusal
IsRefusal text refusal Ceph = IsCephRefusal text refusal

-- the rule's number, and where the text breaks it; none where an allocation failed
abbrev pub told : Refusal → Option (ℕ × ℕ)
told (no.Spelling fault) = Some (spelling_rule fault.kind, fault.at)
told (no.Expansion fault) = Some (expansion_rule fault)
told (no.Ceph fault) = Some (ceph_rule fault)
told no.OutOfMemory = None

-- The first fault of a text by these rules, by the number of the rule that the text breaks and where: of its spelling a byte's
-- offset, of its profiles a grant's number.
abbrev pub IsFault : List ℕ → ℕ → ℕ → Rules → Type 0
IsFault text rule at rules = (refusal : Refusal) × IsRefusal text refusal rules × (told refusal ≡ Some (rule, at))

-- the printed name of a rule's number; none for a number that `sig_fault` never has
abbrev pub rule_name : ℕ → List ℕ
rule_name rule =
    if rule == 1 then codes "C1 TooLong"
    else if rule == 2 then codes "C2 TooManyGrants"
    else if rule == 3 then codes "C3 UnknownWord"
    else if rule == 4 then codes "C4 BadAccess"
    else if rule == 5 then codes "C5 BadMatch"
    else if rule == 6 then codes "C6 BadWord"
    else if rule == 7 then codes "C7 NetworkClause"
    else if rule == 17 then codes "G1 UnknownProfile"
    else if rule == 21 then codes "G5 TooLarge"
    else if rule == 33 then codes "E1 CephRefuses"
    else if rule == 34 then codes "E2 TextTooLong"
    else if rule == 35 then codes "E3 TooManyGrants"
    else if rule == 36 then codes "E4 TooLarge"
    else []
