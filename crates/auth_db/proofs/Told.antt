-- What the function of refusals tells, over plain variables.
use Rattle.std.proofs.Common.{◌≡◌, ◌∙◌, ℕ, ◌⊎◌, inl, inr, List, Option, None, Some, Ok, Err, refl, ap, unwrap_or}
use Rattle.std.specs.Prelude.{option_map, MatchOption, MatchResult}
use Rattle.cap_text.specs.declared.fault.CapFault.{CapFault}
use Rattle.cap_grants.specs.declared.fault_kind.FaultKind.{FaultKind}
use Rattle.cap_grants.specs.declared.fault_kind.FaultKind.TheVariants as kinds
use Rattle.cap_grants.specs.declared.grant.Grant.{Grant}
use Rattle.cap_text.specs.Grammar.{Spells}
use Rattle.cap_text.specs.Faults.{MemoryOr, IsFirstFault}
use Rattle.cap_text.specs.ReadText.{Read, read_text}
use Rattle.cap_text.proofs.ReadTexts.{reads_the_grammar}
use Rattle.cap_text.proofs.FirstFaults.{tells_the_first_fault}
use Rattle.cap_text.proofs.ReadAnswers.{reads_nothing_else}
use Rattle.grant_core.specs.declared.fault.ExpandFault.{ExpandFault}
use Rattle.grant_core.specs.declared.fault.ExpandFault.TheVariants as expansion
use Rattle.grant_core.specs.Flat.{Table}
use Rattle.grant_core.specs.Refusal.{expand_refusal}
use Rattle.auth_db.specs.declared.fault.AuthFault.{AuthFault}
use Rattle.auth_db.specs.declared.fault.AuthFault.TheVariants.{OutOfMemory, BadProfile}
use Rattle.auth_db.specs.Texts.{IsGood}
use Rattle.auth_db.specs.Refusals.{fault_of_kind, profile_fault, read_refusal, OsdRefuses, RefusalsAreTheTexts}

-- the fault is this refusal, or out of memory
abbrev pub Told : Option AuthFault → AuthFault → Type 0
Told refusal fault = (fault ≡ OutOfMemory) ⊎ (refusal ≡ Some fault)

-- ---- an osd text

first_told : (table : Table) (text : List ℕ) (fault : CapFault) → IsFirstFault text fault → read_refusal table (read_text text) ≡ read_refusal table (Err fault)
first_told table text fault first = ap (read_refusal table) (tells_the_first_fault text fault first)

pub told_kind : (table : Table) (text : List ℕ) (fault : CapFault) (kind : FaultKind) → MemoryOr kind fault.at (IsFirstFault text fault) → Told (read_refusal table (read_text text)) (fault_of_kind fault kind)
told_kind table text fault kinds.OutOfMemory first = inl refl
told_kind table text fault kinds.TooLong first = inr (first_told table text fault first)
told_kind table text fault kinds.TooManyGrants first = inr (first_told table text fault first)
told_kind table text fault kinds.UnknownWord first = inr (first_told table text fault first)
told_kind table text fault kinds.BadAccess first = inr (first_told table text fault first)
told_kind table text fault kinds.BadMatch first = inr (first_told table text fault first)
told_kind table text fault kinds.BadWord first = inr (first_told table text fault first)
told_kind table text fault kinds.NetworkClause first = inr (first_told table text fault first)

list_told : (table : Table) (text : List ℕ) (grants : List Grant) (refusal : Option ExpandFault) → Spells text grants → expand_refusal table grants ≡ refusal → read_refusal table (read_text text) ≡ option_map BadProfile refusal
list_told table text grants refusal spells is = ap (read_refusal table) (reads_the_grammar text grants spells) ∙ ap (option_map BadProfile) is

told_some : (table : Table) (text : List ℕ) (grants : List Grant) (fault : ExpandFault) → Spells text grants → expand_refusal table grants ≡ Some fault → Told (read_refusal table (read_text text)) (profile_fault fault)
told_some table text grants expansion.OutOfMemory spells is = inl refl
told_some table text grants (expansion.UnknownProfile place) spells is = inr (list_told table text grants (Some (expansion.UnknownProfile place)) spells is)
told_some table text grants expansion.DuplicateProfile spells is = inr (list_told table text grants (Some expansion.DuplicateProfile) spells is)
told_some table text grants (expansion.TagInProfile place) spells is = inr (list_told table text grants (Some (expansion.TagInProfile place)) spells is)
told_some table text grants expansion.TooManyProfiles spells is = inr (list_told table text grants (Some expansion.TooManyProfiles) spells is)
told_some table text grants expansion.TooLarge spells is = inr (list_told table text grants (Some expansion.TooLarge) spells is)

pub told_by : (table : Table) (text : List ℕ) (grants : List Grant) (refusal : Option ExpandFault) → expand_refusal table grants ≡ refusal → Spells text grants → Told (read_refusal table (read_text text)) (profile_fault (unwrap_or refusal expansion.OutOfMemory))
told_by table text grants None is spells = inl refl
told_by table text grants (Some fault) is spells = told_some table text grants fault spells is

pub told_list : (table : Table) (text : List ℕ) (grants : List Grant) (fault : ExpandFault) → Spells text grants → fault ≡ unwrap_or (expand_refusal table grants) expansion.OutOfMemory → Told (read_refusal table (read_text text)) (profile_fault fault)
told_list table text grants fault spells is = rw is (told_by table text grants (expand_refusal table grants) refl spells)

pub told_none : (table : Table) (text : List ℕ) (grants : List Grant) → Spells text grants → expand_refusal table grants ≡ None → read_refusal table (read_text text) ≡ None
told_none table text grants spells is = list_told table text grants None spells is

-- ---- the law

read_apart : (grants : List Grant) (fault : CapFault) (r : Read) → r ≡ Ok grants → r ≡ Err fault → ⊥
read_apart grants fault r ok err = cc

text_refusals : (table : Table) (text : List ℕ) (r : Read) → read_text text ≡ r → MatchResult r (Spells text) (IsFirstFault text) → MatchOption (read_refusal table r) (IsGood table (Some text)) (OsdRefuses table (Some text))
text_refusals table text (Err fault) is first = (first, λ grants spells. read_apart grants fault (read_text text) (reads_the_grammar text grants spells) is)
text_refusals table text (Ok grants) is spells = go (expand_refusal table grants) refl
  where
    go : (refusal : Option ExpandFault) → expand_refusal table grants ≡ refusal → MatchOption (option_map BadProfile refusal) (IsGood table (Some text)) (OsdRefuses table (Some text))
    go None e = (grants, spells, e)
    go (Some fault) e = (grants, spells, e)

pub refusals_are_the_texts : RefusalsAreTheTexts
refusals_are_the_texts table None = tt
refusals_are_the_texts table (Some text) = text_refusals table text (read_text text) refl (reads_nothing_else text)
