-- No document of an answer or an explanation has a float.
use Rattle.std.proofs.Common.{◌≡◌, ℕ, List, [], ◌∷◌, ◌++◌, ◌||◌, false, Option, None, Some, Result, Ok, Err, codes, flat_map, map, refl, ap, ◌∙◌}
use Rattle.serde_json.specs.Data.{Data}
use Rattle.serde_json.specs.View.{items_of}
use Rattle.serde_json.specs.Written.{has_float, items_have_float}
use Rattle.cap_grants.specs.declared.grant.Grant.{Grant}
use Rattle.ceph_text.specs.Profiles.{ceph_flat, unknown_from}
use Rattle.ceph_text.specs.declared.grant.CephGrant.{CephGrant}
use Rattle.grant_core.specs.Flat.{Flat}
use Rattle.request_types.specs.declared.request.Condition.{Condition}
use Rattle.rights_core.specs.Rights.{NetworkGrant}
use Rattle.verdict_text.specs.CephExplained.{ceph_document, entry_document, fault_document, number_document}
use Rattle.verdict_text.specs.Documents.{answer_document, condition_document, entity_document, fault_alone, fault_value, explained_document, grant_document, row_document}
use Rattle.verdict_text.specs.Reasons.{Reason, allowed_document, allowed_items, allowing_items, denied_document, denied_items, failed_items}
use Rattle.verdict_text.specs.declared.reading.Rules.{Rules}
use Rattle.verdict_text.specs.declared.verdict.Verdict.{Verdict}
use Rattle.verdict_text.specs.declared.verdict.Verdict.TheVariants.{Allowed, Denied, Depends}
use Rattle.verdict_text.specs.declared.verdict.VerdictFault.{VerdictFault}
use Rattle.verdict_text.specs.declared.verdict.VerdictFault.TheVariants.{Text, Calls}
use Rattle.verdict_text.specs.Reading.{fault_byte, fault_text}
use Rattle.verdict_text.specs.declared.reading.TextFault.{TextFault}

-- a list of documents without floats
pub each : {X : Type 0} (document : X → Data) → ((x : X) → has_float (document x) ≡ false) → (xs : List X) → items_have_float (items_of (map document xs)) ≡ false
each document none [] = refl
each document none (x ∷ xs) = ap (λ b. b || items_have_float (items_of (map document xs))) (none x) ∙ each document none xs

-- the object of a fault has none, whatever else the document has
pub of_fault_value : (printed : List ℕ) (byte : Option ℕ) → has_float (fault_value printed byte) ≡ false
of_fault_value printed (Some at) = refl
of_fault_value printed None = refl

pub of_alone : (printed : List ℕ) (byte : Option ℕ) → has_float (fault_alone printed byte) ≡ false
of_alone printed byte = ap (λ b. b || false) (of_fault_value printed byte)

pub of_answer : (answer : Result Verdict VerdictFault) → has_float (answer_document answer) ≡ false
of_answer (Ok Allowed) = refl
of_answer (Ok (Denied report)) = ap (λ b. b || false) (each condition_document (λ _. refl) report)
of_answer (Ok (Depends allowed denied)) = refl
of_answer (Err (Text fault)) = ap (λ b. b || false) (of_fault_value (fault_text fault) (fault_byte fault))
of_answer (Err (Calls fault)) = refl

pub of_explained : (grants : List Grant) (ticket : Flat) → has_float (explained_document grants ticket) ≡ false
of_explained grants ticket = ap (λ b. b || false) (each grant_document (λ _. refl) ticket)

pub of_entity : (name : List ℕ) (answer : Result Verdict VerdictFault) → has_float (entity_document name answer) ≡ false
of_entity name answer = ap (λ b. b || false) (of_answer answer)

pub of_row : (name : List ℕ) (answers : List (Result Verdict VerdictFault)) → has_float (row_document name answers) ≡ false
of_row name answers = ap (λ b. b || false) (each answer_document of_answer answers)

pub of_ceph : (list : List CephGrant) → has_float (ceph_document list) ≡ false
of_ceph list =
    ap (λ b. b || (items_have_float (items_of (map number_document (unknown_from 1 list))) || false)) (each entry_document (λ _. refl) (ceph_flat list))
    ∙ ap (λ b. b || false) (each number_document (λ _. refl) (unknown_from 1 list))

pub of_fault : (fault : TextFault) → has_float (fault_document fault) ≡ false
of_fault fault = of_alone (fault_text fault) (fault_byte fault)

-- what each of some things adds
pub all : {X : Type 0} (items : X → List Data) → ((x : X) (more : List Data) → items_have_float (items_of (items x ++ more)) ≡ items_have_float (items_of more)) → (xs : List X)
    → items_have_float (items_of (flat_map items xs)) ≡ false
all items none [] = refl
all items none (x ∷ xs) = none x (flat_map items xs) ∙ all items none xs

failed : (rules : Rules) (g : NetworkGrant) (condition : Option Condition) (more : List Data) → items_have_float (items_of (failed_items rules g condition ++ more)) ≡ items_have_float (items_of more)
failed rules g None more = refl
failed rules g (Some condition) more = refl

allowing : (rules : Rules) (g : NetworkGrant) (condition : Option Condition) (more : List Data) → items_have_float (items_of (allowing_items rules g condition ++ more)) ≡ items_have_float (items_of more)
allowing rules g None more = refl
allowing rules g (Some condition) more = refl

pub of_denied : (rules : Rules) (reasons : List Reason) → has_float (denied_document rules reasons) ≡ false
of_denied rules reasons = ap (λ b. b || false) (all (denied_items rules) (λ r. failed rules r.grant r.condition) reasons)

pub of_allowed : (rules : Rules) (reasons : List Reason) → has_float (allowed_document rules reasons) ≡ false
of_allowed rules reasons = ap (λ b. b || false) (all (allowed_items rules) (λ r. allowing rules r.grant r.condition) reasons)
