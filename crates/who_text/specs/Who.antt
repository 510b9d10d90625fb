-- Statement: contracts of public calls use it.
-- Which entities are allowed a request, and what is printed of each (this project's profile). Every line ends with byte 10.
use Rattle.std.specs.Prelude.{ℕ, ◌≡◌, Bool, true, false, List, [], ◌∷◌, ◌++◌, Option, Some, None, Result, Ok, Err, codes, flat_map, string_bytes, if◌then◌else◌}
use Rattle.network_core.specs.declared.address.Address.{Address}
use Rattle.network_core.specs.Address.{address_text}
use Rattle.object_core.specs.Faults as vectors
use Rattle.object_core.specs.declared.needs.NeedsFault.{NeedsFault}
use Rattle.request_types.specs.Text.{report_line}
use Rattle.request_types.specs.declared.request.Condition.{Condition}
use Rattle.verdict_text.specs.Answer.{IsAnswerOf}
use Rattle.verdict_text.specs.Asked.{Asked, calls_fault}
use Rattle.verdict_text.specs.ShownName.{shown_name}
use Rattle.verdict_text.specs.Documents.{calls_document, entities_by, entity_document, json_line, piece}
use Rattle.verdict_text.specs.Text.{fault_text, refused_text, verdict_text}
use Rattle.verdict_text.specs.declared.entity.ReadEntity.{ReadEntity}
use Rattle.verdict_text.specs.declared.format.Format.{Format}
use Rattle.verdict_text.specs.declared.format.Format.TheVariants.{Text, Json}
use Rattle.verdict_text.specs.declared.verdict.Verdict.{Verdict}
use Rattle.verdict_text.specs.declared.verdict.Verdict.TheVariants.{Allowed, Denied, Depends}
use Rattle.verdict_text.specs.declared.verdict.VerdictFault.{VerdictFault}

abbrev pub name_line : List ℕ → List ℕ
name_line name = shown_name name ++ codes "\n"

-- a report's line, indented
abbrev pub indented_line : List ℕ × Condition → List ℕ
indented_line line = codes "  " ++ report_line line

-- behind an entity's name
abbrev pub answer_lines : Result Verdict VerdictFault → List ℕ
answer_lines (Ok Allowed) = codes "allow\n"
answer_lines (Ok (Denied report)) = codes "deny\n" ++ flat_map indented_line report
answer_lines (Ok (Depends allowed denied)) = verdict_text (Depends allowed denied)
answer_lines (Err fault) = refused_text (fault_text fault)

-- an entity's name and its answer
abbrev pub answered_lines : List ℕ → Result Verdict VerdictFault → List ℕ
answered_lines name answer = shown_name name ++ (codes " " ++ answer_lines answer)

-- the same as a text or as a piece of a document
abbrev pub answered_by : Format → List ℕ → Result Verdict VerdictFault → List ℕ
answered_by Text name answer = answered_lines name answer
answered_by Json name answer = piece (entity_document name answer)

-- the name of one that may
abbrev pub listed_by : Format → List ℕ → List ℕ
listed_by Text name = name_line name
listed_by Json name = piece (entity_document name (Ok Allowed))

-- one that may from some addresses is listed with one of them
abbrev pub depending_line : List ℕ → Address → List ℕ
depending_line name allowed = shown_name name ++ (codes " depends --from " ++ (address_text allowed ++ codes "\n"))

abbrev pub depending_by : Format → List ℕ → Address → Address → List ℕ
depending_by Text name allowed denied = depending_line name allowed
depending_by Json name allowed denied = piece (entity_document name (Ok (Depends allowed denied)))

-- one that may is listed, and any other is not
abbrev pub listed : Format → List ℕ → Result Verdict VerdictFault → List ℕ
listed format name (Ok Allowed) = listed_by format name
listed format name (Ok (Denied report)) = []
listed format name (Ok (Depends allowed denied)) = depending_by format name allowed denied
listed format name (Err fault) = []

abbrev pub told : Format → Bool → List ℕ → Result Verdict VerdictFault → List ℕ
told format all name answer = if all then answered_by format name answer else listed format name answer

-- what is printed of an entity, by its answer
abbrev pub IsTold : Format → Bool → Asked → ReadEntity → List ℕ → Type 0
IsTold format all asked entity text =
    (answer : Result Verdict VerdictFault) × IsAnswerOf entity.osd.read asked answer × (text ≡ told format all (string_bytes entity.name) answer)

-- what is printed of each entity, in order
abbrev pub AreInOrder : (ReadEntity → List ℕ → Type 0) → List ReadEntity → List ℕ → Type 0
AreInOrder IsOne [] text = text ≡ []
AreInOrder IsOne (entity ∷ entities) text =
    (front rest : List ℕ) × IsOne entity front × AreInOrder IsOne entities rest × (text ≡ front ++ rest)

-- what is printed of all entities
abbrev pub AreTold : Format → Bool → Asked → List ReadEntity → List ℕ → Type 0
AreTold format all asked entities text =
    (pieces : List ℕ) × AreInOrder (IsTold format all asked) entities pieces × (text ≡ entities_by format pieces)

-- why calls are refused
abbrev pub calls_by : Format → NeedsFault → List ℕ
calls_by Text fault = refused_text (vectors.text_of fault)
calls_by Json fault = json_line (calls_document fault)

-- calls that are refused are asked of nobody
abbrev pub IsWhoOf : Format → Option NeedsFault → List ReadEntity → Asked → Bool → List ℕ → Bool → Type 0
IsWhoOf format (Some fault) entities asked all text fails = (text ≡ calls_by format fault) × (fails ≡ true)
IsWhoOf format None entities asked all text fails = AreTold format all asked entities text × (fails ≡ false)

-- what is printed of some entities and a request, and whether the command fails
abbrev pub IsWho : Format → List ReadEntity → Asked → Bool → List ℕ → Bool → Type 0
IsWho format entities asked all text fails = IsWhoOf format (calls_fault asked) entities asked all text fails
