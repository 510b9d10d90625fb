-- Statement: contracts of public calls use it.
-- Answers as JSON documents, which `--format json` prints (this project's profile). A document is a line of JSON without blanks,
-- whose members stand in the order of their names.
use Rattle.std.specs.Prelude.{ℕ, List, [], ◌∷◌, ◌++◌, ◌==◌, Option, None, Some, Result, Ok, Err, codes, map, if◌then◌else◌}
use Rattle.std.specs.List.{after_first}
use Rattle.serde_json.specs.Data.{Data, array, object, string, number, unsigned, Members, member, no_members}
use Rattle.serde_json.specs.View.{items_of}
use Rattle.serde_json.specs.Written.{compact_text}
use Rattle.cap_text.specs.FaultText as cap
use Rattle.cap_text.specs.Printed.{printed, printed_allow}
use Rattle.cap_text.specs.declared.fault.CapFault.{CapFault}
use Rattle.cap_grants.specs.declared.grant.AllowGrant.{AllowGrant}
use Rattle.cap_grants.specs.declared.grant.Grant.{Grant}
use Rattle.grant_core.specs.Flat.{Flat}
use Rattle.grant_core.specs.Text as profiles
use Rattle.grant_core.specs.Text.{printed_path}
use Rattle.grant_core.specs.declared.fault.ExpandFault.{ExpandFault}
use Rattle.network_core.specs.Address.{address_text}
use Rattle.object_core.specs.Faults as vectors
use Rattle.object_core.specs.declared.needs.NeedsFault.{NeedsFault}
use Rattle.request_types.specs.Text.{condition_text}
use Rattle.request_types.specs.declared.request.Condition.{Condition}
use Rattle.verdict_text.specs.Reading.{fault_byte, fault_text, first_word}
use Rattle.verdict_text.specs.Text.{answer_text}
use Rattle.verdict_text.specs.declared.format.Format.{Format}
use Rattle.verdict_text.specs.declared.format.Format.TheVariants.{Text, Json}
use Rattle.verdict_text.specs.declared.verdict.Verdict.{Verdict}
use Rattle.verdict_text.specs.declared.verdict.Verdict.TheVariants.{Allowed, Denied, Depends}
use Rattle.verdict_text.specs.declared.verdict.VerdictFault.{VerdictFault}
use Rattle.verdict_text.specs.declared.verdict.VerdictFault.TheVariants as faults

-- a document on a line
abbrev pub json_line : Data → List ℕ
json_line document = compact_text document ++ codes "\n"

-- a list of documents is made of pieces, each with a comma in front of it
abbrev pub piece : Data → List ℕ
piece document = codes "," ++ compact_text document

-- pieces without the first comma
abbrev pub without_comma : List ℕ → List ℕ
without_comma [] = []
without_comma (byte ∷ bytes) = if byte == 44 then bytes else byte ∷ bytes

-- the document of a list under a name, from the pieces of its items; as a text nothing is added
abbrev pub list_by : List ℕ → Format → List ℕ → List ℕ
list_by name Text pieces = pieces
list_by name Json pieces = codes "{\"" ++ (name ++ (codes "\":[" ++ (without_comma pieces ++ codes "]}\n")))

-- of some entities
abbrev pub entities_by : Format → List ℕ → List ℕ
entities_by format pieces = list_by (codes "entities") format pieces

-- ---- verdicts

-- a grant's path, and the first condition of it that the request fails
abbrev pub condition_document : List ℕ × Condition → Data
condition_document line =
    object (member (codes "condition") (string (condition_text line.1)) (member (codes "path") (string (printed_path line.0)) no_members))

abbrev pub verdict_members : List ℕ → Members
verdict_members word = member (codes "verdict") (string word) no_members

-- with the byte of a fault, if it has one
abbrev pub byte_member : Option ℕ → Members → Members
byte_member (Some at) members = member (codes "byte") (number (unsigned at)) members
byte_member None members = members

-- what is behind the first blank
abbrev pub behind_blank : List ℕ → List ℕ
behind_blank text = after_first (λ byte. byte == 32) text

-- a fault by its printed form, which begins with its number and its name; and its byte, if it has one
abbrev pub fault_value : List ℕ → Option ℕ → Data
fault_value printed byte =
    object (byte_member byte (member (codes "name") (string (first_word (behind_blank printed))) (member (codes "number") (string (first_word printed)) (member (codes "text") (string printed) no_members))))

-- the fault alone
abbrev pub fault_alone : List ℕ → Option ℕ → Data
fault_alone printed byte = object (member (codes "fault") (fault_value printed byte) no_members)

-- of what is refused for this reason
abbrev pub refused_document : List ℕ → Option ℕ → Data
refused_document printed byte = object (member (codes "fault") (fault_value printed byte) (verdict_members (codes "refused")))

-- a verdict, or the fault that prevents one
abbrev pub answer_document : Result Verdict VerdictFault → Data
answer_document (Ok Allowed) = object (verdict_members (codes "allow"))
answer_document (Ok (Denied report)) =
    object (member (codes "report") (array (items_of (map condition_document report))) (verdict_members (codes "deny")))
answer_document (Ok (Depends allowed denied)) =
    object (member (codes "allowed_from") (string (address_text allowed)) (member (codes "denied_from") (string (address_text denied)) (verdict_members (codes "depends"))))
answer_document (Err (faults.Text fault)) = refused_document (fault_text fault) (fault_byte fault)
answer_document (Err (faults.Calls fault)) = refused_document (vectors.text_of fault) None

-- what is printed of an answer
abbrev pub answer_by : Format → Result Verdict VerdictFault → List ℕ
answer_by Text answer = answer_text answer
answer_by Json answer = json_line (answer_document answer)

-- an entity's name and its answer
abbrev pub entity_document : List ℕ → Result Verdict VerdictFault → Data
entity_document name answer = object (member (codes "answer") (answer_document answer) (member (codes "entity") (string name) no_members))

-- an entity's name and its answers
abbrev pub row_document : List ℕ → List (Result Verdict VerdictFault) → Data
row_document name answers =
    object (member (codes "answers") (array (items_of (map answer_document answers))) (member (codes "entity") (string name) no_members))

-- why calls are refused
abbrev pub calls_document : NeedsFault → Data
calls_document fault = fault_alone (vectors.text_of fault) None

-- ---- explanations

-- a grant's printed form, and its path
abbrev pub grant_document : List ℕ × AllowGrant → Data
grant_document entry =
    object (member (codes "grant") (string (printed_allow entry.1)) (member (codes "path") (string (printed_path entry.0)) no_members))

-- the canonical form, and each grant that the list expands to
abbrev pub explained_document : List Grant → Flat → Data
explained_document grants ticket =
    object (member (codes "canonical") (string (printed grants)) (member (codes "grants") (array (items_of (map grant_document ticket))) no_members))

-- of a list that is not expanded
abbrev pub expansion_document : ExpandFault → Data
expansion_document fault = fault_alone (profiles.fault_text fault) None

-- of a text that spells no list
abbrev pub spelling_document : CapFault → Data
spelling_document fault = fault_alone (cap.fault_text fault) (Some fault.at)
