-- Statement: contracts of public calls use it.
-- What `verdict` prints of an answer, with the grants for which it holds (this project's profile). Every line ends with byte 10.
use Rattle.std.specs.Prelude.{ℕ, ◌≡◌, List, [], ◌∷◌, ◌++◌, false, Option, Some, None, Result, Ok, Err, codes, decimal, flat_map, if◌then◌else◌, nat_eq}
use Rattle.std.specs.Cmp.Lexicographic.{pointwise}
use Rattle.serde_json.specs.Data.{Data, array, object, string, Members, member, no_members}
use Rattle.serde_json.specs.View.{items_of}
use Rattle.cap_grants.specs.declared.grant.AllowGrant.{AllowGrant}
use Rattle.cap_text.specs.Printed.{printed_allow}
use Rattle.ceph_text.specs.Printed.{printed_ceph}
use Rattle.grant_core.specs.Text.{printed_path}
use Rattle.network_core.specs.Address.{address_text}
use Rattle.network_core.specs.declared.network.Network.{Network}
use Rattle.network_core.specs.declared.network.Network.TheVariants.{Never, Range}
use Rattle.object_core.specs.declared.needs.NeedsFault.{NeedsFault}
use Rattle.request_types.specs.Text.{condition_text}
use Rattle.request_types.specs.declared.request.Condition.{Condition}
use Rattle.rights_core.specs.Reports.{report_from}
use Rattle.rights_core.specs.Rights.{NetworkGrant, Rights}
use Rattle.verdict_text.specs.Answer.{IsAnswerOf}
use Rattle.verdict_text.specs.Asked.{Asked, asked_needs, calls_fault}
use Rattle.verdict_text.specs.Caret.{shown}
use Rattle.verdict_text.specs.Documents.{answer_by, json_line, verdict_members}
use Rattle.verdict_text.specs.Reading.{IsReading, Reading}
use Rattle.verdict_text.specs.declared.format.Format.{Format}
use Rattle.verdict_text.specs.declared.format.Format.TheVariants.{Text, Json}
use Rattle.verdict_text.specs.declared.reading.Rules.{Rules}
use Rattle.verdict_text.specs.declared.reading.Rules.TheVariants.{Project, Ceph}
use Rattle.verdict_text.specs.declared.reasons.Printing.{Printing}
use Rattle.verdict_text.specs.declared.verdict.Verdict.{Verdict}
use Rattle.verdict_text.specs.declared.verdict.Verdict.TheVariants.{Allowed, Denied, Depends}
use Rattle.verdict_text.specs.declared.verdict.VerdictFault.{VerdictFault}

-- a grant of rights, and the first condition of it that a request fails, if it fails one
pub record Reason : Type 0 where
  pub grant : NetworkGrant
  pub condition : Option Condition

-- the condition that the first line gives, if it is of this path
abbrev pub condition_at : List ℕ → List (List ℕ × Condition) → Option Condition
condition_at path [] = None
condition_at path (line ∷ lines) = if pointwise nat_eq path line.0 then Some line.1 else None

-- the lines of the grants behind this path
abbrev pub lines_behind : List ℕ → List (List ℕ × Condition) → List (List ℕ × Condition)
lines_behind path [] = []
lines_behind path (line ∷ lines) = if pointwise nat_eq path line.0 then lines else line ∷ lines

-- each grant with its condition in a report, whose lines are in the order of the grants
abbrev pub reasons : List NetworkGrant → List (List ℕ × Condition) → List Reason
reasons [] lines = []
reasons (g ∷ gs) lines = record { grant = g; condition = condition_at g.path lines } ∷ reasons gs (lines_behind g.path lines)

-- ---- grants

-- as the canonical form of a text that is read by these rules has it
abbrev pub grant_form : Rules → AllowGrant → List ℕ
grant_form Project grant = printed_allow grant
grant_form Ceph grant = printed_ceph grant

-- a clause that Ceph reads as this network; `never` is no address
abbrev pub network_form : Option Network → List ℕ
network_form None = []
network_form (Some Never) = codes " network never"
network_form (Some (Range base length)) = codes " network " ++ (address_text base ++ (codes "/" ++ decimal length))

abbrev pub grant_text : Rules → NetworkGrant → List ℕ
grant_text rules g = grant_form rules g.grant ++ network_form g.network

-- ---- lines

-- a grant at the end of its line
abbrev pub grant_behind : Rules → NetworkGrant → List ℕ
grant_behind rules g = codes "   " ++ (shown (grant_text rules g) ++ codes "\n")

-- of a grant that denies: its path, the condition, and the grant
abbrev pub failed_line : Rules → NetworkGrant → Option Condition → List ℕ
failed_line rules g None = []
failed_line rules g (Some condition) = printed_path g.path ++ (codes " " ++ (condition_text condition ++ grant_behind rules g))

abbrev pub denied_line : Rules → Reason → List ℕ
denied_line rules reason = failed_line rules reason.grant reason.condition

-- of a grant that allows: its path, and the grant
abbrev pub allowing_line : Rules → NetworkGrant → Option Condition → List ℕ
allowing_line rules g None = printed_path g.path ++ grant_behind rules g
allowing_line rules g (Some condition) = []

abbrev pub allowed_line : Rules → Reason → List ℕ
allowed_line rules reason = allowing_line rules reason.grant reason.condition

abbrev pub denied_text : Rules → List Reason → List ℕ
denied_text rules of_grants = codes "deny\n" ++ flat_map (denied_line rules) of_grants

abbrev pub allowed_text : Rules → List Reason → List ℕ
allowed_text rules of_grants = codes "allow\n" ++ flat_map (allowed_line rules) of_grants

-- ---- documents

abbrev pub grant_members : Rules → NetworkGrant → Members
grant_members rules g = member (codes "grant") (string (grant_text rules g)) (member (codes "path") (string (printed_path g.path)) no_members)

abbrev pub failed_items : Rules → NetworkGrant → Option Condition → List Data
failed_items rules g None = []
failed_items rules g (Some condition) = object (member (codes "condition") (string (condition_text condition)) (grant_members rules g)) ∷ []

abbrev pub denied_items : Rules → Reason → List Data
denied_items rules reason = failed_items rules reason.grant reason.condition

abbrev pub allowing_items : Rules → NetworkGrant → Option Condition → List Data
allowing_items rules g None = object (grant_members rules g) ∷ []
allowing_items rules g (Some condition) = []

abbrev pub allowed_items : Rules → Reason → List Data
allowed_items rules reason = allowing_items rules reason.grant reason.condition

abbrev pub denied_document : Rules → List Reason → Data
denied_document rules of_grants =
    object (member (codes "report") (array (items_of (flat_map (denied_items rules) of_grants))) (verdict_members (codes "deny")))

abbrev pub allowed_document : Rules → List Reason → Data
allowed_document rules of_grants =
    object (member (codes "grants") (array (items_of (flat_map (allowed_items rules) of_grants))) (verdict_members (codes "allow")))

-- ---- answers

abbrev pub denied_by : Format → Rules → List Reason → List ℕ
denied_by Text rules of_grants = denied_text rules of_grants
denied_by Json rules of_grants = json_line (denied_document rules of_grants)

abbrev pub allowed_by : Format → Rules → List Reason → List ℕ
allowed_by Text rules of_grants = allowed_text rules of_grants
allowed_by Json rules of_grants = json_line (allowed_document rules of_grants)

-- of rights that allow a request: the grants whose conditions it meets; it has none where its calls are refused
abbrev pub why_allowed : Printing → Rights → Asked → Option NeedsFault → List ℕ
why_allowed how rights asked (Some fault) = answer_by how.format (Ok Allowed)
why_allowed how rights asked None =
    allowed_by how.format how.rules (reasons rights.grants (report_from rights asked.target (asked_needs asked) asked.tick asked.from))

-- of an answer of rights
abbrev pub judged_by : Printing → Rights → Asked → Result Verdict VerdictFault → List ℕ
judged_by how rights asked (Ok Allowed) = if how.why then why_allowed how rights asked (calls_fault asked) else answer_by how.format (Ok Allowed)
judged_by how rights asked (Ok (Denied report)) = denied_by how.format how.rules (reasons rights.grants report)
judged_by how rights asked (Ok (Depends allowed denied)) = answer_by how.format (Ok (Depends allowed denied))
judged_by how rights asked (Err fault) = answer_by how.format (Err fault)

-- of an answer of a text that was read: where it has no rights, its fault
abbrev pub printed_by : Printing → Reading → Asked → Result Verdict VerdictFault → List ℕ
printed_by how (Ok rights) asked answer = judged_by how rights asked answer
printed_by how (Err fault) asked answer = answer_by how.format answer

-- the text is what is printed of a capability text and a request
abbrev pub IsVerdictText : Printing → List ℕ → Option ℕ → Asked → List ℕ → Type 0
IsVerdictText how caps until asked text =
    (read : Reading) × IsReading how.rules caps until read
    × ((answer : Result Verdict VerdictFault) × IsAnswerOf read asked answer × (text ≡ printed_by how read asked answer))
