-- Statement: contracts of public calls use it.
-- Checked rules as a JSON document (this project's profile): a line without blanks, whose members are in the order of their names.
use Rattle.std.specs.Prelude.{ℕ, List, [], ◌∷◌, ◌++◌, Option, None, Some, Result, Ok, Err, codes, flat_map, map}
use Rattle.std.specs.List.{slice_get}
use Rattle.std.specs.Option.{option_map_or}
use Rattle.serde_json.specs.Data.{Data, array, object, string, number, unsigned, Members, member, no_members}
use Rattle.serde_json.specs.View.{items_of}
use Rattle.compare_text.specs.RequestDocument.{addressed_document}
use Rattle.compare_text.specs.declared.widening.AddressedExample.{AddressedExample}
use Rattle.grant_core.specs.Text.{printed_path}
use Rattle.rights_core.specs.Rights.{Rights}
use Rattle.verdict_text.specs.Documents.{fault_value, list_by, piece}
use Rattle.verdict_text.specs.Reading.{Reading, fault_byte}
use Rattle.verdict_text.specs.declared.entity.ReadEntity.{ReadEntity}
use Rattle.verdict_text.specs.declared.format.Format.TheVariants.{Json}
use Rattle.rules_core.specs.declared.apart.Crossing.{Crossing}
use Rattle.rules_core.specs.declared.checking.Finding.{Finding}
use Rattle.rules_core.specs.declared.checking.Finding.TheVariants.{Unread, Breach, Crossed}
use Rattle.rules_core.specs.declared.checking.Found.{Found}
use Rattle.rules_core.specs.declared.checking.Outcome.{Outcome}
use Rattle.rules_core.specs.declared.checking.Outcome.TheVariants.{Nobody, Kept, Broken}
use Rattle.rules_text.specs.Report.{fault_of, name_at, outcome_word}
use Rattle.rules_text.specs.declared.checked.CheckedRule.{CheckedRule}

-- the byte of the fault for which the entity at an index is not checked, if the fault has one
abbrev pub why_byte : Reading → Option ℕ
why_byte (Ok rights) = None
why_byte (Err fault) = fault_byte fault

abbrev pub byte_of : List ReadEntity → ℕ → Option ℕ
byte_of entities place = option_map_or (λ (entity : ReadEntity). why_byte entity.osd.read) (slice_get entities place) None

abbrev pub unread_document : List ℕ → List ℕ → Option ℕ → Data
unread_document name fault byte = object (member (codes "entity") (string name) (member (codes "fault") (fault_value fault byte) no_members))

-- an entity, and a request with a grant
abbrev pub request_document : List ℕ → AddressedExample → Data
request_document name found =
    object (member (codes "entity") (string name) (member (codes "grant") (string (printed_path found.example.path)) (member (codes "request") (addressed_document found) no_members)))

-- the same, and the entity from which it is not apart
abbrev pub crossed_document : List ℕ → List ℕ → Crossing → Data
crossed_document name other crossing =
    object (member (codes "entity") (string name) (member (codes "grant") (string (printed_path crossing.one.example.path)) (member (codes "other") (request_document other crossing.other)
    (member (codes "request") (addressed_document crossing.one) no_members))))

abbrev pub finding_document : List ReadEntity → ℕ → Finding → Data
finding_document entities place Unread = unread_document (name_at entities place) (fault_of entities place) (byte_of entities place)
finding_document entities place (Breach found) = request_document (name_at entities place) found
finding_document entities place (Crossed other crossing) = crossed_document (name_at entities place) (name_at entities other) crossing

abbrev pub found_document : List ReadEntity → Found → Data
found_document entities found = finding_document entities found.place found.finding

abbrev pub founds_of : Outcome → List Found
founds_of Nobody = []
founds_of Kept = []
founds_of (Broken founds) = founds.items

abbrev pub rule_document : List ReadEntity → CheckedRule → Data
rule_document entities one =
    object (member (codes "findings") (array (items_of (map (found_document entities) (founds_of one.outcome)))) (member (codes "line") (number (unsigned one.line.now.line))
    (member (codes "outcome") (string (outcome_word one.outcome)) (member (codes "rule") (string one.line.now.text) no_members))))

abbrev pub rule_piece : List ReadEntity → CheckedRule → List ℕ
rule_piece entities one = piece (rule_document entities one)

-- the document
abbrev pub document : List ReadEntity → List CheckedRule → List ℕ
document entities all = list_by (codes "checks") Json (flat_map (rule_piece entities) all)
